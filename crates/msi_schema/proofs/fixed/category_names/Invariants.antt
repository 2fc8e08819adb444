use Rattle.std.proofs.Common.{◌≡◌, ◌++◌, drop, map}
use Rattle.msi_texts.specs.Category.{all_categories, name_of}
use Rattle.msi_schema.proofs.fixed.category_names.Given as goal

-- the names so far and those that are left are all
abbrev pub invariant-loop-category : goal.invariant-loop-category
invariant-loop-category l = map (λ name. name.now) l.names.items ++ map name_of (drop l.category-index l.category-items) ≡ map name_of all_categories
