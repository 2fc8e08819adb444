-- The derived order of cells where they stand is that of what they hold.
use Rattle.std.proofs.Common.{◌≡◌, List, [], ◌∷◌, map, refl, ap₂}
use Rattle.std.specs.Ordering.{ordering_then}
use Rattle.std.specs.Cmp.Lexicographic.{slice_cmp}
use Rattle.package_rules.specs.Keys.{cell_cmp}
use Rattle.package_rules.specs.Parts.{said}
use Rattle.package_rules.specs.declared.parts.Part.{Part}
use Rattle.package_rules.specs.declared.parts.Part.TheVariants as part
use Rattle.package_rules.specs.contracts.parts.PartOrd.TheImpl.{ghosts}

pub derived_order : (a b : Part) → ghosts.cmp a b ≡ cell_cmp (said a) (said b)
derived_order part.Null part.Null = refl
derived_order part.Null (part.Number y) = refl
derived_order part.Null (part.Text t) = refl
derived_order part.Null part.Bytes = refl
derived_order (part.Number x) part.Null = refl
derived_order (part.Number x) (part.Number y) = refl
derived_order (part.Number x) (part.Text t) = refl
derived_order (part.Number x) part.Bytes = refl
derived_order (part.Text s) part.Null = refl
derived_order (part.Text s) (part.Number y) = refl
derived_order (part.Text s) (part.Text t) = refl
derived_order (part.Text s) part.Bytes = refl
derived_order part.Bytes part.Null = refl
derived_order part.Bytes (part.Number y) = refl
derived_order part.Bytes (part.Text t) = refl
derived_order part.Bytes part.Bytes = refl

-- cell by cell
pub derived_list_order : (xs ys : List Part) → slice_cmp ghosts.cmp xs ys ≡ slice_cmp cell_cmp (map said xs) (map said ys)
derived_list_order [] [] = refl
derived_list_order [] (y ∷ ys) = refl
derived_list_order (x ∷ xs) [] = refl
derived_list_order (x ∷ xs) (y ∷ ys) = ap₂ ordering_then (derived_order x y) (derived_list_order xs ys)
