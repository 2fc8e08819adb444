-- Objects under the root that stand where they may not, by their names.
use Rattle.std.specs.Prelude.{ℕ, not, List, filter, map, chars, string_bytes, String}
use Rattle.std.specs.declared.alloc.Global.{Global}
use Rattle.cfb_spec.specs.TreeRules.{Object, name_of}
use Rattle.cfb_tree.specs.Names.{CaseTable}
use Rattle.msi_parts.specs.Judged.{is_in_place}
use Rattle.msi_tables.specs.Table.{Heading}

-- texts as lists of characters
abbrev pub names_of : List (String Global) → List (List ℕ)
names_of texts = map (λ text. chars (string_bytes text)) texts

-- THE NAMES OF THE OBJECTS that aren't in place, in the order of the objects
abbrev pub misplaced : CaseTable → List Heading → List Object → List (List ℕ)
misplaced letters headings os = map name_of (filter (λ o. not (is_in_place letters headings o)) os)
