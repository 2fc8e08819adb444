-- What is found by sets is what the definitions say.
use Rattle.std.proofs.Common.{◌≡◌, ◌∙◌, ℕ, Bool, true, false, not, List, [], ◌∷◌, Option, Some, None, refl, ap, ap₂}
use Rattle.std.specs.Prelude.{◌&&◌, bytes_eq, codes}
use Rattle.std.specs.Option.{option_map_or}
use Rattle.msi_listing.specs.Content.{CellContent, ListingContent}
use Rattle.package_rules.specs.Asked.{ColumnSet, asks}
use Rattle.package_rules.specs.Firsts.{AreEntries, CellSet, is_in}
use Rattle.package_rules.specs.Foreign.{entries, stands}
use Rattle.package_rules.specs.Places.{places_where}
use Rattle.package_rules.specs.Said.{words_in}
use Rattle.package_rules.proofs.FirstsPut.{both}
use Rattle.package_rules.proofs.ForeignFound.{found_cell}
use Rattle.product_rules.specs.Actions.{action_found, asks_actions, is_sequence, is_standard, is_unknown}

pub action_stands : (L : ListingContent) (a : ColumnSet) (s : CellSet) → AreEntries a (entries L) s → asks_actions a
    → places_where (λ t c. is_sequence t.name && bytes_eq c.name (codes "Action")) (λ t c row d. is_unknown (is_in s) d) L ≡ action_found L
action_stands L a s are asked = λ i. places_where (λ t c. is_sequence t.name && bytes_eq c.name (codes "Action")) (λ t c row d. same d i) L
  where
    custom : asks a (codes "CustomAction") 1 ≡ true
    custom = (both (asks a (codes "CustomAction") 1) (asks a (codes "Dialog") 1 && true) asked).0

    dialog : asks a (codes "Dialog") 1 ≡ true
    dialog = (both (asks a (codes "Dialog") 1) true (both (asks a (codes "CustomAction") 1) (asks a (codes "Dialog") 1 && true) asked).1).0

    same : (d : CellContent) → is_unknown (is_in s) d ≡ is_unknown (stands (entries L)) d
    same d = ap₂ (λ x y. option_map_or (λ t. not (is_standard t) && not x && not y) (words_in d) false)
        (found_cell a (entries L) s are (codes "CustomAction") 1 d custom) (found_cell a (entries L) s are (codes "Dialog") 1 d dialog)
