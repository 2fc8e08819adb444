-- Actions of sequences that don't exist.
use Rattle.std.specs.Prelude.{◌≡◌, ℕ, Bool, true, false, not, ◌&&◌, ◌||◌, List, [], ◌∷◌, codes, bytes_eq}
use Rattle.std.specs.List.{list_all, list_any}
use Rattle.std.specs.Option.{option_map_or}
use Rattle.msi_listing.specs.Content.{CellContent, ListingContent}
use Rattle.package_rules.specs.Asked.{ColumnSet, asks}
use Rattle.package_rules.specs.Foreign.{entries, stands}
use Rattle.package_rules.specs.Places.{places_where}
use Rattle.package_rules.specs.Said.{words_in}
use Rattle.package_rules.specs.declared.place.Place.{Place}
use Rattle.product_rules.specs.declared.standard.TheConstants.{STANDARD_ACTIONS}

-- the six tables of sequences
abbrev pub is_sequence : List ℕ → Bool
is_sequence t =
    bytes_eq t (codes "AdminExecuteSequence") || bytes_eq t (codes "AdminUISequence") || bytes_eq t (codes "AdvtExecuteSequence")
    || bytes_eq t (codes "AdvtUISequence") || bytes_eq t (codes "InstallExecuteSequence") || bytes_eq t (codes "InstallUISequence")

-- an action that the documentation lists
unfoldable pub is_standard : List ℕ → Bool
is_standard a = list_any (λ s. bytes_eq s.now a) STANDARD_ACTIONS

-- A cell names an action that isn't standard, and that is in the first column of no table of custom actions or of dialogs; `has` tells which cells a column has.
abbrev pub is_unknown : (List ℕ → ℕ → CellContent → Bool) → CellContent → Bool
is_unknown has d = option_map_or (λ t. not (is_standard t) && not (has (codes "CustomAction") 1 d) && not (has (codes "Dialog") 1 d)) (words_in d) false

abbrev pub action_found : ListingContent → List Place
action_found L = places_where (λ t c. is_sequence t.name && bytes_eq c.name (codes "Action")) (λ t c row d. is_unknown (stands (entries L)) d) L

-- the columns that are asked for
abbrev pub asks_actions : ColumnSet → Type 0
asks_actions a = list_all (λ table. asks a table 1) (codes "CustomAction" ∷ codes "Dialog" ∷ []) ≡ true
