-- Columns that are named for another table, as the standard tables of Windows Installer have them.
use Rattle.std.specs.Prelude.{ℕ, false, not, ◌&&◌, List, [], ◌∷◌, Option, Some, None, is_some, codes, bytes_eq, if◌then◌else◌}
use Rattle.std.specs.Option.{option_map_or}
use Rattle.msi_listing.specs.Content.{ListingContent}
use Rattle.package_rules.specs.Cells.{is_null}
use Rattle.package_rules.specs.Foreign.{entries, stands}
use Rattle.package_rules.specs.Places.{places_where}
use Rattle.package_rules.specs.Said.{said_of, tables_in}
use Rattle.package_rules.specs.declared.place.Place.{Place}

-- the table for which a column of any table is named
abbrev pub target_of_column : List ℕ → Option (List ℕ)
target_of_column column =
    if bytes_eq column (codes "Component_") then Some (codes "Component")
    else if bytes_eq column (codes "Feature_") then Some (codes "Feature")
    else if bytes_eq column (codes "File_") then Some (codes "File")
    else if bytes_eq column (codes "Directory_") then Some (codes "Directory")
    else if bytes_eq column (codes "Icon_") then Some (codes "Icon")
    else if bytes_eq column (codes "Dialog_") then Some (codes "Dialog")
    else None

-- these tables
abbrev pub all_targets : List (List ℕ)
all_targets = codes "Component" ∷ codes "Feature" ∷ codes "File" ∷ codes "Directory" ∷ codes "Icon" ∷ codes "Dialog" ∷ []

-- and one of these two tables for itself
abbrev pub target_of : List ℕ → List ℕ → Option (List ℕ)
target_of table column =
    if bytes_eq table (codes "Directory") && bytes_eq column (codes "Directory_Parent") then Some (codes "Directory")
    else if bytes_eq table (codes "Feature") && bytes_eq column (codes "Feature_Parent") then Some (codes "Feature")
    else target_of_column column

-- a cell that holds something, in such a column, and isn't in the first column of that table; `_Validation` names no tables for the column
abbrev pub refers_found : ListingContent → List Place
refers_found L = places_where (λ t c. is_some (target_of t.name c.name) && not (option_map_or (λ v. is_some (tables_in v)) (said_of L t.name c.name) false))
    (λ t c row d. not (is_null d) && option_map_or (λ target. not (stands (entries L) target 1 d)) (target_of t.name c.name) false) L
