-- Columns of which `_Validation` says nothing.
use Rattle.std.specs.Prelude.{ℕ, Bool, true, false, not, ◌&&◌, ◌==◌, List, [], ◌∷◌, Option, is_none, length, codes, bytes_eq, if◌then◌else◌}
use Rattle.std.specs.List.{list_any}
use Rattle.msi_listing.specs.Content.{CellContent, ListingContent, TableContent}
use Rattle.package_rules.specs.Places.{numbered}
use Rattle.package_rules.specs.Said.{said_of}
use Rattle.column_rules.specs.declared.described.ColumnPlace.{ColumnPlace}

-- a table is `_Validation`, and has rows
abbrev pub describes : List TableContent → Bool
describes ts = list_any (λ t. bytes_eq t.name (codes "_Validation") && not (length t.rows == 0)) ts

-- a column, where a test says so
abbrev pub column_if : Bool → ℕ → ℕ → List ColumnPlace
column_if true i k = record { table = i; column = k } ∷ []
column_if false i k = []

-- the columns of table i of which nothing is said; those of `_Validation` itself are passed over
abbrev pub undescribed_at : (List ℕ → List ℕ → Option (List CellContent)) → ℕ → TableContent → List ColumnPlace
undescribed_at said i t =
    if bytes_eq t.name (codes "_Validation") then []
    else numbered (λ k c. column_if (is_none (said t.name c.name)) i k) t.columns

abbrev pub undescribed_found : ListingContent → List ColumnPlace
undescribed_found L = if describes L.tables then numbered (undescribed_at (said_of L)) L.tables else []
