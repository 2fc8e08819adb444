-- Inserts into one table that follow one another.
use Rattle.std.specs.Prelude.{◌≡◌, ℕ, List, [], ◌∷◌, Ok}
use Rattle.std.specs.List.{flat_map}
use Rattle.msi_values.specs.Datum.{Datum}
use Rattle.msi_spec.specs.Calls.{Inserts}
use Rattle.msi_spec.specs.Package.{PackageContent}

-- the rows of some inserts, those of one behind those of the one before it
abbrev pub joined_rows : List (List (List Datum)) → List (List Datum)
joined_rows inserts = flat_map (λ rows. rows) inserts

-- each in turn is done, on the package that the one before it left
abbrev pub InsertsEach : PackageContent → List ℕ → List (List (List Datum)) → PackageContent → Type 0
InsertsEach P name [] Q = Q ≡ P
InsertsEach P name (rows ∷ more) Q = (Mid : PackageContent) × Inserts P name rows Mid (Ok tt) × InsertsEach Mid name more Q
