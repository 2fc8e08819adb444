-- Values that break what `_Validation` states of their columns.
use Rattle.std.specs.Prelude.{Bool, false, not, ◌&&◌, ◌||◌, List, is_some}
use Rattle.std.specs.Option.{option_map_or}
use Rattle.msi_listing.specs.Content.{CellContent, ListingContent}
use Rattle.package_rules.specs.Places.{places_where}
use Rattle.package_rules.specs.Said.{said_of}
use Rattle.package_rules.specs.declared.place.Place.{Place}
use Rattle.column_rules.specs.Stated.{judged_in, leaves_free, names_set, names_tables, sets_bounds}
use Rattle.column_rules.specs.Values.{is_beyond, is_misspelled, is_unlisted}
use Rattle.column_rules.specs.declared.constraint.Constraint.{Constraint}
use Rattle.column_rules.specs.declared.constraint.Constraint.TheVariants as constraint

-- A row of `_Validation` states this, and nothing else that a value may be instead: constraints are alternatives. A category of identifiers or of any text isn't one, as beside tables.
abbrev pub asks : Constraint → List CellContent → Bool
asks constraint.Set v = not (names_tables v) && names_set v && not (sets_bounds v) && not (leaves_free v)
asks constraint.Range v = not (names_tables v) && sets_bounds v && not (names_set v) && not (leaves_free v)
asks constraint.Category v = not (names_tables v) && is_some (judged_in v) && not (names_set v) && not (sets_bounds v)

abbrev pub breaks : Constraint → List CellContent → CellContent → Bool
breaks constraint.Set v d = is_unlisted v d
breaks constraint.Range v d = is_beyond v d
breaks constraint.Category v d = is_misspelled v d

-- the values that break it, by the first row that speaks of their column
abbrev pub constraint_found : Constraint → ListingContent → List Place
constraint_found k L = places_where (λ t c. option_map_or (asks k) (said_of L t.name c.name) false)
    (λ t c row d. option_map_or (λ v. breaks k v d) (said_of L t.name c.name) false) L
