-- What is said of a column, by the map and by the rows.
use Rattle.std.proofs.Common.{◌≡◌, false}
use Rattle.std.specs.Prelude.{codes}
use Rattle.std.specs.Option.{option_map_or}
use Rattle.msi_listing.specs.Content.{ListingContent}
use Rattle.package_rules.specs.Firsts.{AreFirsts, Said, said_at}
use Rattle.package_rules.specs.Places.{numbered, places_where}
use Rattle.package_rules.specs.Said.{rows_named}
use Rattle.package_rules.proofs.ForeignFound.{found_row}
use Rattle.column_rules.specs.Constraints.{asks, breaks, constraint_found}
use Rattle.column_rules.specs.Described.{undescribed_at}
use Rattle.column_rules.specs.declared.constraint.Constraint.{Constraint}
use Rattle.package_rules.specs.Said.{said_of}

pub constraint_stands : (k : Constraint) (L : ListingContent) (m : Said) → AreFirsts (rows_named (codes "_Validation") L) m
    → places_where (λ t c. option_map_or (asks k) (said_at m t.name c.name) false) (λ t c row d. option_map_or (λ v. breaks k v d) (said_at m t.name c.name) false) L ≡ constraint_found k L
constraint_stands k L m told = λ i.
    places_where (λ t c. option_map_or (asks k) (found_row L m told t.name c.name i) false) (λ t c row d. option_map_or (λ v. breaks k v d) (found_row L m told t.name c.name i) false) L

pub undescribed_stands : (L : ListingContent) (m : Said) → AreFirsts (rows_named (codes "_Validation") L) m → numbered (undescribed_at (said_at m)) L.tables ≡ numbered (undescribed_at (said_of L)) L.tables
undescribed_stands L m told = λ i. numbered (undescribed_at (λ t c. found_row L m told t c i)) L.tables
