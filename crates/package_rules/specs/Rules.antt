-- For each rule the places at which a listing breaks it.
use Rattle.std.specs.Prelude.{ℕ, Bool, true, false, not, ◌&&◌, ◌==◌, List, [], ◌∷◌, ◌++◌, length, chars, nat_lt, bytes_eq, codes, filter}
use Rattle.std.specs.List.{list_any}
use Rattle.msi_listing.specs.Content.{CellContent, ListingContent, null, number, text, bytes}
use Rattle.msi_listing.specs.declared.column.Kind.{Kind}
use Rattle.msi_listing.specs.declared.column.Kind.TheVariants as kind
use Rattle.package_rules.specs.Cells.{cell_at, is_null, is_text}
use Rattle.package_rules.specs.Keys.{repeated_found}
use Rattle.package_rules.specs.Needs.{all_needed, name_of}
use Rattle.package_rules.specs.Places.{places_where}
use Rattle.package_rules.specs.declared.place.Place.{Place}
use Rattle.package_rules.specs.declared.products.Needed.{Needed}

-- a null in a column that takes none
abbrev pub nullable_found : ListingContent → List Place
nullable_found L = places_where (λ t c. not c.nullable) (λ t c row d. is_null d) L

-- a null in a column of the key that takes none; behind these the rows that have the key of a row before them
abbrev pub key_found : ListingContent → List Place
key_found L = places_where (λ t c. c.key && not c.nullable) (λ t c row d. is_null d) L ++ repeated_found L

-- ---- texts

-- the column sets a bound on its texts
abbrev pub sets_bound : Kind → Bool
sets_bound (kind.Str n) = not (n == 0)
sets_bound kind.Int16 = false
sets_bound kind.Int32 = false
sets_bound kind.Binary = false

-- a text of more characters than its column takes
abbrev pub is_longer : Kind → CellContent → Bool
is_longer (kind.Str n) (text t) = nat_lt n (length (chars t))
is_longer (kind.Str n) null = false
is_longer (kind.Str n) (number z) = false
is_longer (kind.Str n) bytes = false
is_longer kind.Int16 d = false
is_longer kind.Int32 d = false
is_longer kind.Binary d = false

abbrev pub length_found : ListingContent → List Place
length_found L = places_where (λ t c. sets_bound c.kind) (λ t c row d. is_longer c.kind d) L

-- columns of texts
abbrev pub has_texts : Kind → Bool
has_texts (kind.Str n) = true
has_texts kind.Int16 = false
has_texts kind.Int32 = false
has_texts kind.Binary = false

-- an empty text, which no cell holds
abbrev pub empty_found : ListingContent → List Place
empty_found L = places_where (λ t c. has_texts c.kind) (λ t c row d. is_text [] d) L

-- ---- what a product must have

-- there is a property of this name
abbrev pub has_property : ListingContent → List ℕ → Bool
has_property L name = list_any (λ t. bytes_eq t.name (codes "Property") && list_any (λ row. is_text name (cell_at 0 row)) t.rows) L.tables

-- the properties that a product must have and this one lacks
abbrev pub required_found : ListingContent → List Needed
required_found L = filter (λ n. not (has_property L (name_of n))) all_needed

-- and the numbers of such properties of its summary: template, revision number, page count, word count
abbrev pub summary_found : ListingContent → List ℕ
summary_found L = filter (λ n. not (list_any (λ p. p.0 == n) L.properties)) (7 ∷ 9 ∷ 14 ∷ 15 ∷ [])
