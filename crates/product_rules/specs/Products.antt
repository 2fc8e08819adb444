-- Properties of a product that aren't what they must be.
use Rattle.std.specs.Prelude.{ℕ, ◌^◌, Bool, true, false, not, ◌&&◌, ◌||◌, ◌==◌, List, [], ◌∷◌, length, filter, codes, bytes_eq, if◌then◌else◌}
use Rattle.std.specs.List.{list_any}
use Rattle.std.specs.Option.{option_map_or}
use Rattle.msi_listing.specs.Content.{CellContent, ListingContent, PropertyContent, empty, nothing, i1, i2, i4, words, time}
use Rattle.msi_texts.specs.Category.{is_guid, is_in_category, reads_unsigned}
use Rattle.msi_texts.specs.declared.category.Category.TheVariants as category
use Rattle.package_rules.specs.Cells.{cell_at}
use Rattle.package_rules.specs.Places.{places_where}
use Rattle.package_rules.specs.Said.{words_in}
use Rattle.package_rules.specs.declared.place.Place.{Place}
use Rattle.product_rules.specs.Texts.{is_version, languages_in}

-- what the property of a name must be
abbrev pub is_misgiven_text : List ℕ → List ℕ → Bool
is_misgiven_text name value =
    if bytes_eq name (codes "ProductCode") || bytes_eq name (codes "UpgradeCode") then not (is_guid value)
    else if bytes_eq name (codes "ProductVersion") then not (is_version value)
    else if bytes_eq name (codes "ProductLanguage") then not (reads_unsigned (2 ^ 16) value)
    else false

-- a value that holds something, beside its name
abbrev pub is_misgiven : CellContent → CellContent → Bool
is_misgiven n d = option_map_or (λ name. option_map_or (is_misgiven_text name) (words_in d) false) (words_in n) false

abbrev pub misgiven_found : ListingContent → List Place
misgiven_found L = places_where (λ t c. bytes_eq t.name (codes "Property") && bytes_eq c.name (codes "Value")) (λ t c row d. is_misgiven (cell_at 0 row) d) L

-- ---- the summary

-- `;`, with numbers of languages or nothing behind it
abbrev pub is_template : List ℕ → Bool
is_template t = option_map_or (λ languages. length languages == 0 || is_in_category category.Language languages) (languages_in t) false

-- what the template, and else the revision number must be
abbrev pub is_misgiven_property : ℕ → PropertyContent → Bool
is_misgiven_property n (words t) = if n == 7 then not (is_template t) else not (is_guid t)
is_misgiven_property n empty = false
is_misgiven_property n nothing = false
is_misgiven_property n (i1 z) = false
is_misgiven_property n (i2 z) = false
is_misgiven_property n (i4 z) = false
is_misgiven_property n (time z) = false

abbrev pub has_misgiven : ListingContent → ℕ → Bool
has_misgiven L n = list_any (λ p. p.0 == n && is_misgiven_property n p.1) L.properties

abbrev pub summary_found : ListingContent → List ℕ
summary_found L = filter (has_misgiven L) (7 ∷ 9 ∷ [])
