-- Values that aren't what a row of `_Validation` states. An empty text counts as null, as other programs take it.
use Rattle.std.specs.Prelude.{ℕ, ℤ, Bool, true, false, not, ◌&&◌, ◌==◌, List, Option, Some, None, bytes_eq, int_le}
use Rattle.std.specs.Fmt.{signed_decimal}
use Rattle.std.specs.List.{list_any, slice_split}
use Rattle.std.specs.Option.{option_map_or}
use Rattle.msi_listing.specs.Content.{CellContent, null, number, text, bytes}
use Rattle.msi_texts.specs.Category.{is_in_category}
use Rattle.package_rules.specs.Said.{words_in}
use Rattle.column_rules.specs.Stated.{high_in, judged_in, low_in, set_in}

-- one of the texts between semicolons
abbrev pub is_listed : List ℕ → List ℕ → Bool
is_listed set t = list_any (λ part. bytes_eq part t) (slice_split (λ b. b == 59) set)

-- how a value is written: a number in decimal digits
abbrev pub written : CellContent → Option (List ℕ)
written null = None
written (number z) = Some (signed_decimal z)
written (text t) = words_in (text t)
written bytes = None

-- a value that isn't listed
abbrev pub is_unlisted : List CellContent → CellContent → Bool
is_unlisted v d = option_map_or (λ set. option_map_or (λ t. not (is_listed set t)) (written d) false) (set_in v) false

-- between the bounds that there are
abbrev pub is_within : Option ℤ → Option ℤ → ℤ → Bool
is_within low high z = option_map_or (λ least. int_le least z) low true && option_map_or (λ most. int_le z most) high true

-- a number that isn't
abbrev pub is_beyond : List CellContent → CellContent → Bool
is_beyond v (number z) = not (is_within (low_in v) (high_in v) z)
is_beyond v null = false
is_beyond v (text t) = false
is_beyond v bytes = false

-- a text that its category doesn't take
abbrev pub is_misspelled : List CellContent → CellContent → Bool
is_misspelled v d = option_map_or (λ c. option_map_or (λ t. not (is_in_category c t)) (words_in d) false) (judged_in v) false
