-- What a cell of a table is, apart from where its text lies in memory.
use Rattle.std.specs.Prelude.{ℕ, Bool, true, false, not, List, [], ◌∷◌, ◌++◌, map, ℤ, pos, negsuc, string_bytes, ◌==◌, Option, Some, None, option_and_then, codes}
use Rattle.std.specs.Fmt.{signed_decimal, debug_str}
use Rattle.std.specs.declared.cmp.Ordering.{Ordering}
use Rattle.std.specs.declared.cmp.Ordering.TheVariants.{Less, Equal, Greater}
use Rattle.std.specs.Ordering.{nat_cmp, int_cmp}
use Rattle.std.specs.Cmp.Lexicographic.{slice_cmp}
use Rattle.msi_values.specs.declared.value.Value.{Value}
use Rattle.msi_values.specs.declared.value.Value.TheVariants as held

-- a value: a text is the list of its bytes
pub data Datum : Type 0 where
  null : Datum
  number : ℤ → Datum
  text : List ℕ → Datum
  binary : Datum

-- a value as what it says
abbrev pub datum_of : Value → Datum
datum_of held.Null = null
datum_of (held.Int z) = number z
datum_of (held.Str s) = text (string_bytes s)
datum_of held.Binary = binary

-- those of a list
abbrev pub data_of : List Value → List Datum
data_of vs = map datum_of vs

-- null comes before numbers, numbers before texts by their bytes, texts before binary
abbrev pub datum_cmp : Datum → Datum → Ordering
datum_cmp null null = Equal
datum_cmp null _ = Less
datum_cmp (number x) null = Greater
datum_cmp (number x) (number y) = int_cmp x y
datum_cmp (number x) (text t) = Less
datum_cmp (number x) binary = Less
datum_cmp (text s) null = Greater
datum_cmp (text s) (number y) = Greater
datum_cmp (text s) (text t) = slice_cmp nat_cmp s t
datum_cmp (text s) binary = Less
datum_cmp binary binary = Equal
datum_cmp binary _ = Greater

-- null, 0 and the empty text count as false
abbrev pub counts_as_true : Datum → Bool
counts_as_true null = false
counts_as_true (number (pos n)) = not (n == 0)
counts_as_true (number (negsuc n)) = true
counts_as_true (text []) = false
counts_as_true (text (b ∷ bs)) = true
counts_as_true binary = true

-- 1 or 0
abbrev pub truth : Bool → Datum
truth true = number (pos 1)
truth false = number (pos 0)

-- the bytes that `{}` writes; a text past ASCII has none
abbrev pub datum_text : Datum → Option (List ℕ)
datum_text null = Some (codes "NULL")
datum_text (number z) = Some (signed_decimal z)
datum_text (text s) = debug_str s
datum_text binary = Some (codes "BINARY_STREAM")

-- the same under the options of a hole, which lay out a word, a quoted text and a number so
abbrev pub datum_text_under : (List ℕ → List ℕ) → (List ℕ → Option (List ℕ)) → (ℤ → List ℕ) → Datum → Option (List ℕ)
datum_text_under word quoted decimal null = Some (word (codes "NULL"))
datum_text_under word quoted decimal (number z) = Some (decimal z)
datum_text_under word quoted decimal (text s) = option_and_then quoted (debug_str s)
datum_text_under word quoted decimal binary = Some (word (codes "BINARY_STREAM"))

-- the number of a value, if it is one
abbrev pub number_in : Datum → Option ℤ
number_in (number z) = Some z
number_in _ = None

-- its text
abbrev pub text_in : Datum → Option (List ℕ)
text_in (text s) = Some s
text_in _ = None

-- texts with a comma between each two
abbrev pub with_commas : List (List ℕ) → List ℕ
with_commas [] = []
with_commas (t ∷ []) = t
with_commas (t ∷ u ∷ ts) = t ++ 44 ∷ with_commas (u ∷ ts)
