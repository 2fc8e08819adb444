-- Property sets in UTF-8, of texts in a page of one's choice.
use Rattle.std.specs.Prelude.{◌≡◌, ℕ, ◌+◌, ◌<◌, ◌≤◌, ◌==◌, if◌then◌else◌, List, [], ◌∷◌, ◌++◌, map, length, nat_lt, take, Option, Some, None, Result, Ok}
use Rattle.std.specs.List.{AllByRecursion}
use Rattle.cfb_medium.specs.declared.error.Error.{Error}
use Rattle.cfb_medium.specs.declared.error.Error.TheVariants.{InvalidInput}
use Rattle.msi_props.specs.Props.{is_in_size, properties_at, property_put, property_removed, props_bytes, stored_props, under, with_page, Property, Props}
use Rattle.msi_props.specs.Props as property
use Rattle.msi_texts.specs.Results.{◌>>=◌, unless_not}
use Rattle.msi_texts.specs.declared.codepage.CodePage.{CodePage}
use Rattle.msi_texts.specs.declared.codepage.CodePage.TheVariants.{Utf8}
use Rattle.reread_texts.specs.Texts.{all_have_characters, text_of}
use Rattle.reread_texts.specs.declared.page.TextPage.{TextPage}

-- a value as the page reads it
abbrev pub value_by : TextPage → Property → Property
value_by p (property.text bytes) = property.text (text_of p bytes)
value_by p v = v

-- those of a set but property 1, which tells the page
abbrev pub values_by : TextPage → List (ℕ × Property) → List (ℕ × Property)
values_by p vs = map (λ v. (v.0, value_by p v.1)) (property_removed 1 vs)

-- the number of a text of which bytes have no character
abbrev pub lacking_value : TextPage → ℕ → Property → List ℕ
lacking_value p n (property.text bytes) = if all_have_characters p bytes then [] else (n ∷ [])
lacking_value p n v = []

-- the numbers of those
abbrev pub lacking_among : TextPage → List (ℕ × Property) → List ℕ
lacking_among p [] = []
lacking_among p (v ∷ vs) = lacking_value p v.0 v.1 ++ lacking_among p vs

abbrev pub lacking_values : TextPage → List (ℕ × Property) → List ℕ
lacking_values p vs = lacking_among p (property_removed 1 vs)

-- a set whose texts are bytes, as the page reads it; property 1 then tells UTF-8
abbrev pub set_by : TextPage → Props → Props
set_by p s = with_page Utf8 (record s { values = values_by p s.values })

-- where it can be written: its bytes, the numbers of the texts of which bytes have no character, and how many sections it had
abbrev pub Rewritten : Type 0
Rewritten = List ℕ × List ℕ × ℕ

abbrev pub set_written : TextPage → Props → Result Rewritten Error
set_written p s = unless_not (is_in_size (set_by p s)) InvalidInput >>= λ _. Ok (props_bytes (set_by p s), lacking_values p s.values, s.sections)

-- THE SET IN UTF-8, of bytes whose texts the page reads
abbrev pub set_reread : TextPage → List ℕ → Result Rewritten Error
set_reread p bytes = stored_props bytes >>= set_written p

-- ---- on the way to it

-- the bytes of a value that is a text
abbrev pub text_in : Property → Option (List ℕ)
text_in (property.text bytes) = Some bytes
text_in _ = None

-- so many bytes, where they are there
abbrev pub front_of : ℕ → List ℕ → Option (List ℕ)
front_of n bytes = if nat_lt (length bytes) n then None else Some (take n bytes)

-- numbers that rise, from one on
abbrev pub RiseFrom : ℕ → List (ℕ × ℕ) → Type 0
RiseFrom low [] = Unit {0}
RiseFrom low (q ∷ qs) = (low ≤ q.0) × RiseFrom (q.0 + 1) qs

-- a set that got the text at a number as the page reads it, where one stands there; property 1 stays
abbrev pub given : TextPage → ℕ → Option (List ℕ) → Props → Props
given p n None s = s
given p n (Some bytes) s = if n == 1 then s else record s { values = property_put n (property.text (text_of p bytes)) s.values }

-- its number, where bytes of it have no character
abbrev pub lacking_at : TextPage → ℕ → Option (List ℕ) → List ℕ
lacking_at p n None = []
lacking_at p n (Some bytes) = if n == 1 then [] else (if all_have_characters p bytes then [] else (n ∷ []))

-- values but property 1, as another page reads them
abbrev pub values_under : CodePage → List (ℕ × Property) → List (ℕ × Property)
values_under q vs = map (λ v. (v.0, under q v.1)) (property_removed 1 vs)

-- A set on the way: of what stands at these offsets the texts are still those of another page; all before are as the page reads them.
pub record IsOnTheWay (p : TextPage) (q : CodePage) (version : ℕ) (section : List ℕ) (all : List (ℕ × Property)) (first : Props) (lacked : List ℕ) (left : List (ℕ × ℕ)) (now : Props) (lacking : List ℕ) : Type 0 where
  pub more : List (ℕ × Property)
  pub reads : properties_at version section left ≡ Ok more
  pub done : List (ℕ × Property)
  pub low : ℕ
  pub below : AllByRecursion (λ v. v.0 < low) done
  pub rising : RiseFrom low left
  pub holds : now ≡ record first { values = done ++ values_under q more }
  pub gives : done ++ values_by p more ≡ values_by p all
  pub lacks : lacking ++ lacking_values p more ≡ lacked ++ lacking_values p all
