-- The summary of a package: which property says what, and how it is edited.
use Rattle.std.specs.Prelude.{ℕ, ℤ, List, [], ◌∷◌, ◌++◌, map, Bool, ◌^◌, ◌==◌, if◌then◌else◌, Option, Some, None, option_map, option_and_then, unwrap_or, codes, reverse, length, Result, Ok, bytes_eq}
use Rattle.std.specs.List.{filter_map, flat_map, slice_split, before_first, after_first}
use Rattle.std.specs.Str.{trim}
use Rattle.uuid.specs.Text.{parsed}
use Rattle.std.specs.Fmt.{decimal}
use Rattle.std.specs.Str.Parse.{digits_value, without_leading_plus}
use Rattle.msi_texts.specs.Category.{reads_unsigned}
use Rattle.msi_texts.specs.declared.codepage.CodePage.{CodePage}
use Rattle.msi_texts.specs.declared.codepage.CodePage.TheVariants as page
use Rattle.msi_props.specs.declared.system.OperatingSystem.TheVariants.{Win32}
use Rattle.msi_props.specs.Props.{Props, Property, property_named, property_put, property_removed, new_props, with_page, props_read}
use Rattle.msi_texts.specs.Results.{◌>>=◌, unless_not}
use Rattle.cfb_medium.specs.declared.error.Error.{Error}
use Rattle.cfb_medium.specs.declared.error.Error.TheVariants.{InvalidData}
use Rattle.msi_props.specs.Props as property

-- the format of a summary, sixteen bytes
abbrev pub summary_format : List ℕ
summary_format = 0xE0 ∷ 0x85 ∷ 0x9F ∷ 0xF2 ∷ 0xF9 ∷ 0x4F ∷ 0x68 ∷ 0x10 ∷ 0xAB ∷ 0x91 ∷ 0x08 ∷ 0x00 ∷ 0x2B ∷ 0x27 ∷ 0xB3 ∷ 0xD9 ∷ []

-- a new summary, which has its page alone
abbrev pub new_summary : Props
new_summary = with_page page.Utf8 (new_props Win32 10 summary_format)

-- the summary that the bytes hold, or the first fault
abbrev pub summary_read : List ℕ → Result Props Error
summary_read bytes = props_read bytes >>= λ s. unless_not (bytes_eq s.format summary_format) InvalidData >>= λ _. Ok s

-- A change of the summary: the text, number, time or list of a field; none clears it, and leaves a text of the last three but the page.
-- Texts: 2 title, 3 subject, 4 author, 6 comments, 8 last saved by, 9 the identifier in braces, hyphenated, in upper case, 18 creating application.
-- Numbers: 14 pages, 15 words, 16 characters, 19 security. Times: 11 last printed, 12 creation, 13 last save.
pub data Edit : Type 0 where
  set_text : ℕ → Option (List ℕ) → Edit
  set_number : ℕ → Option ℤ → Edit
  set_time : ℕ → Option ℕ → Edit
  set_arch : Option (List ℕ) → Edit
  set_languages : Option (List ℕ) → Edit
  set_keywords : Option (List (List ℕ)) → Edit
  set_page : CodePage → Edit

-- ---- edits

-- the set with another value of a number, or without it
abbrev pub set_or_cleared : ℕ → Option Property → Props → Props
set_or_cleared n None s = record s { values = property_removed n s.values }
set_or_cleared n (Some v) s = record s { values = property_put n v s.values }

-- the text of a value; another value counts as the empty text
abbrev pub text_of : Option Property → List ℕ
text_of (Some (property.text t)) = t
text_of _ = []

-- texts with a text between each two
abbrev pub join_texts : List ℕ → List (List ℕ) → List ℕ
join_texts between [] = []
join_texts between (t ∷ ts) = t ++ flat_map (λ u. between ++ u) ts

-- the byte that parts the template
abbrev pub is_semicolon : ℕ → Bool
is_semicolon b = b == 59

-- another architecture, always a `;`, and what followed the first one
abbrev pub with_arch : List ℕ → Props → Props
with_arch arch s = set_or_cleared 7 (Some (property.text (arch ++ codes ";" ++ after_first is_semicolon (text_of (property_named 7 s))))) s

-- other languages behind the first `;`, and what precedes it
abbrev pub with_languages : List ℕ → Props → Props
with_languages ids s =
    set_or_cleared 7 (Some (property.text (before_first is_semicolon (text_of (property_named 7 s)) ++ codes ";" ++ join_texts (codes ",") (map decimal ids)))) s

-- the summary after an edit
abbrev pub edited : Edit → Props → Props
edited (set_text n value) s = set_or_cleared n (option_map property.text value) s
edited (set_number n value) s = set_or_cleared n (option_map property.i4 value) s
edited (set_time n value) s = set_or_cleared n (option_map property.time value) s
edited (set_arch value) s = with_arch (unwrap_or value []) s
edited (set_languages value) s = with_languages (unwrap_or value []) s
edited (set_keywords value) s = set_or_cleared 5 (Some (property.text (join_texts (codes "; ") (unwrap_or value [])))) s
edited (set_page p) s = with_page p s

-- ---- what fields say

-- a text; a value of another type says nothing
abbrev pub as_text : Property → Option (List ℕ)
as_text (property.text t) = Some t
as_text _ = None

-- a number
abbrev pub as_number : Property → Option ℤ
as_number (property.i4 z) = Some z
as_number _ = None

-- a time
abbrev pub as_time : Property → Option ℕ
as_time (property.time n) = Some n
as_time _ = None

-- a field by its number
abbrev pub text_field : ℕ → Props → Option (List ℕ)
text_field n s = option_and_then as_text (property_named n s)

-- a number's field
abbrev pub number_field : ℕ → Props → Option ℤ
number_field n s = option_and_then as_number (property_named n s)

-- a time's field
abbrev pub time_field : ℕ → Props → Option ℕ
time_field n s = option_and_then as_time (property_named n s)

-- no empty text
abbrev pub some_text : List ℕ → Option (List ℕ)
some_text [] = None
some_text (b ∷ bs) = Some (b ∷ bs)

-- what precedes the template's first `;`
abbrev pub arch_of : Props → Option (List ℕ)
arch_of s = option_and_then (λ t. some_text (before_first is_semicolon t)) (text_field 7 s)

-- a number of 16 bits, where the text is one
abbrev pub id_read : List ℕ → Option ℕ
id_read t = if reads_unsigned (2 ^ 16) t then Some (digits_value 10 (without_leading_plus t)) else None

-- the numbers among the texts behind it
abbrev pub languages_of : Props → List ℕ
languages_of s = filter_map id_read (slice_split (λ b. b == 44) (after_first is_semicolon (text_of (property_named 7 s))))

-- texts that semicolons part, without the white space at their ends; no text has none
abbrev pub parts_of : List ℕ → List (List ℕ)
parts_of t = if length t == 0 then [] else map trim (slice_split is_semicolon t)

-- the keywords
abbrev pub keywords_of : Props → List (List ℕ)
keywords_of s = parts_of (text_of (property_named 5 s))

-- a text without those bytes at its front
abbrev pub without_front : (ℕ → Bool) → List ℕ → List ℕ
without_front p [] = []
without_front p (b ∷ bs) = if p b then without_front p bs else b ∷ bs

-- a text without the braces before it and behind it
abbrev pub unbraced : List ℕ → List ℕ
unbraced t = reverse (without_front (λ b. b == 125) (reverse (without_front (λ b. b == 123) t)))

-- the identifier
abbrev pub uuid_of : Props → Option (List ℕ)
uuid_of s = option_and_then (λ t. parsed (unbraced t)) (text_field 9 s)
