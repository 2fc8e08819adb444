-- The summary as the file of a table.
use Rattle.std.specs.Prelude.{◌≡◌, ℕ, ◌==◌, Bool, true, false, ◌&&◌, ◌||◌, List, [], ◌∷◌, ◌++◌, map, nat_le, codes, if◌then◌else◌, Option, Some, None}
use Rattle.std.specs.Fmt.{decimal, signed_decimal}
use Rattle.std.specs.Int.{w16, cast_unsigned}
use Rattle.cfb_medium.specs.Times.{unix_seconds}
use Rattle.idt_rows.specs.Letters.{shown}
use Rattle.idt_tables.specs.Headings.{Heading, heading_lines}
use Rattle.idt_tables.specs.Lines.{text_of}
use Rattle.idt_tables.specs.declared.types.Letter.TheVariants as letter
use Rattle.msi_props.specs.Props.{Property}
use Rattle.msi_props.specs.Props as property
use Rattle.idt_summaries.specs.Moments.{IsMomentCell}
use Rattle.idt_summaries.specs.Reading.{summary_name}

-- a column of numbers, which are the keys, and one of texts
abbrev pub heading : Heading
heading = record {
  table = summary_name;
  names = codes "PropertyId" ∷ codes "Value" ∷ [];
  types = record { letter = letter.Number; nullable = false; width = 2 } ∷ record { letter = letter.Localized; nullable = false; width = 255 } ∷ [];
  keys = codes "PropertyId" ∷ [];
}

-- the numbers whose properties stand in the table
abbrev pub is_exported : ℕ → Bool
is_exported n = (nat_le 1 n && nat_le n 16) || n == 18 || n == 19

-- how a value stands there: a code page without a sign, other numbers with theirs, a text with other characters in place of six; nothing of one
-- that says nothing
abbrev pub IsCell : ℕ → Property → Option (List ℕ) → Type 0
IsCell n property.empty cell = cell ≡ None
IsCell n property.null cell = cell ≡ None
IsCell n (property.i1 z) cell = cell ≡ Some (signed_decimal z)
IsCell n (property.i2 z) cell = cell ≡ Some (if n == 1 then decimal (cast_unsigned w16 z) else signed_decimal z)
IsCell n (property.i4 z) cell = cell ≡ Some (signed_decimal z)
IsCell n (property.text t) cell = cell ≡ Some (map shown t)
IsCell n (property.time units) cell = IsMomentCell (unix_seconds units) cell

-- nothing of one whose number doesn't stand in the table
abbrev pub IsWrittenIf : Bool → ℕ → Property → Option (List ℕ) → Type 0
IsWrittenIf true n v cell = IsCell n v cell
IsWrittenIf false n v cell = cell ≡ None

abbrev pub IsWritten : ℕ → Property → Option (List ℕ) → Type 0
IsWritten n v cell = IsWrittenIf (is_exported n) n v cell

-- the number, a tab and the value
abbrev pub line_with : ℕ → List ℕ → List ℕ
line_with n cell = decimal n ++ 9 ∷ cell

abbrev pub lines_with : ℕ → Option (List ℕ) → List (List ℕ)
lines_with n None = []
lines_with n (Some cell) = line_with n cell ∷ []

-- a line for each property that stands in the table, in their order
abbrev pub AreLines : List (ℕ × Property) → List (List ℕ) → Type 0
AreLines [] lines = lines ≡ []
AreLines (p ∷ ps) lines =
    (cell : Option (List ℕ)) × (rest : List (List ℕ)) × IsWritten p.0 p.1 cell × AreLines ps rest × (lines ≡ lines_with p.0 cell ++ rest)

-- THE FILE OF A SUMMARY: its heading, and the lines of its properties. A moment's text is told by the date and time that have its second
abbrev pub IsSummaryFile : List (ℕ × Property) → List ℕ → Type 0
IsSummaryFile properties text = (lines : List (List ℕ)) × AreLines properties lines × (text ≡ text_of (heading_lines heading ++ lines))
