-- What stands above the rows of an exported table.
use Rattle.std.specs.Prelude.{ℕ, ◌==◌, Bool, true, false, not, ◌&&◌, List, [], ◌∷◌, length, map, nat_lt, if◌then◌else◌, Option, Some, None, option_map}
use Rattle.std.specs.Char.{is_ascii_digit}
use Rattle.std.specs.Fmt.{decimal}
use Rattle.std.specs.List.{join_with_byte, list_all, slice_split}
use Rattle.std.specs.Str.Parse.{digits_value}
use Rattle.idt_tables.specs.declared.types.ColumnType.{ColumnType}
use Rattle.idt_tables.specs.declared.types.Letter.{Letter}
use Rattle.idt_tables.specs.declared.types.Letter.TheVariants as letter

-- `s` for texts, `l` for texts that are translated, `i` for numbers, `v` for bytes; in capitals where null is taken
abbrev pub sign : Letter → Bool → ℕ
sign letter.Text nullable = if nullable then 83 else 115
sign letter.Localized nullable = if nullable then 76 else 108
sign letter.Number nullable = if nullable then 73 else 105
sign letter.Bytes nullable = if nullable then 86 else 118

-- the letter and the width
abbrev pub type_text : ColumnType → List ℕ
type_text t = sign t.letter t.nullable ∷ decimal t.width

-- the letter that a sign is, and whether null is taken
abbrev pub letter_in : ℕ → Option (Letter × Bool)
letter_in b =
    if b == 115 then Some (letter.Text, false) else if b == 83 then Some (letter.Text, true)
    else if b == 108 then Some (letter.Localized, false) else if b == 76 then Some (letter.Localized, true)
    else if b == 105 then Some (letter.Number, false) else if b == 73 then Some (letter.Number, true)
    else if b == 118 then Some (letter.Bytes, false) else if b == 86 then Some (letter.Bytes, true)
    else None

-- digits of a number below 2^16
abbrev pub is_width : List ℕ → Bool
is_width ds = not (length ds == 0) && list_all is_ascii_digit ds && nat_lt (digits_value 10 ds) 65536

abbrev pub width_in : List ℕ → Option ℕ
width_in ds = if is_width ds then Some (digits_value 10 ds) else None

abbrev pub with_width : Option (Letter × Bool) → List ℕ → Option ColumnType
with_width None ds = None
with_width (Some l) ds = option_map (λ n. record { letter = l.0; nullable = l.1; width = n }) (width_in ds)

abbrev pub type_in : List ℕ → Option ColumnType
type_in [] = None
type_in (b ∷ ds) = with_width (letter_in b) ds

-- one in front of others, where all are there
abbrev pub in_front : {A : Type 0} → Option A → Option (List A) → Option (List A)
in_front None rest = None
in_front (Some x) None = None
in_front (Some x) (Some xs) = Some (x ∷ xs)

-- what each says, where each says something
abbrev pub all_in : {A B : Type 0} → (B → Option A) → List B → Option (List A)
all_in read [] = Some []
all_in read (part ∷ parts) = in_front (read part) (all_in read parts)

abbrev pub types_in : List (List ℕ) → Option (List ColumnType)
types_in parts = all_in type_in parts

-- a table's name, the names and types of its columns, and the names of its keys
pub record Heading : Type 0 where
  pub table : List ℕ
  pub names : List (List ℕ)
  pub types : List ColumnType
  pub keys : List (List ℕ)

abbrev pub heading_lines : Heading → List (List ℕ)
heading_lines h = join_with_byte 9 h.names ∷ join_with_byte 9 (map type_text h.types) ∷ join_with_byte 9 (h.table ∷ h.keys) ∷ []

abbrev pub parts_in : List ℕ → List (List ℕ)
parts_in line = slice_split (λ b. b == 9) line

-- the number of a code page
abbrev pub is_page : List ℕ → Bool
is_page part = not (length part == 0) && list_all is_ascii_digit part

-- Windows Installer writes the number of the file's code page in front of the table's name, where texts aren't ASCII
abbrev pub without_page : List (List ℕ) → List (List ℕ)
without_page [] = []
without_page (part ∷ []) = part ∷ []
without_page (part ∷ next ∷ parts) = if is_page part then next ∷ parts else part ∷ next ∷ parts

abbrev pub heading_by : List (List ℕ) → Option (List ColumnType) → List (List ℕ) → Option Heading
heading_by names None keys = None
heading_by names (Some types) [] = None
heading_by names (Some types) (table ∷ keys) = Some (record { table = table; names = names; types = types; keys = keys })

-- what three lines say
abbrev pub heading_in : List (List ℕ) → Option Heading
heading_in (names ∷ types ∷ keys ∷ []) = heading_by (parts_in names) (types_in (parts_in types)) (without_page (parts_in keys))
heading_in _ = None

-- no tab stands in a name
abbrev pub is_name : List ℕ → Bool
is_name name = list_all (λ b. not (b == 9)) name

abbrev pub has_some : {A : Type 0} → List A → Bool
has_some [] = false
has_some (x ∷ xs) = true

-- names without tabs, at least one, and one type or more, each of a width below 2^16; the table's name is no number
abbrev pub is_plain : Heading → Bool
is_plain h = not (is_page h.table) && list_all is_name (h.table ∷ h.keys) && list_all is_name h.names && has_some h.names && list_all (λ t. nat_lt t.width 65536) h.types && has_some h.types
