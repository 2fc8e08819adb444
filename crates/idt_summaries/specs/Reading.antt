-- What the summary's table says.
use Rattle.std.specs.Prelude.{ℕ, ◌==◌, Bool, ◌&&◌, ◌||◌, List, [], ◌∷◌, ◌++◌, nat_le, nat_lt, bytes_eq, codes, if◌then◌else◌, Option, Some, None, option_map, option_and_then, ℤ, pos, negsuc, ◌+ℤ◌}
use Rattle.std.specs.Int.{w16, cast_signed}
use Rattle.idt_rows.specs.Rows.{Datum}
use Rattle.idt_rows.specs.Rows as datum
use Rattle.idt_tables.specs.Tables.{Table, table_in}
use Rattle.msi_props.specs.Props.{Property}
use Rattle.msi_props.specs.Props as property
use Rattle.msi_texts.specs.Page.{page_id}
use Rattle.idt_summaries.specs.Moments.{moment_in}
use Rattle.idt_summaries.specs.Numbers.{whole_in}

-- the numbers of texts: title, subject, author, keywords, comments, template, last author, revision, and the program that made it
abbrev pub is_text : ℕ → Bool
is_text n = (nat_le 2 n && nat_le n 9) || n == 18

-- the numbers of moments: when it was edited, printed, made and saved
abbrev pub is_moment : ℕ → Bool
is_moment n = nat_le 10 n && nat_le n 13

-- the numbers of whole numbers: pages, words, characters, and how it is secured
abbrev pub is_count : ℕ → Bool
is_count n = (nat_le 14 n && nat_le n 16) || n == 19

-- the number of a code page that is known, as one of 16 bits with a sign
abbrev pub low_page : ℕ → Option ℤ
low_page n = option_map (λ _. cast_signed w16 n) (page_id n)

-- the same of a number of 16 bits
abbrev pub page_from : ℤ → Option ℤ
page_from (pos n) = if nat_lt n 65536 then low_page n else None
page_from (negsuc n) = None

-- the same of a number that may have a sign itself
abbrev pub page_of_number : ℤ → Option ℤ
page_of_number (pos n) = page_from (pos n)
page_of_number (negsuc n) = page_from (negsuc n +ℤ pos 65536)

abbrev pub page_in : List ℕ → Option ℤ
page_in text = option_and_then page_of_number (whole_in 31 text)

-- the value of a property which is no text
abbrev pub plain_value : ℕ → List ℕ → Option Property
plain_value n text =
    if n == 1 then option_map property.i2 (page_in text)
    else (if is_moment n then option_map property.time (moment_in text)
    else (if is_count n then option_map property.i4 (whole_in 31 text)
    else None))

-- THE VALUE THAT A TEXT SAYS FOR THE PROPERTY OF A NUMBER
abbrev pub value_in : ℕ → List ℕ → Option Property
value_in n text = if is_text n then Some (property.text text) else plain_value n text

-- a row of a number and a text says a property, and one of a number and null says none
abbrev pub row_says : List Datum → Option (List (ℕ × Property))
row_says (datum.number (pos n) ∷ datum.text t ∷ []) = option_map (λ v. (n, v) ∷ []) (value_in n t)
row_says (datum.number z ∷ datum.null ∷ []) = Some []
row_says _ = None

-- some in front of others, where all are there
abbrev pub joined : {A : Type 0} → Option (List A) → Option (List A) → Option (List A)
joined None rest = None
joined (Some xs) None = None
joined (Some xs) (Some ys) = Some (xs ++ ys)

-- the properties that rows say
abbrev pub properties_in : List (List Datum) → Option (List (ℕ × Property))
properties_in [] = Some []
properties_in (row ∷ rows) = joined (row_says row) (properties_in rows)

abbrev pub summary_name : List ℕ
summary_name = codes "_SummaryInformation"

abbrev pub properties_of : Table → Option (List (ℕ × Property))
properties_of t = if bytes_eq t.heading.table summary_name then properties_in t.rows else None

-- THE PROPERTIES THAT A SUMMARY'S FILE SAYS
abbrev pub summary_in : List ℕ → Option (List (ℕ × Property))
summary_in text = option_and_then properties_of (table_in text)
