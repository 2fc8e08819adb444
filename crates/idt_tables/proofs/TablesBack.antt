-- Tables that come back.
use Rattle.std.proofs.Common.{◌≡◌, ◌∙◌, ℕ, ◌<◌, suc, Bool, true, false, not, List, [], ◌∷◌, ◌++◌, map, refl, ap, ap₂, arith, ℤ, pos, negsuc}
use Rattle.std.specs.Prelude.{nat_lt, ◌==◌, ◌&&◌, Some, None, Option}
use Rattle.std.specs.Char.{digit_value}
use Rattle.std.specs.Fmt.{decimal, signed_decimal}
use Rattle.std.specs.List.{join_with_byte, list_all}
use Rattle.std.specs.Str.Parse.{AllDigits}
use Rattle.std.proofs.lemmas.Bool.{and_parts}
use Rattle.std.proofs.lemmas.Bool.Decides.{nat_tests}
use Rattle.std.proofs.lemmas.Fmt.{decimal_is_IsNumeral}
use Rattle.idt_rows.specs.Letters.{shown}
use Rattle.idt_rows.specs.Rows.{Datum, null, number, text, file, cell_text, fits, is_whole, line_of, row_fits, row_in}
use Rattle.idt_rows.specs.declared.cells.Kind.{Kind}
use Rattle.idt_rows.specs.declared.cells.Kind.TheVariants as kind
use Rattle.idt_rows.proofs.RowsBack.{row_back}
use Rattle.idt_tables.proofs.HeadingsBack.{and_both, heading_back, small}
use Rattle.idt_tables.proofs.LinesBack.{lines_back}
use Rattle.idt_tables.specs.Headings.{Heading, has_some, heading_in, heading_lines, in_front, is_plain, sign, type_text}
use Rattle.idt_tables.specs.Lines.{is_line, lines_in, text_of}
use Rattle.idt_tables.specs.Tables.{Table, file_of, has_lines, kind_of, kinds_of, rows_in, table_by, table_fits, table_in, table_of_lines, with_rows}
use Rattle.idt_tables.specs.declared.types.ColumnType.{ColumnType}
use Rattle.idt_tables.specs.declared.types.Letter.{Letter}
use Rattle.idt_tables.specs.declared.types.Letter.TheVariants as letter

line_append : (a b : List ℕ) → is_line a ≡ true → is_line b ≡ true → is_line (a ++ b) ≡ true
line_append [] b h t = t
line_append (x ∷ a) b h t = and_both _ _ (and_parts _ _ h).0 (line_append a b (and_parts _ _ h).1 t)

line_joined : (parts : List (List ℕ)) → list_all is_line parts ≡ true → is_line (join_with_byte 9 parts) ≡ true
line_joined [] h = refl
line_joined (x ∷ []) h = (and_parts _ _ h).0
line_joined (x ∷ y ∷ ys) h = line_append x (9 ∷ join_with_byte 9 (y ∷ ys)) (and_parts _ _ h).0 (line_joined (y ∷ ys) (and_parts _ _ h).1)

digit_line : (c : ℕ) → digit_value c < 10 → not (c == 10) ≡ true
digit_line c h = grind (arith, nat_tests, h)

line_digits : (ds : List ℕ) → AllDigits 10 ds → is_line ds ≡ true
line_digits [] h = refl
line_digits (c ∷ cs) h = and_both _ _ (digit_line c h.0) (line_digits cs h.1)

sign_line : (l : Letter) (nullable : Bool) → not (sign l nullable == 10) ≡ true
sign_line letter.Text true = refl
sign_line letter.Text false = refl
sign_line letter.Localized true = refl
sign_line letter.Localized false = refl
sign_line letter.Number true = refl
sign_line letter.Number false = refl
sign_line letter.Bytes true = refl
sign_line letter.Bytes false = refl

line_type : (t : ColumnType) → nat_lt t.width 65536 ≡ true → is_line (type_text t) ≡ true
line_type t h = and_both _ _ (sign_line t.letter t.nullable) (line_digits (decimal t.width) (decimal_is_IsNumeral t.width (small t.width h)).0.1)

line_types : (ts : List ColumnType) → list_all (λ t. nat_lt t.width 65536) ts ≡ true → list_all is_line (map type_text ts) ≡ true
line_types [] h = refl
line_types (t ∷ ts) h = and_both _ _ (line_type t (and_parts _ _ h).0) (line_types ts (and_parts _ _ h).1)

shown_line : (c : ℕ) → not (shown c == 10) ≡ true
unfolding shown
shown_line c = grind (arith, nat_tests)

line_shown : (t : List ℕ) → is_line (map shown t) ≡ true
line_shown [] = refl
line_shown (c ∷ t) = and_both _ _ (shown_line c) (line_shown t)

line_number : (z : ℤ) → is_whole z ≡ true → is_line (signed_decimal z) ≡ true
line_number (pos n) h = line_digits (decimal n) (decimal_is_IsNumeral n (grind (arith, nat_tests, h))).0.1
line_number (negsuc n) h = line_digits (decimal (suc n)) (decimal_is_IsNumeral (suc n) (grind (arith, nat_tests, h))).0.1

line_cell : (k : Kind) (d : Datum) → fits k d ≡ true → is_line (cell_text d) ≡ true
line_cell k null h = refl
line_cell kind.Number (number z) h = line_number z h
line_cell k (text t) h = line_shown t
line_cell k (file t) h = line_shown t
line_cell kind.Text (number z) h = absurd (cc)
line_cell kind.File (number z) h = absurd (cc)

line_cells : (ks : List Kind) (ds : List Datum) → row_fits ks ds ≡ true → list_all is_line (map cell_text ds) ≡ true
line_cells [] [] h = refl
line_cells [] (d ∷ ds) h = absurd (cc)
line_cells (k ∷ ks) [] h = refl
line_cells (k ∷ ks) (d ∷ ds) h = and_both _ _ (line_cell k d (and_parts _ _ h).0) (line_cells ks ds (and_parts _ _ h).1)

line_rows : (ks : List Kind) (rows : List (List Datum)) → list_all (row_fits ks) rows ≡ true → list_all is_line (map line_of rows) ≡ true
line_rows ks [] h = refl
line_rows ks (row ∷ rows) h = and_both _ _ (line_joined (map cell_text row) (line_cells ks row (and_parts _ _ h).0)) (line_rows ks rows (and_parts _ _ h).1)

rows_back : (k : Kind) (ks : List Kind) (rows : List (List Datum)) → list_all (row_fits (k ∷ ks)) rows ≡ true → rows_in (k ∷ ks) (map line_of rows) ≡ Some rows
rows_back k ks [] h = refl
rows_back k ks (row ∷ rows) h = ap₂ in_front (row_back k ks row (and_parts _ _ h).0) (rows_back k ks rows (and_parts _ _ h).1)

typed_rows_back : (types : List ColumnType) (rows : List (List Datum)) → has_some types ≡ true → list_all (row_fits (kinds_of types)) rows ≡ true
    → rows_in (kinds_of types) (map line_of rows) ≡ Some rows
typed_rows_back [] rows some h = absurd (cc)
typed_rows_back (t ∷ ts) rows some h = rows_back (kind_of t.letter) (kinds_of ts) rows h

pub table_back : (t : Table) → table_fits t ≡ true → table_in (file_of t) ≡ Some t
table_back t h =
    let rows = and_parts _ _ h in
    let lines = and_parts _ _ rows.0 in
    let types = and_parts _ _ lines.0 in
    let widths = and_parts _ _ types.0 in
    let names = and_parts _ _ lines.1 in
    let all : list_all is_line (heading_lines t.heading ++ map line_of t.rows) ≡ true =
    and_both _ _ (line_joined t.heading.names names.1)
    (and_both _ _ (line_joined (map type_text t.heading.types) (line_types t.heading.types widths.1))
    (and_both _ _ (line_joined (t.heading.table ∷ t.heading.keys) names.0) (line_rows (kinds_of t.heading.types) t.rows rows.1))) in
    ap table_of_lines (lines_back (heading_lines t.heading ++ map line_of t.rows) all)
    ∙ ap (λ h. table_by h (map line_of t.rows)) (heading_back t.heading lines.0)
    ∙ ap (with_rows t.heading) (typed_rows_back t.heading.types t.rows types.1 rows.1)
