-- Files that were read.
use Rattle.std.proofs.Common.{◌≡◌, ◌∙◌, ℕ, ◌≤◌, List, [], ◌∷◌, length, ◌-◌, get_or, take, drop, length-drop, map, refl, sym, subst, ap, arith}
use Rattle.std.proofs.lemmas.List.{take_all}
use Rattle.std.specs.Prelude.{Bool, Some, None, bytes_eq, if◌then◌else◌, string_bytes, true}
use Rattle.idt_rows.specs.Rows.{datum_of, Datum}
use Rattle.idt_summaries.specs.Reading.{properties_in, summary_name}
use Rattle.idt_tables.specs.Headings.{Heading, heading_in}
use Rattle.idt_tables.specs.Tables.{kind_of, kinds_of, rows_in, table_by, with_rows}
use Rattle.idt_imports.specs.Columns.{HasColumns}
use Rattle.idt_imports.specs.Reading.{SaysLines, SaysRows}
use Rattle.idt_imports.specs.declared.columns.IdtColumn.{IdtColumn}
use Rattle.idt_imports.specs.declared.summaries.SummaryRows.{SummaryRows}
use Rattle.idt_imports.specs.declared.tables.IdtTable.{IdtTable}
use Rattle.idt_imports.specs.declared.tables.Imported.{Imported}
use Rattle.idt_imports.specs.declared.tables.Imported.TheVariants as said
use Rattle.msi_props.specs.Held.{pair_in}
use Rattle.idt_imports.proofs.ColumnsRead.{map_map}

-- a table was read: its name, columns and rows
pub was_read : (held : IdtTable) (h : Heading) (lines : List (List ℕ)) (columns : List IdtColumn) → string_bytes held.name ≡ h.table → HasColumns held.columns.items h
    → columns ≡ held.columns.items → rows_in (map (λ c. kind_of c.coltype.letter) columns) lines ≡ Some (map (λ row. map datum_of row.items) held.rows.items)
    → SaysRows (said.Table held) h lines
was_read held h lines columns name has same rows =
    let kinds : map (λ c. kind_of c.coltype.letter) columns ≡ kinds_of h.types =
    ap (map (λ c. kind_of c.coltype.letter)) same ∙ map_map (λ t. kind_of t.letter) (λ c. c.coltype) held.columns.items ∙ ap kinds_of has.types in (
      record { heading = h; rows = map (λ row. map datum_of row.items) held.rows.items },
      ap (λ k. with_rows h (rows_in k lines)) (sym kinds) ∙ ap (with_rows h) rows,
      record { name = name; columns = has; rows = refl },
    )

-- a summary was read: its properties
pub was_summary : (held : SummaryRows) (h : Heading) (lines : List (List ℕ)) (columns own : List IdtColumn) (rows : List (List Datum)) → columns ≡ own → HasColumns own h → bytes_eq h.table summary_name ≡ true
    → rows_in (map (λ c. kind_of c.coltype.letter) columns) lines ≡ Some rows → properties_in rows ≡ Some (map pair_in held.properties.items)
    → SaysRows (said.Summary held) h lines
was_summary held h lines columns own rows same has named read says =
    let kinds : map (λ c. kind_of c.coltype.letter) columns ≡ kinds_of h.types =
    ap (map (λ c. kind_of c.coltype.letter)) same ∙ map_map (λ t. kind_of t.letter) (λ c. c.coltype) own ∙ ap kinds_of has.types in (
      record { heading = h; rows = rows },
      ap (λ k. with_rows h (rows_in k lines)) (sym kinds) ∙ ap (with_rows h) read,
      ap (λ (b : Bool). if b then properties_in rows else None) named ∙ says,
    )

-- behind a heading that was read
pub behind_heading : (it : Imported) (h : Heading) (names types keys : List ℕ) (lines : List (List ℕ)) → Some h ≡ heading_in (names ∷ types ∷ keys ∷ []) → SaysRows it h lines
    → SaysLines it (names ∷ types ∷ keys ∷ lines)
behind_heading (said.Table held) h names types keys lines is says = (says.0, ap (λ x. table_by x lines) (sym is) ∙ says.1, says.2)
behind_heading (said.Summary held) h names types keys lines is says = (says.0, ap (λ x. table_by x lines) (sym is) ∙ says.1, says.2)
behind_heading (said.Page page) h names types keys lines is says = tt

three_front : {A : Type 0} (text_of : A → List ℕ) (ps : List A) (d : A) → 3 ≤ length ps
    → text_of (get_or ps 0 d) ∷ text_of (get_or ps 1 d) ∷ text_of (get_or ps 2 d) ∷ map text_of (drop 3 ps) ≡ map text_of ps
three_front text_of [] d l = absurd (omega (arith, l))
three_front text_of (x ∷ []) d l = absurd (omega (arith, l))
three_front text_of (x ∷ y ∷ []) d l = absurd (omega (arith, l))
three_front text_of (x ∷ y ∷ z ∷ ps) d l = refl

-- what is told of a list of three or more, by its first three and the slice behind them
pub three_first : {A : Type 0} (text_of : A → List ℕ) (ps : List A) (d : A) → 3 ≤ length ps
    → text_of (get_or ps 0 d) ∷ text_of (get_or ps 1 d) ∷ text_of (get_or ps 2 d) ∷ map text_of (take (length ps - 3) (drop 3 ps)) ≡ map text_of ps
three_first text_of ps d l =
    let whole : take (length ps - 3) (drop 3 ps) ≡ drop 3 ps = take_all (length ps - 3) (drop 3 ps) (omega (arith, length-drop 3 ps)) in
    ap (λ rest. text_of (get_or ps 0 d) ∷ text_of (get_or ps 1 d) ∷ text_of (get_or ps 2 d) ∷ map text_of rest) whole ∙ three_front text_of ps d l

pub said_of : (it : Imported) (xs ys : List (List ℕ)) → xs ≡ ys → SaysLines it xs → SaysLines it ys
said_of it xs ys e = subst (SaysLines it) e
