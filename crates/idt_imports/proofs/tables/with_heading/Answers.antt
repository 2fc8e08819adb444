use Rattle.std.proofs.Common.{rules, ◌≡◌, ◌∙◌, sym, ap, map, true}
use Rattle.std.specs.Prelude.{bytes_eq}
use Rattle.idt_rows.specs.Rows.{datum_of}
use Rattle.idt_summaries.specs.Reading.{properties_in, summary_name}
use Rattle.idt_tables.specs.HeadingsOf.{heading_of}
use Rattle.idt_imports.proofs.FilesRead.{was_read, was_summary}
use Rattle.idt_imports.proofs.tables.with_heading.Goals as goal

pub returns-then-eq : goal.returns-then-eq
returns-then-eq c =
    let named : bytes_eq (heading_of c.args.heading.now).table summary_name ≡ true = search rules in
    was_summary c.in_ok-read_summary.field-0 (heading_of c.args.heading.now) (map (λ l. l.now) c.args.lines.now) c.deref.result.now c.in_ok-columns.columns.items (map (λ row. map datum_of row.items) c.in_ok-rows.rows.items)
    c.deref.ensures.value c.in_ok-columns.ensures named c.in_ok-rows.ensures
    (ap (λ rows. properties_in (map (λ row. map datum_of row.items) rows)) (sym c.deref-then-eq.ensures.value) ∙ c.in_ok-read_summary.ensures)

pub returns : goal.returns
returns c =
    was_read (record { name = c.in_ok-name.name; columns = c.in_ok-columns.columns; rows = c.in_ok-rows.rows }) (heading_of c.args.heading.now) (map (λ l. l.now) c.args.lines.now)
    c.deref.result.now c.in_ok-name.ensures c.in_ok-columns.ensures c.deref.ensures.value c.in_ok-rows.ensures
