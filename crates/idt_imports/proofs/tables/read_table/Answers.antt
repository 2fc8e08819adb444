use Rattle.std.proofs.Common.{◌∙◌, ap, map, sym}
use Rattle.std.specs.Prelude.{option_map}
use Rattle.std.proofs.lemmas.Result.{IfOk-weaker}
use Rattle.idt_tables.specs.HeadingsOf.{heading_of}
use Rattle.idt_imports.proofs.FilesRead.{behind_heading}
use Rattle.idt_imports.proofs.tables.read_table.Goals as goal

pub returns-in-Some : goal.returns-in-Some
returns-in-Some c =
    IfOk-weaker c.with_heading.result _ _
    (λ said h. behind_heading said (heading_of c.in-Some.heading) c.args.names.now c.args.types.now c.args.keys.now (map (λ l. l.now) c.args.lines.now)
    (sym (ap (option_map heading_of) c.in-Some.is) ∙ c.in_ok-heading.ensures) h)
    c.with_heading.ensures
