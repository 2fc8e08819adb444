use Rattle.std.proofs.Common.{[]}
use Rattle.std.proofs.lemmas.Result.{IfOk-weaker}
use Rattle.idt_imports.proofs.FilesRead.{said_of, three_first}
use Rattle.idt_imports.proofs.tables.read_lines.Goals as goal

pub returns : goal.returns
returns c =
    IfOk-weaker c.read_table.result _ _ (λ said h. said_of said _ _ (three_first (λ l. l.now) c.args.lines.now (record { ref_ptr = (0, 0); now = [] }) c.if-lines-lt3.false) h) c.read_table.ensures
