use Rattle.std.proofs.Common.{◌∙◌, ap, map}
use Rattle.std.proofs.lemmas.Result.{IfOk-weaker}
use Rattle.idt_imports.proofs.FilesRead.{said_of}
use Rattle.idt_imports.proofs.tables.read_file.Goals as goal

pub returns : goal.returns
returns c =
    IfOk-weaker c.read_lines.result _ _ (λ said h. said_of said _ _ (ap (map (λ l. l.now)) c.deref.ensures.value ∙ c.in_ok-lines.ensures) h) c.read_lines.ensures
