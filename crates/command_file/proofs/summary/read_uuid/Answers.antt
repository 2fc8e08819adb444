use Rattle.std.proofs.Common.{sym}
use Rattle.command_file.proofs.Named.{none_if}
use Rattle.command_file.proofs.summary.read_uuid.Goals as goal

pub returns-in-Err : goal.returns-in-Err
returns-in-Err c = sym (none_if _ (λ id is. let no = c.in-Err.ensures.ok.1 (id, is) in absurd (cc)))
