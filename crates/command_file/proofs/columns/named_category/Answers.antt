use Rattle.std.proofs.Common.{sym}
use Rattle.command_file.proofs.Named.{said_some, said_none}
use Rattle.command_file.proofs.columns.named_category.Goals as goal

pub returns-in-Ok : goal.returns-in-Ok
returns-in-Ok c = sym (said_some _ _ _ c.in-Ok.ensures.value)

pub returns-in-Err : goal.returns-in-Err
returns-in-Err c = sym (said_none _ _ _ c.in-Err.ensures.value)
