use Rattle.std.proofs.Common.{sym}
use Rattle.cfb_fat_runs.proofs.Views.{size_of}
use Rattle.cfb_fat_runs.proofs.table.Table.len.Goals as goal

pub returns-clause-value : goal.returns-clause-value
returns-clause-value c = sym (size_of c.args.self.now)
