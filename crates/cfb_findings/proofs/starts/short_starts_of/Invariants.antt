use Rattle.std.proofs.Common.{◌≡◌, take}
use Rattle.cfb_directory.specs.Views.{entries_held}
use Rattle.cfb_findings.specs.Findings.{is_short, starts_where}
use Rattle.cfb_findings.proofs.starts.short_starts_of.Given as goal

abbrev pub invariant-loop-id : goal.invariant-loop-id
invariant-loop-id g l = l.starts.items ≡ starts_where is_short (entries_held {g = g.F.ReadMedium} l.directory) (take l.id-index l.ids)
