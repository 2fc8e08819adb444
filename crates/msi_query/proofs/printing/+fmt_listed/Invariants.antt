use Rattle.std.proofs.Common.{length}
use Rattle.msi_query.proofs.printing.+fmt_listed.Given as goal

abbrev pub decreases-fmt_listed : goal.decreases-fmt_listed
decreases-fmt_listed g l = length l.names.now
