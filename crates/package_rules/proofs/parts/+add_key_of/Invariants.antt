use Rattle.std.proofs.Common.{length}
use Rattle.package_rules.proofs.parts.+add_key_of.Given as goal

abbrev pub decreases-add_key_of : goal.decreases-add_key_of
decreases-add_key_of l = length l.columns.now
