use Rattle.std.proofs.Common.{length}
use Rattle.msi_row_edits.proofs.listing.+compare_keys.Given as goal

abbrev pub decreases-compare_keys : goal.decreases-compare_keys
decreases-compare_keys l = length l.columns.now
