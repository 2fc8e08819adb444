-- What a device counts by itself.
use Rattle.std.specs.Prelude.{ℕ}
use Rattle.staged.specs.declared.device.Which.{Which}
use Rattle.staged.specs.declared.device.Which.TheVariants.{Home, Log}
use Rattle.staged.specs.declared.counts.Counts.{Counts}
use Rattle.staged.specs.declared.counts.Tally.{Tally}

-- how often something was done to a file
abbrev pub tallied : Tally → Which → ℕ
tallied tally Home = tally.home
tallied tally Log = tally.log

-- how many calls have failed
abbrev pub counted_failures : Counts → ℕ
counted_failures counts = counts.failures

-- how often a file was written
abbrev pub counted_writes : Counts → Which → ℕ
counted_writes counts which = tallied counts.writes which

-- how often a file was synced
abbrev pub counted_syncs : Counts → Which → ℕ
counted_syncs counts which = tallied counts.syncs which
