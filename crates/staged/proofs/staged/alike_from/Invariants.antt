use Rattle.std.proofs.Common.{◌≡◌, ◌+◌, ◌-◌, ◌%◌, ◌<◌}
use Rattle.staged.specs.Held.{listed}
use Rattle.staged.specs.Pages.{Apart}
use Rattle.staged.proofs.staged.alike_from.Given as goal

abbrev pub invariant-loop-count : goal.invariant-loop-count
invariant-loop-count l = record {
  some : 0 < l.count;
  near : l.count < l.most + 512;
  aligned : (l.place + l.count) % 512 ≡ 0;
  apart : Apart (listed l.pages) l.place l.count;
}

abbrev pub decreases-loop-count : goal.decreases-loop-count
decreases-loop-count l = l.most + 512 - l.count
