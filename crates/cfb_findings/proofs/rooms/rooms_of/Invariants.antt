use Rattle.std.proofs.Common.{◌≡◌, ◌<◌, ◌≤◌, ◌-◌, ◌*◌, ◌^◌, ℕ, length}
use Rattle.cfb_findings.specs.Links.{behind, linked}
use Rattle.cfb_findings.specs.Rooms.{of_part, room}
use Rattle.cfb_findings.proofs.rooms.rooms_of.Given as goal

-- so many parts are told, from each on
abbrev pub invariant-loop-reach : goal.invariant-loop-reach
invariant-loop-reach l = record {
  some : 0 < l.reach;
  small : l.reach < 2 ^ 33;
  full : l.full ≡ l.reach * l.piece;
  low : l.full ≤ l.reach * 4096;
  long : length l.rooms.items ≡ length l.avail;
  followed : (n : ℕ) → behind l.jumps.items n ≡ linked l.reach l.links n;
  rooms : (n : ℕ) → of_part l.rooms.items n ≡ room l.piece l.reach l.avail l.links n;
}

abbrev pub decreases-loop-reach : goal.decreases-loop-reach
decreases-loop-reach l = length l.links - l.reach
