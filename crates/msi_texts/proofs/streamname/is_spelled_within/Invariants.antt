use Rattle.std.proofs.Common.{◌≡◌, ◌≤◌, ◌+◌, length, drop}
use Rattle.std.specs.Str.{chars}
use Rattle.msi_texts.specs.StreamName.{spelled, spelled_after, unit_count}
use Rattle.msi_texts.proofs.streamname.is_spelled_within.Given as goal

-- the units so far and those to come are all
abbrev pub invariant-loop-ch : goal.invariant-loop-ch
invariant-loop-ch l = record {
  few : l.units ≤ l.most;
  all : l.units + unit_count (spelled_after l.pending (drop (length l.yielded) (chars l.name))) ≡ unit_count (spelled (chars l.name));
}
