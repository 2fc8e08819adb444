use Rattle.std.proofs.Common.{◌≡◌}
use Rattle.reread_texts.proofs.joined.joined_among.Given as goal

-- places are counted
abbrev pub invariant-loop-bytes : goal.invariant-loop-bytes
invariant-loop-bytes l = l.place ≡ l.bytes-index
