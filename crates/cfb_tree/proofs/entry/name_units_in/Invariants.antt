use Rattle.std.proofs.Common.{◌≡◌, ℕ, ◌<◌, ◌*◌, get_or, length}
use Rattle.cfb_medium.specs.Numbers.{u16_at}
use Rattle.cfb_tree.proofs.entry.name_units_in.Given as goal

abbrev pub invariant-loop-i : goal.invariant-loop-i
invariant-loop-i l = (length l.found ≡ 32) × ((k : ℕ) → k < l.i → get_or l.found k 0 ≡ u16_at l.bytes (2 * k))
