use Rattle.std.proofs.Common.{◌≡◌, ◌++◌, length, reverse}
use Rattle.cfb_entries.specs.Walk.{pending_at}
use Rattle.cfb_entries.proofs.walking.push_entries.Given as goal

abbrev pub invariant-push : goal.invariant-push
invariant-push l = l.pending.items ++ pending_at l.parent (reverse l.ids.items) ≡ l.fn.pending.items ++ pending_at l.parent (reverse l.fn.ids.items)

abbrev pub decreases-push : goal.decreases-push
decreases-push l = length l.ids.items
