use Rattle.std.specs.Prelude.{map, nat_eq, List, ℕ, ◌≢◌}
use Rattle.std.specs.List.{IsDistinct}
use Rattle.cfb_tree.specs.Directory.{no_entry, Siblings}
use Rattle.cfb_tree.specs.EntryViews.{entry_in}
use Rattle.cfb_siblings.proofs.LastOnLeft.{WentRight}
use Rattle.cfb_siblings.proofs.removal.last_sibling.Given as goal

abbrev pub invariant-loop-step : goal.invariant-loop-step
invariant-loop-step l = (ids : List ℕ) → Siblings (map entry_in l.entries) l.first ids → IsDistinct nat_eq ids → l.first ≢ no_entry
    → WentRight (map entry_in l.entries) l.first ids l.last l._step
