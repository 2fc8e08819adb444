use Rattle.std.proofs.Common.{◌≡◌, ℕ, take, None, cond}
use Rattle.std.specs.Prelude.{nat_eq}
use Rattle.std.specs.List.{list_any}
use Rattle.staged.specs.Held.{listed}
use Rattle.staged.specs.Pages.{page_at}
use Rattle.staged.proofs.pages.Pages.remove_all.Given as goal

abbrev pub invariant-loop-number : goal.invariant-loop-number
invariant-loop-number l = (n : ℕ) → page_at (listed l.self) n ≡ cond (list_any (nat_eq n) (take l.number-index l.numbers)) None (page_at (listed l.fn.self) n)
