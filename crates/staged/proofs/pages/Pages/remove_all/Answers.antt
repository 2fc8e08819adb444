use Rattle.std.proofs.Common.{◌≡◌, ℕ, List, None, cond, subst}
use Rattle.std.specs.Prelude.{nat_eq}
use Rattle.std.specs.List.{list_any}
use Rattle.std.proofs.lemmas.List.{take_all}
use Rattle.staged.specs.Held.{listed}
use Rattle.staged.specs.Pages.{page_at}
use Rattle.staged.proofs.Noted.{taken_out}
use Rattle.staged.proofs.pages.Pages.remove_all.Goals as goal

pub loop-number-preserved : goal.loop-number-preserved
loop-number-preserved c = λ n.
    taken_out (page_at (listed c.args.self.now) n) c.args.numbers.now c.loop-number.self.entries.entries c.remove.new.self.entries c.loop-number.number-index n 0 c.loop-number-test.true (c.loop-number.invariant n) c.remove.ensures.updates.0

pub returns : goal.returns
returns c = λ n.
    subst (λ (ns : List ℕ). page_at (listed c.loop-number.self) n ≡ cond (list_any (nat_eq n) ns) None (page_at (listed c.args.self.now) n)) (take_all c.loop-number.number-index c.args.numbers.now c.loop-number-test.false) (c.loop-number.invariant n)
