use Rattle.std.proofs.Common.{inr, sym, arith}
use Rattle.staged.proofs.Laid.{apart_page, apart_more}
use Rattle.staged.proofs.Mapped.{none_of}
use Rattle.staged.proofs.staged.alike_from.Goals as goal

pub loop-count-init : goal.loop-count-init
loop-count-init c = record {
  some = omega arith;
  near = omega arith;
  aligned = omega arith;
  apart = apart_page _ c.args.place _ (omega arith) (none_of _ (sym c.if-contains.ensures));
}

pub loop-count-preserved : goal.loop-count-preserved
loop-count-preserved c =
    let inv = c.loop-count.invariant in
    record {
      some = omega arith;
      near = omega arith;
      aligned = let e = inv.aligned in omega arith;
      apart = apart_more _ c.args.place c.loop-count.count inv.apart inv.aligned (none_of _ (sym c.if-contains-2.ensures));
    }

pub returns-clause-alike : goal.returns-clause-alike
returns-clause-alike c = inr (λ k below. c.loop-count.invariant.apart k (let e = c.loop-count-test.false in omega arith))
