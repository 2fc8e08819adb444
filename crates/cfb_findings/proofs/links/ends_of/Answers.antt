use Rattle.std.proofs.Common.{◌≡◌, ◌*◌, List, ℕ, map, sym, subst, arith}
use Rattle.cfb_findings.specs.Links.{behind, linked}
use Rattle.cfb_findings.proofs.Linking.{are_ends, linked_twice}
use Rattle.cfb_findings.proofs.links.ends_of.Goals as goal

pub loop-reach-preserved : goal.loop-reach-preserved
loop-reach-preserved c =
    let old = c.loop-reach.ends.items in
    let new = c.in_ok-ends-2.ends.items in
    let is : new ≡ map (behind old) old = subst (λ (js : List ℕ). new ≡ map (behind js) js) c.deref.ensures.value c.in_ok-ends-2.ensures.twice in
    record {
      some = omega (arith, c.loop-reach.invariant.some);
      followed = λ n. subst (λ (js : List ℕ). behind js n ≡ linked (c.loop-reach.reach * 2) c.args.links.now n) (sym is)
          (linked_twice c.args.links.now old c.loop-reach.reach c.loop-reach.invariant.followed n);
    }

pub returns-clause-ends : goal.returns-clause-ends
returns-clause-ends c = are_ends c.args.links.now c.loop-reach.ends.items c.loop-reach.reach (omega (arith, c.loop-reach-test.false)) c.loop-reach.invariant.followed
