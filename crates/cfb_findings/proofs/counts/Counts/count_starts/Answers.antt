use Rattle.std.proofs.Common.{◌≡◌, ◌∙◌, take, refl, subst}
use Rattle.std.proofs.lemmas.List.{take_all}
use Rattle.cfb_findings.specs.Findings.{ChainsFrom}
use Rattle.cfb_findings.specs.Views.{counts_of}
use Rattle.cfb_findings.proofs.Listed.{chains_none, chains_step}
use Rattle.cfb_findings.proofs.counts.Counts.count_starts.Goals as goal

pub loop-start-init : goal.loop-start-init
loop-start-init c = record {
  counted = λ ends none. chains_none c.args.links.now (counts_of c.args.self.now) none;
  size = refl;
}

pub loop-start-preserved : goal.loop-start-preserved
loop-start-preserved c = record {
  counted = λ ends none.
      chains_step c.args.links.now c.args.starts.now (counts_of c.loop-start.self) (counts_of c.count_start.new.self) c.loop-start.start-index c.loop-start-test.true
      (c.loop-start.invariant.counted ends none) (λ before follow so. c.count_start.ensures.counted before ends follow so);
  size = c.count_start.ensures.size ∙ c.loop-start.invariant.size;
}

pub returns-clause-counted : goal.returns-clause-counted
returns-clause-counted c = λ ends none.
    let k = c.loop-start.invariant.counted ends none in
    let whole : take c.loop-start.start-index c.args.starts.now ≡ c.args.starts.now = take_all c.loop-start.start-index c.args.starts.now c.loop-start-test.false in
    (k.all, subst (λ ss. ChainsFrom c.args.links.now ss k.all) whole k.chains, k.counted)
