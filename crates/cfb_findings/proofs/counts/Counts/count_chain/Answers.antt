use Rattle.std.proofs.Common.{rules, ◌≤◌, ◌∙◌, length, refl, arith}
use Rattle.cfb_findings.specs.Views.{counts_of}
use Rattle.cfb_findings.proofs.Counting.{walk_begins, walk_ends, walk_goes_to, walk_stops}
use Rattle.cfb_findings.proofs.counts.Counts.count_chain.Goals as goal

pub loop-at-init : goal.loop-at-init
loop-at-init c = record {
  walked = λ ids before chain follow so. walk_begins c.args.links.now ids before c.args.start (counts_of c.args.self.now) chain so;
  size = refl;
}

pub loop-at-preserved : goal.loop-at-preserved
loop-at-preserved c = record {
  walked = λ ids before chain follow so.
      walk_goes_to c.args.links.now ids before (counts_of c.loop-at.self) (counts_of c.count.new.self) c.loop-at.at _ (search rules)
      (c.loop-at.invariant.walked ids before chain follow so) (omega (arith, c.loop-at-test.true)) c.if-not-count.ensures.counted;
  size = c.if-not-count.ensures.size ∙ c.loop-at.invariant.size;
}

pub returns-then-not-count-clause-counted : goal.returns-then-not-count-clause-counted
returns-then-not-count-clause-counted c = λ ids before chain follow so.
    let room : length c.args.links.now ≤ length (counts_of c.loop-at.self) = omega (arith, c.requires, c.loop-at.invariant.size) in
    walk_stops c.args.links.now ids before (counts_of c.loop-at.self) (counts_of c.count.new.self) c.args.start c.loop-at.at
    (c.loop-at.invariant.walked ids before chain follow so) chain (omega (arith, c.loop-at-test.true)) room (c.if-not-count.ensures.full refl) follow c.if-not-count.ensures.counted

pub returns-clause-counted : goal.returns-clause-counted
returns-clause-counted c = λ ids before chain follow so.
    walk_ends c.args.links.now ids before (counts_of c.loop-at.self) c.loop-at.at (c.loop-at.invariant.walked ids before chain follow so) (omega (arith, c.loop-at-test.false))
