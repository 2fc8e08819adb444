use Rattle.std.proofs.Common.{◌∙◌, ◌++◌, take}
use Rattle.cfb_findings.specs.Views.{counts_of}
use Rattle.cfb_findings.proofs.Counting.{counts_more}
use Rattle.cfb_findings.proofs.counts.Counts.count_all.Goals as goal

pub loop-part-preserved : goal.loop-part-preserved
loop-part-preserved c = record {
  counted = λ before so. counts_more c.args.parts.now before (counts_of c.count.new.self) c.loop-part.part-index c.loop-part-test.true
      (c.count.ensures.counted (take c.loop-part.part-index c.args.parts.now ++ before) (c.loop-part.invariant.counted before so));
  size = c.count.ensures.size ∙ c.loop-part.invariant.size;
}
