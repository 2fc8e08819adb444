use Rattle.std.proofs.Common.{◌∙◌, ◌++◌, ap}
use Rattle.cfb_directory.specs.Views.{entries_held}
use Rattle.cfb_findings.specs.Findings.{is_long}
use Rattle.cfb_findings.proofs.Listed.{starts_more}
use Rattle.cfb_findings.proofs.starts.long_starts_of.Goals as goal

pub loop-id-preserved : goal.loop-id-preserved
loop-id-preserved g c =
    starts_more is_long (entries_held c.args.directory.now) c.args.ids.now c.loop-id.starts.items c.add.new.starts.items c.loop-id.id-index c.loop-id-test.true c.loop-id.invariant
    (c.in_ok-add.ensures.added ∙ ap (λ l. c.loop-id.starts.items ++ l) c.long_start.ensures)
