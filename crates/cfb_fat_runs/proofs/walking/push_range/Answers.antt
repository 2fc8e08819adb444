use Rattle.std.proofs.Common.{arith}
use Rattle.cfb_fat_runs.proofs.Walked.{range_pushed}
use Rattle.cfb_fat_runs.proofs.walking.push_range.Goals as goal

pub loop-sector-preserved : goal.loop-sector-preserved
loop-sector-preserved c = range_pushed c.args.first c.loop-sector.sector c.args.sectors.now.items c.loop-sector.sectors.items c.push.new.self.items (omega (arith, c.loop-sector.auto.sector)) c.loop-sector.invariant c.in_ok-push.ensures.items
