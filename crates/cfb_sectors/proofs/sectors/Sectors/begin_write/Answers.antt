use Rattle.std.proofs.Common.{arith}
use Rattle.cfb_sectors.proofs.Counts.{faults_only}
use Rattle.cfb_sectors.proofs.sectors.Sectors.begin_write.Goals as goal

pub returns-clause-errors : goal.returns-clause-errors
returns-clause-errors g c = faults_only _ c.write_at.result (λ late. omega (arith, late, c.requires)) c.write_at.ensures.errors
