use Rattle.cfb_sectors.specs.Initial.{initial}
use Rattle.cfb_sectors.proofs.sectors.Sectors.reserve_sector.Goals as goal

pub returns-clause-changes : goal.returns-clause-changes
unfolding initial
returns-clause-changes g c = c.append_sector.ensures.changes
