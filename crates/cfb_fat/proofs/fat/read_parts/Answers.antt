use Rattle.cfb_sectors.specs.OnlyReads.{rests_then}
use Rattle.cfb_fat.proofs.fat.read_parts.Goals as goal

pub returns-clause-only_reads : goal.returns-clause-only_reads
returns-clause-only_reads g c = rests_then _ _ _ c.in_ok-fat.ensures.only_reads c.in_ok-is_listed.ensures.only_reads
