use Rattle.std.proofs.Common.{ap, ◌∙◌, ◌/◌, length}
use Rattle.cfb_sectors.specs.Held.{version_of}
use Rattle.cfb_fat.proofs.FatEntries.{length-numbers, quarter}
use Rattle.cfb_fat.proofs.fat.read_table.Goals as goal

pub returns-clause-size : goal.returns-clause-size
returns-clause-size g c =
    ap length c.in_ok-numbers_in.ensures ∙ length-numbers c.deref.result.now ∙ ap (λ l. length l / 4) c.deref.ensures.value ∙ ap (λ n. n / 4) c.in_ok-bytes.ensures.size
    ∙ quarter (version_of c.args.sectors.now) (length c.args.sector_ids.now)
