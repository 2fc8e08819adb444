use Rattle.std.proofs.Common.{ap, refl, ◌-◌}
use Rattle.cfb_sectors.specs.Held.{bytes_of, version_of}
use Rattle.cfb_fat.proofs.Words.{last_is}
use Rattle.cfb_fat.proofs.difat.read_next.Goals as goal

pub returns-clause-read : goal.returns-clause-read
returns-clause-read g c = λ honest.
    let it = c.args.sectors.now in
    last_is (version_of it) (version_of it) (bytes_of it) (bytes_of it) c.read_contiguous.new.buffer c.args.sector_id (c.sector_len-last.result - 4) c.from_le_bytes.result 4
    refl refl (ap (λ n. n - 4) c.sector_len-last.ensures) refl (c.in_ok-read_contiguous.ensures.read honest) c.from_le_bytes.ensures
