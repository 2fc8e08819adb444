use Rattle.std.proofs.Common.{◌≡◌, ◌+◌, ◌<◌, ◌≤◌, inr, refl, sym, subst, arith}
use Rattle.cfb_medium.specs.Versions.{sector_len}
use Rattle.cfb_sectors.specs.Sectors.{sector_start}
use Rattle.cfb_chains.proofs.Staying.{apart}
use Rattle.cfb_fat.specs.Changing.{MayWrite}
use Rattle.cfb_fat.proofs.EndsKept.{in_sector}
use Rattle.cfb_fat.proofs.ListedStays.{behind_header}
use Rattle.cfb_fat.proofs.Rising.{none_aside}
use Rattle.cfb_fat.proofs.allocator.Allocator.is_spare.Goals as goal

pub returns : goal.returns
returns g c =
    let it = c.args.self.now in
    let v = it.sectors.version in
    let n = c.args.sector_id in
    let ds = it.difat_sectors.items in
    let fs = it.fat_sectors.items in
    let place = sector_start v n in
    let len = sector_len v in (
      λ yes.
          let may = subst (λ p. MayWrite {g = g.F.ReadMedium} it p len) c.start.ensures (subst (MayWrite {g = g.F.ReadMedium} it c.start.result) c.sector_len.ensures (c.may_write.ensures.0 yes)) in
          (omega (arith, c.if-entry.false, c.entry.ensures), none_aside v ds n may.difat, none_aside v fs n may.fat),
      λ spare. c.may_write.ensures.1 (subst (λ p. MayWrite {g = g.F.ReadMedium} it p c.sector_len.result) (sym c.start.ensures) (subst (MayWrite {g = g.F.ReadMedium} it place) (sym c.sector_len.ensures) record {
        ends = in_sector v n len it.sectors.num_sectors (let most = it.inside c.requires.live in omega (arith, most, c.requires.there)) (omega arith);
        fat = apart v fs n spare.2;
        difat = apart v ds n spare.1;
        words = inr (inr (behind_header v n));
      })),
    )
