use Rattle.std.proofs.Common.{refl, sym}
use Rattle.cfb_fat.proofs.Places.{few_bytes}
use Rattle.cfb_fat.proofs.Rising.{alone_as, beside_as_read, rest_as}
use Rattle.cfb_fat.proofs.allocator.Allocator.may_write.Goals as goal

pub is_beside_words-requires : goal.is_beside_words-requires
is_beside_words-requires g c = few_bytes c.args.self.now.sectors.version c.args.self.now.sectors.num_sectors c.args.place c.args.count (c.if-not-ends_in.ensures.0 refl) c.args.self.now.sectors.few

pub returns-then-not-ends_in : goal.returns-then-not-ends_in
returns-then-not-ends_in g c = ((λ wrong. absurd (cc)), λ may. c.if-not-ends_in.ensures.1 may.ends)

pub returns-then-not-is_beside_words : goal.returns-then-not-is_beside_words
returns-then-not-is_beside_words g c = ((λ wrong. absurd (cc)), λ may. c.if-not-is_beside_words.ensures.1 may.words)

pub returns-then-not-is_beside : goal.returns-then-not-is_beside
returns-then-not-is_beside g c =
    let it = c.args.self.now in
    ((λ wrong. absurd (cc)), λ may. c.if-not-is_beside.ensures.1 (alone_as _ _ _ _ it.difat_sectors.items it.fat_sectors.items c.args.place c.args.count (sym c.version-version.ensures) (sym c.deref.ensures.value) it.read_alone may.difat may.fat))

pub returns : goal.returns
returns g c =
    let it = c.args.self.now in
    let first = c.if-not-is_beside.ensures.0 refl in (
      λ yes. record {
        ends = c.if-not-ends_in.ensures.0 refl;
        fat = beside_as_read _ _ _ _ _ _ it.read.num_fat c.args.place c.args.count c.version-version.ensures c.deref.ensures.value c.deref-2.ensures.value it.read_fat first (c.if-not-is_beside-2.ensures.0 refl);
        difat = beside_as_read _ _ _ _ _ _ it.read.num_difat c.args.place c.args.count c.version-version.ensures c.deref.ensures.value c.deref-3.ensures.value it.read_difat first (c.is_beside-3.ensures.0 yes);
        words = c.if-not-is_beside_words.ensures.0 refl;
      },
      λ may. c.is_beside-3.ensures.1 (rest_as _ _ _ _ it.read.num_difat c.args.place c.args.count (sym c.version-version.ensures) (sym c.deref-3.ensures.value) may.difat),
    )
