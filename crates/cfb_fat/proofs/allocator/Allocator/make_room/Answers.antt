use Rattle.std.proofs.Common.{◌≡◌, [], ◌+◌, ◌/◌, ◌<◌, ◌≤◌, length, ap, sym, subst, arith}
use Rattle.cfb_sectors.specs.Held.{version_of}
use Rattle.cfb_fat.proofs.Places.{few_full, memory_for_one, none_left, some_left}
use Rattle.cfb_fat.specs.Keeping.{grows_then, takes_rest}
use Rattle.cfb_fat_runs.specs.Tables.{entries_of}
use Rattle.cfb_fat.proofs.allocator.Allocator.make_room.Goals as goal

pub lengthen-requires-clause-full : goal.lengthen-requires-clause-full
lengthen-requires-clause-full g c =
    let mid = c.reserve_growth.new.self in
    let each = c.sector_len-each.result / 4 in
    let size : c.len.result ≡ length (entries_of mid.fat) = omega (arith, c.len.ensures.value) in
    let count : c.len-2.result ≡ length mid.fat_sectors.items = omega (arith, c.len-2.ensures, mid.fat_sectors.ok.0) in
    none_left (version_of mid.sectors) (length (entries_of mid.fat)) (length mid.fat_sectors.items) c.sector_len-each.result c.sector_len-each.ensures
    (subst (λ n. length mid.fat_sectors.items ≤ n / each) size (subst (λ n. n ≤ c.len.result / each) count c.if-len-each.false)) mid.whole

pub lengthen-requires-clause-few : goal.lengthen-requires-clause-few
lengthen-requires-clause-few g c =
    let mid = c.reserve_growth.new.self in
    let rests = c.in_ok-reserve_growth.ensures.only_reads in
    let covered = (c.args.self.now.orderly c.requires.orderly).covered in
    let less = few_full (version_of mid.sectors) (length (entries_of mid.fat)) (length mid.fat_sectors.items) (lengthen-requires-clause-full g c) (omega (arith, ap length rests.fat, covered, c.num_sectors.ensures, c.if-num_sectors-gt-MAX_REGULAR_SECTOR.false)) in
    omega (arith, less, ap length rests.fat, covered, rests.sectors.count)

pub returns-then-len-each-clause-place : goal.returns-then-len-each-clause-place
returns-then-len-each-clause-place g c =
    let mid = c.reserve_growth.new.self in
    let each = c.sector_len-each.result / 4 in
    let size : c.len.result ≡ length (entries_of mid.fat) = omega (arith, c.len.ensures.value) in
    let count : c.len-2.result ≡ length mid.fat_sectors.items = omega (arith, c.len-2.ensures, mid.fat_sectors.ok.0) in
    let memory = c.in_ok-reserve_growth.ensures.memory.fat in
    record {
      room = some_left (version_of mid.sectors) (length (entries_of mid.fat)) (length mid.fat_sectors.items) c.sector_len-each.result c.sector_len-each.ensures
          (subst (λ n. n / each < length mid.fat_sectors.items) size (subst (λ n. c.len.result / each < n) count c.if-len-each.true));
      memory = omega (arith, memory);
      few = omega (arith, ap length c.in_ok-reserve_growth.ensures.only_reads.fat, (c.args.self.now.orderly c.requires.orderly).covered, c.num_sectors.ensures, c.if-num_sectors-gt-MAX_REGULAR_SECTOR.false);
    }

pub returns-then-len-each-clause-spends : goal.returns-then-len-each-clause-spends
returns-then-len-each-clause-spends g c = λ n memory. (memory_for_one c.reserve_growth.new.self n (c.in_ok-reserve_growth.ensures.keeps 0 (n + 1) memory), tt)

pub returns-clause-grows : goal.returns-clause-grows
returns-clause-grows g c =
    let it = c.args.self.now in
    let mid = c.reserve_growth.new.self in
    grows_then [] [] [] [] it mid c.lengthen.new.self (takes_rest [] it mid c.in_ok-reserve_growth.ensures.only_reads).grows c.in_ok-lengthen.ensures.grows

pub returns-clause-added : goal.returns-clause-added
returns-clause-added g c n past = c.in_ok-lengthen.ensures.added n (subst (λ l. length l ≤ n) (sym c.in_ok-reserve_growth.ensures.only_reads.fat) past)

pub returns-clause-spends : goal.returns-clause-spends
returns-clause-spends g c = λ n memory. (c.in_ok-lengthen.ensures.spends n (c.in_ok-reserve_growth.ensures.keeps 0 (n + 1) memory), tt)
