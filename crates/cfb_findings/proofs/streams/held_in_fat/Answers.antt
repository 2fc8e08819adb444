use Rattle.std.proofs.Common.{rules, ◌≡◌, ◌∙◌, ◌<◌, ◌≤◌, ◌-◌, false, List, ℕ, length, map, min, sym, ap, subst, arith}
use Rattle.std.specs.Prelude.{slice_index, IfOk}
use Rattle.std.specs.List.{range_with_len}
use Rattle.std.proofs.lemmas.List.FromFn.{length-map-range_with_len}
use Rattle.cfb_medium.specs.Versions.{sector_len}
use Rattle.cfb_medium.specs.declared.version.Version.{Version}
use Rattle.cfb_sectors.specs.Sectors.{sector_start}
use Rattle.cfb_fat.specs.Tables.{fat_of, has_failed_here}
use Rattle.cfb_mini.specs.Views.{allocator_of}
use Rattle.cfb_findings.specs.Avail.{sector_bytes}
use Rattle.cfb_findings.specs.Held.{TableHasChains}
use Rattle.cfb_findings.specs.Rooms.{of_part}
use Rattle.cfb_findings.proofs.Rooming.{listed_at, listed_most, sector_small, sector_some}
use Rattle.cfb_findings.proofs.streams.held_in_fat.Goals as goal

pub of_table-requires : goal.of_table-requires
of_table-requires g c =
    let v = c.version-version.result in
    let count = c.num_sectors.result in
    let avail_is : c.deref-2.result.now ≡ map (sector_bytes v c.args.file_len) (range_with_len 0 count) = c.deref-2.ensures.value ∙ c.in_ok-avail.ensures.bytes in
    let long : length c.deref-2.result.now ≡ count = ap length avail_is ∙ length-map-range_with_len (sector_bytes v c.args.file_len) 0 count in
    let live : has_failed_here c.allocator-allocator.result.now ≡ false = search rules in
    record {
      few = omega (arith, long, c.num_sectors.type_inv);
      all = omega (arith, long, ap length c.deref.ensures.value, ap length c.in_ok-links.ensures.entries, c.num_sectors.ensures, c.allocator-allocator.result.now.inside live);
      some = omega (arith, c.sector_len.ensures, sector_some v);
      small = omega (arith, c.sector_len.ensures, sector_small v);
      most = λ n. subst (λ (xs : List ℕ). of_part xs n ≤ c.sector_len.result) (sym avail_is)
          (listed_most (sector_bytes v c.args.file_len) count c.sector_len.result (λ k. omega (arith, c.sector_len.ensures)) n);
    }

pub returns-clause-tells : goal.returns-clause-tells
returns-clause-tells g c =
    let v = c.version-version.result in
    let count = c.num_sectors.result in
    let end = c.args.file_len in
    let avail_is : c.deref-2.result.now ≡ map (sector_bytes v end) (range_with_len 0 count) = c.deref-2.ensures.value ∙ c.in_ok-avail.ensures.bytes in
    let live : has_failed_here c.allocator-allocator.result.now ≡ false = search rules in
    let few : length c.deref.result.now ≤ count =
    omega (arith, ap length c.deref.ensures.value, ap length c.in_ok-links.ensures.entries, c.num_sectors.ensures, c.allocator-allocator.result.now.inside live) in
    let links_is : c.deref.result.now ≡ fat_of (allocator_of c.args.file.now) = search rules in
    let told : (n : ℕ) → n < length c.deref.result.now → slice_index c.deref-2.result.now n ≡ min c.sector_len.result (end - sector_start v n) =
    λ n below. ap (λ (xs : List ℕ). slice_index xs n) avail_is ∙ listed_at (sector_bytes v end) count n (omega (arith, below, few))
    ∙ ap (λ (l : ℕ). min l (end - sector_start v n)) (sym c.sector_len.ensures) in
    subst (λ (w : Version). IfOk c.of_table.result (TableHasChains (fat_of (allocator_of c.args.file.now)) (sector_len w) (sector_start w) end)) c.version-version.ensures
    (subst (λ (p : ℕ). IfOk c.of_table.result (TableHasChains (fat_of (allocator_of c.args.file.now)) p (sector_start v) end)) c.sector_len.ensures
    (subst (λ (l : List ℕ). IfOk c.of_table.result (TableHasChains l c.sector_len.result (sector_start v) end)) links_is
    (c.of_table.ensures.tells (sector_start v) end told)))
