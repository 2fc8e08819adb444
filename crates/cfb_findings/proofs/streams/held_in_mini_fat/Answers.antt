use Rattle.std.proofs.Common.{◌≡◌, ◌∙◌, ◌<◌, ◌≤◌, ◌-◌, ◌*◌, List, ℕ, length, length-take, map, min, take, sym, ap, subst, arith}
use Rattle.std.specs.Prelude.{slice_index, IfOk}
use Rattle.std.specs.List.{range_with_len}
use Rattle.std.proofs.lemmas.List.FromFn.{length-map-range_with_len}
use Rattle.cfb_medium.specs.Versions.{sector_len}
use Rattle.cfb_medium.specs.declared.version.Version.{Version}
use Rattle.cfb_fat.specs.Tables.{version_of}
use Rattle.cfb_mini.specs.Views.{allocator_of, mini_fat_of, mini_stream_ids}
use Rattle.cfb_findings.specs.Avail.{mini_bytes, mini_start}
use Rattle.cfb_findings.specs.Held.{TableHasChains}
use Rattle.cfb_findings.specs.Minis.{minis_there}
use Rattle.cfb_findings.specs.Rooms.{of_part}
use Rattle.cfb_findings.proofs.Rooming.{listed_at, listed_most}
use Rattle.cfb_findings.proofs.streams.held_in_mini_fat.Goals as goal

pub of_table-requires : goal.of_table-requires
of_table-requires g c =
    let count = c.minis_there-count.result in
    let f = mini_bytes c.version.result c.mini_stream_sectors-stream.result.now c.args.file_len in
    let avail_is : c.deref.result.now ≡ map f (range_with_len 0 count) = c.deref.ensures.value ∙ c.in_ok-avail.ensures.bytes in
    let long : length c.deref.result.now ≡ count = ap length avail_is ∙ length-map-range_with_len f 0 count in
    record {
      few = omega (arith, long, c.minis_there-count.type_inv);
      all = omega (arith, long, length-take count c.mini_fat.result.now);
      some = omega arith;
      small = omega arith;
      most = λ n. subst (λ (xs : List ℕ). of_part xs n ≤ 64) (sym avail_is) (listed_most f count 64 (λ k. omega arith) n);
    }

pub returns-clause-tells : goal.returns-clause-tells
returns-clause-tells g c =
    let file = c.args.file.now in
    let count = c.minis_there-count.result in
    let v = c.version.result in
    let stream = c.mini_stream_sectors-stream.result.now in
    let end = c.args.file_len in
    let f = mini_bytes v stream end in
    let links = take count c.mini_fat.result.now in
    let wanted = take (minis_there (mini_fat_of file) (length (mini_stream_ids file) * sector_len (version_of (allocator_of file)))) (mini_fat_of file) in
    let avail_is : c.deref.result.now ≡ map f (range_with_len 0 count) = c.deref.ensures.value ∙ c.in_ok-avail.ensures.bytes in
    let links_is : links ≡ wanted = ap (λ (n : ℕ). take n c.mini_fat.result.now) c.minis_there-count.ensures
    ∙ ap (λ (l : List ℕ). take (minis_there (mini_fat_of file) (length (mini_stream_ids file) * sector_len (version_of (allocator_of file)))) l) c.mini_fat.ensures in
    let told : (n : ℕ) → n < length links → slice_index c.deref.result.now n ≡ min 64 (end - mini_start v stream n) =
    λ n below. ap (λ (xs : List ℕ). slice_index xs n) avail_is ∙ listed_at f count n (omega (arith, below, length-take count c.mini_fat.result.now)) in
    subst (λ (w : Version). IfOk c.of_table.result (TableHasChains wanted 64 (mini_start w (mini_stream_ids file)) end)) c.version.ensures
    (subst (λ (s : List ℕ). IfOk c.of_table.result (TableHasChains wanted 64 (mini_start v s) end)) c.mini_stream_sectors-stream.ensures
    (subst (λ (l : List ℕ). IfOk c.of_table.result (TableHasChains l 64 (mini_start v stream) end)) links_is
    (c.of_table.ensures.tells (mini_start v stream) end told)))
