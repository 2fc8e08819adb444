-- A long stream that took its sectors anew.
use Rattle.std.proofs.Common.{◌≡◌, ℕ, ◌+◌, ◌*◌, ◌-◌, ◌/◌, ◌<◌, ◌≤◌, List, [], ◌++◌, drop, length, take, ap, sym, subst, ◌∙◌, arith}
use Rattle.std.specs.List.{AllByRecursion}
use Rattle.std.proofs.Math.Seq.{take-append_seam}
use Rattle.cfb_chains.specs.LinkViews.{ids_of}
use Rattle.cfb_chains.specs.Positions.{sectors_for}
use Rattle.cfb_chains.specs.declared.links.Links.{Links}
use Rattle.cfb_chains.proofs.ChainWriting.{split_below}
use Rattle.cfb_fat.specs.Tables.{bytes_of, version_of}
use Rattle.cfb_medium.specs.Versions.{sector_len}
use Rattle.cfb_medium.specs.declared.medium.ReadMedium.{Ghosts}
use Rattle.cfb_medium.specs.declared.version.Version.{Version}
use Rattle.cfb_mini.specs.Views.{allocator_of}
use Rattle.cfb_mini.specs.declared.mini_allocator.MiniAllocator.{MiniAllocator}
use Rattle.cfb_chain_io.specs.ChainEffects.{content_of, TakesBytes}
use Rattle.cfb_chain_io.proofs.FrontWritten.{place_new}
use Rattle.cfb_ownership.specs.Owners.{Owners}
use Rattle.cfb_sectors.specs.Sectors.{joined, places}
use Rattle.cfb_sectors.specs.Initial.{padded}
use Rattle.cfb_sectors.proofs.Filling.{length-padded, padded_more}
use Rattle.cfb_stream_writes.specs.Moving.{MovesLong, TakesLong}
use Rattle.cfb_stream_writes.specs.Streams.{resized}
use Rattle.cfb_stream_writes.proofs.LongBytes.{length-resized, places_there}
use Rattle.cfb_stream_writes.proofs.LongStreams.{version_then}
use Rattle.cfb_stream_writes.proofs.Stretching.{room_for}

-- the first of so many bytes
first_padded : (len all : ℕ) (xs : List ℕ) → len ≤ all → resized len xs ≡ take len (padded all xs)
first_padded len all xs fits =
    let rest : len + (all - len) ≡ all = omega (arith, fits) in
    let behind = padded (all - len) (drop len xs) in
    sym (ap (λ n. take len (padded n xs)) (sym rest) ∙ ap (take len) (sym (padded_more len (all - len) xs)) ∙ ap (λ n. take n (padded len xs ++ behind)) (sym (length-padded len xs)) ∙ take-append_seam (padded len xs) behind)

module _ {F : Type 0} {g : Ghosts F} (m0 m1 : MiniAllocator F g) (who : Owners) (id len : ℕ) (links0 links1 : Links) (bytes : List ℕ) (none : ids_of links0 ≡ [])
    (long : MovesLong id (ids_of links1) m0 m1 who) (grown : TakesBytes bytes (allocator_of m0) (allocator_of m1) links0 links1) (count : length (ids_of links1) ≡ sectors_for (version_of (allocator_of m0)) len) where
  abbrev v : Version
  v = version_of (allocator_of m0)

  v1 : version_of (allocator_of m1) ≡ v
  v1 = version_then id (ids_of links1) m0 m1 who long

  more : length grown.more ≡ sectors_for v len
  more = ap length (sym (grown.sectors ∙ ap (λ l. l ++ grown.more) none)) ∙ count

  bytes_then : resized len bytes ≡ take len (content_of (allocator_of m1) links1)
  bytes_then =
      let all = length grown.more * sector_len v in
      let content : content_of (allocator_of m1) links1 ≡ padded all bytes = grown.content ∙ ap (λ l. joined v (bytes_of (allocator_of m0)) l ++ padded all bytes) none in
      first_padded len all bytes (subst (λ n. len ≤ n * sector_len v) (sym more) (room_for v len)) ∙ ap (take len) (sym content)

  places_then : AllByRecursion (λ p. p < length (bytes_of (allocator_of m1))) (take len (places (version_of (allocator_of m1)) (ids_of links1)))
  places_then =
      let b1 = bytes_of (allocator_of m1) in
      subst (λ u. AllByRecursion (λ p. p < length b1) (take len (places u (ids_of links1)))) (sym v1)
      (places_there v (ids_of links1) (length b1) len (subst (λ n. len ≤ n * sector_len v) (sym count) (room_for v len))
      (λ k below.
      let inside = split_below v k (sectors_for v len) (less k len (sectors_for v len * sector_len v) below (room_for v len)) in
      place_new v b1 (ids_of links0) (ids_of links1) grown.more k grown.sectors grown.whole (empty (length (ids_of links0)) (k / sector_len v) (ap length none)) (subst (λ n. k / sector_len v < n) (sym count) inside)))
    where
      less : (x y z : ℕ) → x < y → y ≤ z → x < z
      less x y z few many = omega (arith, few, many)

      empty : (t i : ℕ) → t ≡ 0 → t ≤ i
      empty t i size = omega (arith, size)

  -- they have these bytes, and zeros behind them
  pub taken : TakesLong id (ids_of links1) (resized len bytes) m0 m1 who
  taken =
      let size = sym (length-resized bytes len) in
      let b1 = bytes_of (allocator_of m1) in
      record {
        long = long;
        content_is = bytes_then ∙ ap (λ n. take n (content_of (allocator_of m1) links1)) size;
        there = subst (λ n. AllByRecursion (λ p. p < length b1) (take n (places (version_of (allocator_of m1)) (ids_of links1)))) size places_then;
      }
