-- The sectors that a long stream is opened with are those that it owns.
use Rattle.std.proofs.Common.{◌≡◌, ℕ, ◌+◌, ◌*◌, ◌<◌, ◌≤◌, List, [], ◌∷◌, length, take, ap, sym, subst, ◌∙◌, arith}
use Rattle.std.specs.Prelude.{slice_index_or}
use Rattle.std.specs.List.{AllByRecursion}
use Rattle.cfb_chains.specs.LinkViews.{ids_of, links_version}
use Rattle.cfb_chains.specs.declared.links.Links.{Links}
use Rattle.cfb_chains.proofs.ChainWriting.{length-joined, length_within}
use Rattle.cfb_fat.specs.Tables.{bytes_of, fat_of, version_of}
use Rattle.cfb_tree_edits.specs.Freeing.{HasFileInvariant}
use Rattle.cfb_tree_edits.specs.Live.{live_of}
use Rattle.cfb_medium.specs.Bytes.{overwritten}
use Rattle.cfb_medium.specs.Versions.{sector_len}
use Rattle.cfb_medium.specs.declared.medium.ReadMedium.{Ghosts}
use Rattle.cfb_mini.specs.Views.{allocator_of}
use Rattle.cfb_mini.specs.declared.mini_allocator.MiniAllocator.{MiniAllocator}
use Rattle.cfb_chain_io.specs.ChainEffects.{Overwrites}
use Rattle.cfb_ownership.specs.Held.{OwnerHasStream, EntryLiesIn}
use Rattle.cfb_ownership.specs.Owners.{stream_owner, Owners}
use Rattle.cfb_sectors.specs.Header.{mini_cutoff}
use Rattle.cfb_sectors.specs.Sectors.{end_of_chain, joined, places, Chain}
use Rattle.cfb_stream_reads.specs.Streams.{IsOfLevel, StreamLiesIn}
use Rattle.cfb_stream_reads.specs.declared.opening.StreamLinks.TheVariants.{Long}
use Rattle.cfb_tree.specs.Directory.{Entry}
use Rattle.cfb_stream_writes.specs.Moving.{MovesLong}
use Rattle.cfb_stream_writes.proofs.LongBytes.{take_over}
use Rattle.cfb_stream_writes.proofs.LongStreams.{fits_in, longer_then, version_then}
use Rattle.cfb_sectors.proofs.OneChain.{chain_unique}

all_more : (few many : ℕ) (xs : List ℕ) → few ≤ many → AllByRecursion (λ p. p < few) xs → AllByRecursion (λ p. p < many) xs
all_more few many [] most all = tt
all_more few many (p ∷ xs) most all = ((let first = all.0 in omega (arith, first, most)), all_more few many xs most all.1)

-- what is written over a stream's bytes inside of it
pub lies_over : (old new : List ℕ) (e : Entry) (ids ids' bytes bytes' all all' content written : List ℕ) (at : ℕ) → length old ≤ length new → ids' ≡ ids → bytes' ≡ overwritten bytes at written → all' ≡ all → at + length written ≤ e.size
    → EntryLiesIn old e ids bytes all content → EntryLiesIn new e ids' bytes' all' (overwritten content at written)
lies_over old new e ids ids' bytes bytes' all all' content written at longer same over same_all within h =
    let fits = fits_in e.size content bytes h.content_is h.whole in record {
      start = h.start ∙ ap (λ l. slice_index_or l 0 end_of_chain) (sym same);
      content_is = ap (λ l. overwritten l at written) h.content_is ∙ take_over bytes written at e.size fits within ∙ ap (take e.size) (sym over);
      whole = length_within content written at (let size = h.whole in omega (arith, size, within)) ∙ h.whole;
      there = subst (λ l. AllByRecursion (λ p. p < length new) (take e.size l)) (sym same_all) (all_more (length old) (length new) (take e.size all) longer h.there);
    }

module _ {F : Type 0} {g : Ghosts F} where
  -- the stream lies in the sectors that it owns
  pub long_links : (it : MiniAllocator F g) (who : Owners) (m : HasFileInvariant it who) (id : ℕ) (e : Entry) (content : List ℕ) (links : Links) → OwnerHasStream (live_of it) who id e content → mini_cutoff ≤ e.size
      → who.sectors (stream_owner id) ≡ ids_of links → links_version links ≡ version_of (allocator_of it) → StreamLiesIn it e.start e.size (ids_of links) × IsOfLevel it e.size (Long links)
  unfolding live_of
  long_links it who m id e content links has up is version =
      let lay = (has.long up).1 in
      let v = version_of (allocator_of it) in
      let own = who.sectors (stream_owner id) in
      let chain : Chain (fat_of (allocator_of it)) e.start own = subst (λ n. Chain (fat_of (allocator_of it)) n own) (sym lay.start) (m.kept.owned.linked (stream_owner id)) in
      let room : e.size ≤ length own * sector_len v = subst (λ n. e.size ≤ n) (length-joined v (bytes_of (allocator_of it)) own) (fits_in e.size content (joined v (bytes_of (allocator_of it)) own) lay.content_is lay.whole) in (
        record {
          short = λ below. absurd (let few = below in omega (arith, few, up));
          long = λ most. (subst (Chain (fat_of (allocator_of it)) e.start) is chain, subst (λ l. e.size ≤ length l * sector_len v) is room);
        },
        (up, version),
      )

  -- and the other way round
  pub owns_links : (it : MiniAllocator F g) (who : Owners) (m : HasFileInvariant it who) (id : ℕ) (e : Entry) (content : List ℕ) (links : Links) → OwnerHasStream (live_of it) who id e content
      → StreamLiesIn it e.start e.size (ids_of links) × IsOfLevel it e.size (Long links) → who.sectors (stream_owner id) ≡ ids_of links
  unfolding live_of
  owns_links it who m id e content links has (lies, level) =
      let up = level.0 in
      let lay = (has.long up).1 in
      let own = who.sectors (stream_owner id) in
      let chain : Chain (fat_of (allocator_of it)) e.start own = subst (λ n. Chain (fat_of (allocator_of it)) n own) (sym lay.start) (m.kept.owned.linked (stream_owner id)) in
      chain_unique (fat_of (allocator_of it)) e.start own (ids_of links) chain (lies.long up).0

  -- a long stream was written over
  pub long_over : (old new : MiniAllocator F g) (who : Owners) (id : ℕ) (e : Entry) (content : List ℕ) (links : Links) (at : ℕ) (bytes : List ℕ) → OwnerHasStream (live_of old) who id e content → mini_cutoff ≤ e.size
      → who.sectors (stream_owner id) ≡ ids_of links → at + length bytes ≤ e.size → (long : MovesLong id (ids_of links) old new who) → Overwrites at bytes (allocator_of old) (allocator_of new) links
      → OwnerHasStream (live_of new) long.moves.now id e (overwritten content at bytes)
  unfolding live_of
  long_over old new who id e content links at bytes has up is within long over =
      let v = version_of (allocator_of old) in
      let w = version_of (allocator_of new) in
      let same = version_then id (ids_of links) old new who long in
      let ids = long.mine ∙ sym is in
      let b = bytes_of (allocator_of new) in
      record {
        short = λ below. absurd (let few = below in omega (arith, few, up));
        long = λ most. (
          long.minis ∙ (has.long up).0,
          lies_over (bytes_of (allocator_of old)) b e (who.sectors (stream_owner id)) (long.moves.now.sectors (stream_owner id)) _ _ _ _ content bytes at (longer_then id (ids_of links) old new who long) ids
              (ap (joined w b) long.mine ∙ over.content ∙ ap (λ l. overwritten (joined v (bytes_of (allocator_of old)) l) at bytes) (sym is)) (ap (λ u. places u (long.moves.now.sectors (stream_owner id))) same ∙ ap (places v) ids) within (has.long up).1,
        );
      }
