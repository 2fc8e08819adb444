-- A long stream that became longer or shorter.
use Rattle.std.proofs.Common.{◌≡◌, ℕ, ◌+◌, ◌*◌, ◌<◌, ◌≤◌, ◌++◌, ⊎_elim, inl, List, length, take, get_or, ap, sym, subst, ◌∙◌, arith, length-take}
use Rattle.std.specs.List.{AllByRecursion}
use Rattle.std.proofs.lemmas.Bool.Decides.{leb_tells}
use Rattle.std.proofs.lemmas.List.{take_all}
use Rattle.cfb_chains.specs.Behind.{AreWhole}
use Rattle.cfb_chains.specs.LinkViews.{ids_of}
use Rattle.cfb_chains.specs.Positions.{sectors_for, tail_in}
use Rattle.cfb_chains.specs.declared.links.Links.{Links}
use Rattle.cfb_chains.proofs.ChainWriting.{length_within, length-joined, split_below}
use Rattle.cfb_fat.specs.Tables.{bytes_of, version_of}
use Rattle.cfb_tree_edits.specs.Live.{live_of}
use Rattle.cfb_tree_edits.proofs.Strays.{strays_then}
use Rattle.cfb_medium.specs.Bytes.{overwritten}
use Rattle.cfb_medium.specs.Versions.{sector_len}
use Rattle.cfb_medium.specs.declared.medium.ReadMedium.{Ghosts}
use Rattle.cfb_medium.specs.declared.version.Version.{Version}
use Rattle.cfb_mini.specs.Views.{allocator_of}
use Rattle.cfb_mini.specs.declared.mini_allocator.MiniAllocator.{MiniAllocator}
use Rattle.cfb_chain_io.specs.ChainEffects.{content_of, place_of, Overwrites, Resizes, WritesIntoNewSectors}
use Rattle.cfb_ownership.specs.Held.{OwnerHasStream, EntryLiesIn}
use Rattle.cfb_ownership.specs.Owners.{first_of, stream_owner, Owners}
use Rattle.cfb_sectors.specs.Header.{mini_cutoff}
use Rattle.cfb_sectors.specs.Sectors.{joined, places}
use Rattle.cfb_sectors.specs.declared.initial.SectorInit.TheVariants.{Zero}
use Rattle.cfb_tree.specs.Directory.{Entry}
use Rattle.cfb_stream_writes.specs.Moving.{Houses, MovesLong}
use Rattle.cfb_stream_writes.specs.Streams.{resized}
use Rattle.cfb_stream_writes.proofs.LongBytes.{length-resized, place_kept, place_there, places_there, resized_is, resized_whole, written_on}
use Rattle.cfb_stream_writes.proofs.Others.{others_then}
use Rattle.cfb_stream_writes.proofs.Stretching.{cut_bytes, cut_places, grown_bytes, lengthened_bytes, lengthened_places, room_for, stretched_bytes, stretched_places, tight_for, whole_for}
use Rattle.cfb_mini.proofs.Padded.{zeros}

-- a stream has no more bytes than its sectors
pub fits_in : (n : ℕ) (content all : List ℕ) → content ≡ take n all → length content ≡ n → n ≤ length all
fits_in n content all is size = let len = length-take n all in let same = ap length is in omega (arith, len, same, size)

module _ {F : Type 0} {g : Ghosts F} where
  pub version_then : (id : ℕ) (later : List ℕ) (old new : MiniAllocator F g) (who : Owners) → MovesLong id later old new who → version_of (allocator_of new) ≡ version_of (allocator_of old)
  unfolding live_of
  version_then id later old new who h = h.moves.carries.version

  pub longer_then : (id : ℕ) (later : List ℕ) (old new : MiniAllocator F g) (who : Owners) → MovesLong id later old new who → length (bytes_of (allocator_of old)) ≤ length (bytes_of (allocator_of new))
  unfolding live_of
  longer_then id later old new who h = h.moves.carries.longer

  -- one change of a stream's chain, and then another
  pub long_then : (id : ℕ) (mid later : List ℕ) (a b c : MiniAllocator F g) (who : Owners) (one : MovesLong id mid a b who) → MovesLong id later b c one.moves.now → MovesLong id later a c who
  unfolding live_of
  long_then id mid later a b c who one two = record {
    moves = record {
      now = two.moves.now;
      stands = two.moves.stands;
      carries = others_then (stream_owner id) (live_of a) (live_of b) (live_of c) who one.moves.now two.moves.now one.moves.carries two.moves.carries;
      entries = inl (two.entries ∙ one.entries);
      strays = strays_then a b c who one.moves.now two.moves.now one.moves.strays two.moves.strays;
    };
    mine = two.mine;
    minis = two.minis ∙ one.minis;
    mini_joined = λ ids. two.mini_joined ids ∙ one.mini_joined ids;
    mini_places = λ ids. two.mini_places ids ∙ one.mini_places ids;
    entries = two.entries ∙ one.entries;
  }

  module _ (m0 : MiniAllocator F g) (who : Owners) (id size : ℕ) (links0 : Links) (e : Entry) (content : List ℕ) (has : OwnerHasStream (live_of m0) who id e content) (is_size : e.size ≡ size) (up : mini_cutoff ≤ size)
      (is : who.sectors (stream_owner id) ≡ ids_of links0) where
    abbrev v : Version
    v = version_of (allocator_of m0)

    long_up : mini_cutoff ≤ e.size
    long_up = subst (λ n. mini_cutoff ≤ n) (sym is_size) up

    lay : EntryLiesIn (bytes_of (allocator_of m0)) e (who.sectors (stream_owner id)) (joined v (bytes_of (allocator_of m0)) (who.sectors (stream_owner id))) (places v (who.sectors (stream_owner id))) content
    unfolding live_of
    lay = (has.long long_up).1

    content_was : content ≡ take size (content_of (allocator_of m0) links0)
    content_was = lay.content_is ∙ ap (λ n. take n (joined v (bytes_of (allocator_of m0)) (who.sectors (stream_owner id)))) is_size ∙ ap (λ l. take size (joined v (bytes_of (allocator_of m0)) l)) is

    room_was : size ≤ length (ids_of links0) * sector_len v
    room_was = subst (λ n. size ≤ n) (length-joined v (bytes_of (allocator_of m0)) (ids_of links0)) (fits_in size content (content_of (allocator_of m0) links0) content_was (lay.whole ∙ is_size))

    place_was : (k : ℕ) → k < size → place_of v (ids_of links0) k < length (bytes_of (allocator_of m0))
    place_was k below =
        let b0 = bytes_of (allocator_of m0) in
        place_there v (ids_of links0) (length b0) size k room_was
        (subst (λ l. AllByRecursion (λ p. p < length b0) (take size (places v l))) is (subst (λ n. AllByRecursion (λ p. p < length b0) (take n (places v (who.sectors (stream_owner id))))) is_size lay.there)) below

    module _ (len : ℕ) (more_up : mini_cutoff ≤ len) where
      -- the stream has its bytes in another chain, where that has each at its index, and in the file
      housed : (held : List ℕ) (m : MiniAllocator F g) (links : Links) (long : MovesLong id (ids_of links) m0 m who) → length (ids_of links) ≡ sectors_for v len
          → ((k : ℕ) → k < len → get_or (content_of (allocator_of m) links) k 0 ≡ get_or held k 0) → ((k : ℕ) → k < len → place_of v (ids_of links) k < length (bytes_of (allocator_of m)))
          → (it : Houses id (first_of (ids_of links)) (resized len held) m0 m who) × (it.moves.now.sectors (stream_owner id) ≡ ids_of links)
      unfolding live_of
      housed held m links long count bytes_at places_at =
          let b = bytes_of (allocator_of m) in
          let u = version_of (allocator_of m) in
          let same : u ≡ v = version_then id (ids_of links) m0 m who long in
          let room : len ≤ length (ids_of links) * sector_len v = subst (λ n. len ≤ n * sector_len v) (sym count) (room_for v len) in
          let whole : len ≤ length (content_of (allocator_of m) links) = subst (λ n. len ≤ n) (sym (length-joined u b (ids_of links))) (subst (λ w. len ≤ length (ids_of links) * sector_len w) (sym same) room) in
          let bytes_then : resized len held ≡ take len (content_of (allocator_of m) links) = resized_is (content_of (allocator_of m) links) held len whole bytes_at in
          let places_then : AllByRecursion (λ p. p < length b) (take len (places u (ids_of links))) =
          subst (λ w. AllByRecursion (λ p. p < length b) (take len (places w (ids_of links)))) (sym same) (places_there v (ids_of links) (length b) len room places_at) in (
            record {
              moves = long.moves;
              has = λ f start size_is.
                  let new : f.size ≡ len = size_is ∙ length-resized held len in
                  record {
                    short = λ below. absurd (let few = below in omega (arith, few, new, more_up));
                    long = λ most. (
                      long.minis ∙ (has.long long_up).0,
                      record {
                        start = start ∙ ap first_of (sym long.mine);
                        content_is = bytes_then ∙ ap (λ n. take n (content_of (allocator_of m) links)) (sym new) ∙ ap (λ l. take f.size (joined u b l)) (sym long.mine);
                        whole = sym size_is;
                        there = subst (λ l. AllByRecursion (λ p. p < length b) (take f.size (places u l))) (sym long.mine)
                            (subst (λ n. AllByRecursion (λ p. p < length b) (take n (places u (ids_of links)))) (sym new) places_then);
                      },
                    );
                  };
            },
            long.mine,
          )

      -- cut, or of the same length
      pub cut : (m1 : MiniAllocator F g) (links1 : Links) → len ≤ size → MovesLong id (ids_of links1) m0 m1 who → Resizes Zero (sectors_for v len) (allocator_of m0) (allocator_of m1) links0 links1 → length (ids_of links1) ≡ sectors_for v len
          → (it : Houses id (first_of (ids_of links1)) (resized len content) m0 m1 who) × (it.moves.now.sectors (stream_owner id) ≡ ids_of links1)
      cut m1 links1 few long1 grown1 count1 =
          let b0 = bytes_of (allocator_of m0) in
          let b1 = bytes_of (allocator_of m1) in
          housed content m1 links1 long1 count1
          (cut_bytes (content_of (allocator_of m0) links0) (content_of (allocator_of m1) links1) content _ _ size len (grown_bytes (sectors_for v len) (allocator_of m0) (allocator_of m1) links0 links1 grown1) content_was (room_for v len) few)
          (cut_places v (ids_of links0) (ids_of links1) grown1.more b0 b1 (sectors_for v len) size len grown1.sectors room_was (room_for v len) few (longer_then id (ids_of links1) m0 m1 who long1) place_was)

      -- longer, where no sector was to spare
      pub lengthened : (m1 m2 : MiniAllocator F g) (links1 : Links) → length (ids_of links0) ≤ sectors_for v size
          → (long1 : MovesLong id (ids_of links1) m0 m1 who) → Resizes Zero (sectors_for v len) (allocator_of m0) (allocator_of m1) links0 links1 → length (ids_of links1) ≡ sectors_for v len
          → MovesLong id (ids_of links1) m1 m2 long1.moves.now → Overwrites size (zeros (tail_in v size)) (allocator_of m1) (allocator_of m2) links1
          → (it : Houses id (first_of (ids_of links1)) (resized len content) m0 m2 who) × (it.moves.now.sectors (stream_owner id) ≡ ids_of links1)
      lengthened m1 m2 links1 tight long1 grown1 count1 long2 over =
          let b0 = bytes_of (allocator_of m0) in
          let b1 = bytes_of (allocator_of m1) in
          let b2 = bytes_of (allocator_of m2) in
          let v1 : version_of (allocator_of m1) ≡ v = version_then id (ids_of links1) m0 m1 who long1 in
          let ends = tight_for v (length (ids_of links0)) size tight in
          housed content m2 links1 (long_then id (ids_of links1) (ids_of links1) m0 m1 m2 who long1 long2) count1
          (lengthened_bytes (content_of (allocator_of m0) links0) (content_of (allocator_of m1) links1) (content_of (allocator_of m2) links1) content _ _ size (tail_in v size) len
          (grown_bytes (sectors_for v len) (allocator_of m0) (allocator_of m1) links0 links1 grown1) over.content content_was (subst (λ n. n ≤ size + tail_in v size) (sym (length-joined v b0 (ids_of links0))) ends) (room_for v len))
          (lengthened_places v (ids_of links0) (ids_of links1) grown1.more b0 b1 b2 (sectors_for v len) size (tail_in v size) len grown1.sectors count1 ends room_was (room_for v len)
          (longer_then id (ids_of links1) m0 m1 who long1) (longer_then id (ids_of links1) m1 m2 long1.moves.now long2) place_was
          (λ k past below. subst (λ u. place_of u (ids_of links1) k < length b2) v1 (over.there k past below)) grown1.whole)

      -- written from a place in it on to its end, where no sector was to spare
      pub outgrown : (m1 : MiniAllocator F g) (links1 : Links) (at : ℕ) (bytes : List ℕ) → at ≤ size → size ≤ len → len ≡ at + length bytes → (long1 : MovesLong id (ids_of links1) m0 m1 who) → WritesIntoNewSectors Zero at bytes (allocator_of m0) (allocator_of m1) links0 links1
          → length (ids_of links1) ≡ sectors_for v len → (it : Houses id (first_of (ids_of links1)) (overwritten (resized len content) at bytes) m0 m1 who) × (it.moves.now.sectors (stream_owner id) ≡ ids_of links1)
      outgrown m1 links1 at bytes from longer end long1 wrote count1 =
          let b0 = bytes_of (allocator_of m0) in
          let b1 = bytes_of (allocator_of m1) in
          let held = overwritten (resized len content) at bytes in
          let all : length held ≡ len = length_within (resized len content) bytes at (let whole = length-resized content len in omega (arith, whole, end)) ∙ length-resized content len in
          let room : size ≤ length (content_of (allocator_of m0) links0) = fits_in size content (content_of (allocator_of m0) links0) content_was (lay.whole ∙ is_size) in
          subst (λ l. (it : Houses id (first_of (ids_of links1)) l m0 m1 who) × (it.moves.now.sectors (stream_owner id) ≡ ids_of links1)) (resized_whole held len all)
          (housed held m1 links1 long1 count1
          (written_on (content_of (allocator_of m0) links0) (content_of (allocator_of m1) links1) _ content bytes at size len wrote.content content_was room from longer end)
          (λ k below. ⊎_elim
          (λ past. wrote.there k past.1 (omega (arith, below, end)))
          (λ front.
          let short : k < size = omega (arith, front.1, from) in
          let inside = split_below v k (length (ids_of links0)) (omega (arith, short, room_was)) in
          let same : place_of v (ids_of links0) k ≡ place_of v (ids_of links1) k = place_kept v (ids_of links0) (ids_of links1) wrote.more (length (ids_of links0)) k (wrote.sectors ∙ ap (λ l. l ++ wrote.more) (sym (take_all (length (ids_of links0)) (ids_of links0) (omega arith)))) inside inside in
          let was = place_was k short in
          let later = longer_then id (ids_of links1) m0 m1 who long1 in
          subst (λ p. p < length b1) same (omega (arith, was, later)))
          (leb_tells at k)))

      -- cut to its bytes, and then of another length
      pub stretched : (m1 m2 m3 : MiniAllocator F g) (links1 links3 : Links)
          → (long1 : MovesLong id (ids_of links1) m0 m1 who) → Resizes Zero (sectors_for v size) (allocator_of m0) (allocator_of m1) links0 links1 → length (ids_of links1) ≡ sectors_for v size
          → (long2 : MovesLong id (ids_of links1) m1 m2 long1.moves.now) → Overwrites size (zeros (tail_in v size)) (allocator_of m1) (allocator_of m2) links1
          → MovesLong id (ids_of links3) m2 m3 long2.moves.now → Resizes Zero (sectors_for v len) (allocator_of m2) (allocator_of m3) links1 links3 → length (ids_of links3) ≡ sectors_for v len
          → (it : Houses id (first_of (ids_of links3)) (resized len content) m0 m3 who) × (it.moves.now.sectors (stream_owner id) ≡ ids_of links3)
      unfolding long_then
      stretched m1 m2 m3 links1 links3 long1 grown1 count1 long2 over long3 grown3 count3 =
          let b0 = bytes_of (allocator_of m0) in
          let b1 = bytes_of (allocator_of m1) in
          let b2 = bytes_of (allocator_of m2) in
          let b3 = bytes_of (allocator_of m3) in
          let v1 : version_of (allocator_of m1) ≡ v = version_then id (ids_of links1) m0 m1 who long1 in
          let v2 : version_of (allocator_of m2) ≡ v = version_then id (ids_of links1) m1 m2 long1.moves.now long2 ∙ v1 in
          let first = longer_then id (ids_of links1) m0 m1 who long1 in
          let second = longer_then id (ids_of links1) m1 m2 long1.moves.now long2 in
          let both = long_then id (ids_of links1) (ids_of links1) m0 m1 m2 who long1 long2 in
          housed content m3 links3 (long_then id (ids_of links1) (ids_of links3) m0 m2 m3 who both long3) count3
          (stretched_bytes (content_of (allocator_of m0) links0) (content_of (allocator_of m1) links1) (content_of (allocator_of m2) links1) (content_of (allocator_of m3) links3) content _ _ size (tail_in v size) _ _ len
          (grown_bytes (sectors_for v size) (allocator_of m0) (allocator_of m1) links0 links1 grown1) over.content (grown_bytes (sectors_for v len) (allocator_of m2) (allocator_of m3) links1 links3 grown3) content_was (whole_for v size)
          (subst (λ u. len ≤ sectors_for v len * sector_len u) (sym v2) (room_for v len)))
          (stretched_places v (ids_of links0) (ids_of links1) (ids_of links3) grown1.more grown3.more b0 b2 b3 (sectors_for v size) (sectors_for v len) size (tail_in v size) len grown1.sectors grown3.sectors count1 count3 (whole_for v size) room_was (room_for v len)
          (least (length b0) (length b1) (length b2) first second) (longer_then id (ids_of links3) m2 m3 long2.moves.now long3) place_was
          (λ k past below. subst (λ u. place_of u (ids_of links1) k < length b2) v1 (over.there k past below))
          (subst (λ u. AreWhole u b3 grown3.more) v2 grown3.whole))
        where
          least : (x y z : ℕ) → x ≤ y → y ≤ z → x ≤ z
          least x y z p q = omega (arith, p, q)
