-- A short stream that was written over, or has other mini sectors than it had.
use Rattle.std.proofs.Common.{◌≡◌, ℕ, ◌+◌, ◌-◌, ◌*◌, ◌<◌, ◌≤◌, inl, inr, false, List, [], ◌++◌, append-nil, drop, get_or, length, length-take, take, ap, sym, subst, ◌∙◌, ⊎_elim, arith}
use Rattle.std.specs.Prelude.{min}
use Rattle.std.specs.List.{AllByRecursion}
use Rattle.std.proofs.lemmas.Bool.Decides.{leb_tells}
use Rattle.std.proofs.lemmas.List.{get_or-take, get_or_past, length-replicate, take-append-drop}
use Rattle.cfb_chains.proofs.Overwriting.{get_before, get_written}
use Rattle.cfb_fat.specs.Seeing.{seen_of}
use Rattle.cfb_fat.specs.Tables.{bytes_of, has_failed_here, version_of}
use Rattle.cfb_tree_edits.specs.Freeing.{HasFileInvariant}
use Rattle.cfb_tree_edits.specs.Live.{live_of}
use Rattle.cfb_tree_edits.proofs.Freed.{own_minis}
use Rattle.cfb_tree_edits.proofs.Strays.{strays_then}
use Rattle.cfb_medium.specs.Bytes.{overwritten}
use Rattle.cfb_medium.specs.Versions.{sector_len}
use Rattle.cfb_medium.specs.declared.medium.ReadMedium.{Ghosts}
use Rattle.cfb_mini.specs.Changing.{AppendsMiniSectors, MiniOverwrites, Shortens}
use Rattle.cfb_mini.specs.LinkViews.{minis_of}
use Rattle.cfb_mini.specs.Minis.{mini_joined, mini_place, AreInside, IsMiniChain}
use Rattle.cfb_mini.specs.Views.{allocator_of, mini_content_of, mini_fat_of, mini_stream_ids, mini_stream_len, mini_stream_of}
use Rattle.cfb_mini.specs.declared.links.MiniLinks.{MiniLinks}
use Rattle.cfb_mini.specs.declared.mini_allocator.MiniAllocator.{MiniAllocator}
use Rattle.cfb_mini.proofs.Keeping.{pick_mine}
use Rattle.cfb_mini.proofs.Longer.{now_other}
use Rattle.cfb_mini.proofs.MiniParts.{length-mini_joined}
use Rattle.cfb_mini.proofs.Padded.{zero_at, zeros}
use Rattle.cfb_chain_io.specs.ChainEffects.{place_of, KeepsFileInvariants}
use Rattle.cfb_ownership.specs.Held.{mini_joined as held_joined, mini_places_of, OwnerHasStream}
use Rattle.cfb_ownership.specs.Owners.{first_of, mini_stream_owner, stream_owner, Owners}
use Rattle.cfb_sectors.specs.Header.{mini_cutoff}
use Rattle.cfb_sectors.specs.Sectors.{places}
use Rattle.cfb_tree.specs.Directory.{Entry}
use Rattle.cfb_stream_writes.specs.Moving.{Houses, ReplacesStreamChain, MovesRoot, MovesShort, TakesShort}
use Rattle.cfb_stream_writes.specs.Streams.{resized}
use Rattle.cfb_stream_writes.proofs.LongBytes.{length-resized, resized_is}
use Rattle.cfb_stream_writes.proofs.LongLinks.{lies_over}
use Rattle.cfb_stream_writes.proofs.LongStreams.{fits_in}
use Rattle.cfb_stream_writes.proofs.MiniBytes.{get_front, mini_place_there, mini_places_there, over_front, parts_of, place_front}
use Rattle.cfb_stream_writes.proofs.MiniMoves.{minis_joined, moves_fewer, moves_more, moves_over, stream_len_by}
use Rattle.cfb_stream_writes.proofs.Others.{others_then}

module _ {F : Type 0} {g : Ghosts F} where
  -- the mini stream's sectors, as memory has them
  ids_by : (it : MiniAllocator F g) (who : Owners) → HasFileInvariant it who → who.sectors mini_stream_owner ≡ mini_stream_ids it
  ids_by it who m = m.owners.mini_stream

  inside_by : (it : MiniAllocator F g) (who : Owners) (m : HasFileInvariant it who) (k : ℕ) → AreInside (length (mini_stream_ids it) * sector_len (version_of (allocator_of it))) (who.minis k)
  inside_by it who m k =
      subst (λ n. AreInside n (who.minis k)) (stream_len_by it who.sectors m.owners ∙ ap (λ l. length l * sector_len (version_of (allocator_of it))) m.owners.mini_stream) (own_minis it who m k).inside

  -- its mini sectors' bytes in the live file
  pub held_is : (it : MiniAllocator F g) (who : Owners) (m : HasFileInvariant it who) (k : ℕ) → held_joined (live_of it) who (who.minis k) ≡ mini_joined (mini_stream_of it) (who.minis k)
  held_is it who m k = minis_joined it who m (who.minis k) (own_minis it who m k).inside

  moves_then : (id : ℕ) (m0 m1 m2 : MiniAllocator F g) (who : Owners) (one : ReplacesStreamChain id m0 m1 who) (two : ReplacesStreamChain id m1 m2 one.now) → MovesRoot (live_of m1).entries (live_of m2).entries → (live_of m2).entries ≡ (live_of m1).entries → ReplacesStreamChain id m0 m2 who
  unfolding live_of
  moves_then id m0 m1 m2 who one two root same = record {
    now = two.now;
    stands = two.stands;
    carries = others_then (stream_owner id) (live_of m0) (live_of m1) (live_of m2) who one.now two.now one.carries two.carries;
    entries = ⊎_elim (λ is. inl (same ∙ is)) (λ it. inr (it.0, it.1, it.2, it.3, same ∙ it.4)) one.entries;
    strays = strays_then m0 m1 m2 who one.now two.now one.strays two.strays;
  }

  -- a stream took mini sectors in behind those that it had
  pub begun : (m0 m1 : MiniAllocator F g) (who : Owners) (id : ℕ) (m : HasFileInvariant m0 who) (goes : KeepsFileInvariants (allocator_of m0) (allocator_of m1)) (live : has_failed_here (allocator_of m1) ≡ false) (before later : List ℕ) → who.minis (stream_owner id) ≡ before
      → AppendsMiniSectors m0 m1 before later who.sectors → MovesShort id later m0 m1 who
  begun m0 m1 who id m goes live before later mine grown =
      let key = stream_owner id in
      let one = moves_more m0 m1 who id m goes live before later mine grown in
      record {
        moves = one.0;
        mine = ap (λ (o : Owners). o.minis key) one.1 ∙ pick_mine who.minis key later;
        sectors = ap (λ (o : Owners). o.sectors key) one.1 ∙ now_other m1 who.sectors key (λ same. omega (arith, same)) (λ same. omega (arith, same));
      }

  -- or kept those at the front
  pub ended : (m0 m1 : MiniAllocator F g) (who : Owners) (id : ℕ) (m : HasFileInvariant m0 who) (goes : KeepsFileInvariants (allocator_of m0) (allocator_of m1)) (live : has_failed_here (allocator_of m1) ≡ false) (count : ℕ) (before later : List ℕ) → who.minis (stream_owner id) ≡ before
      → Shortens count m0 m1 before later who.sectors → MovesShort id later m0 m1 who
  ended m0 m1 who id m goes live count before later mine cut =
      let key = stream_owner id in
      let one = moves_fewer m0 m1 who id m goes live count before later mine cut in
      record {
        moves = one.0;
        mine = ap (λ (o : Owners). o.minis key) one.1 ∙ pick_mine who.minis key later;
        sectors = ap (λ (o : Owners). o.sectors key) one.1;
      }

  -- the mini FAT has its mini chain, and the mini stream its mini sectors
  pub chain_by : (it : MiniAllocator F g) (who : Owners) (id : ℕ) (minis : List ℕ) → HasFileInvariant it who → who.minis (stream_owner id) ≡ minis → IsMiniChain (mini_fat_of it) (mini_stream_len it) minis
  chain_by it who id minis m mine = subst (IsMiniChain (mini_fat_of it) (mini_stream_len it)) mine (own_minis it who m (stream_owner id))

  pub chain_then : (m0 m1 : MiniAllocator F g) (who : Owners) (id : ℕ) (later : List ℕ) (short : MovesShort id later m0 m1 who) → IsMiniChain (mini_fat_of m1) (mini_stream_len m1) later
  chain_then m0 m1 who id later short = chain_by m1 short.moves.now id later short.moves.stands short.mine

  inside_then : (m0 m1 : MiniAllocator F g) (who : Owners) (id : ℕ) (later : List ℕ) (short : MovesShort id later m0 m1 who) → AreInside (length (mini_stream_ids m1) * sector_len (version_of (allocator_of m1))) later
  inside_then m0 m1 who id later short = subst (AreInside (length (mini_stream_ids m1) * sector_len (version_of (allocator_of m1)))) short.mine (inside_by m1 short.moves.now short.moves.stands (stream_owner id))

  joined_then : (m0 m1 : MiniAllocator F g) (who : Owners) (id : ℕ) (later : List ℕ) (short : MovesShort id later m0 m1 who) → held_joined (live_of m1) short.moves.now later ≡ mini_joined (mini_stream_of m1) later
  joined_then m0 m1 who id later short = minis_joined m1 short.moves.now short.moves.stands later (chain_then m0 m1 who id later short).inside

  -- and were written over
  module _ (m0 m1 m2 : MiniAllocator F g) (who : Owners) (id at : ℕ) (links : MiniLinks) (bytes : List ℕ) (one : MovesShort id (minis_of links) m0 m1 who)
      (goes : KeepsFileInvariants (allocator_of m1) (allocator_of m2)) (live : has_failed_here (allocator_of m2) ≡ false) (over : MiniOverwrites at bytes m1 m2 links one.moves.now.sectors) where
    abbrev key : ℕ
    key = stream_owner id

    two : (it : ReplacesStreamChain id m1 m2 one.moves.now) × (it.now ≡ one.moves.now)
    two = moves_over m1 m2 one.moves.now id one.moves.stands goes live at bytes links one.mine over

    same_entries : (live_of m2).entries ≡ (live_of m1).entries
    unfolding live_of
    same_entries = over.entries

    pub over_short : MovesShort id (minis_of links) m0 m2 who
    unfolding moves_then
    over_short = record {
      moves = moves_then id m0 m1 m2 who one.moves two.0 (inl same_entries) same_entries;
      mine = ap (λ (o : Owners). o.minis key) two.1 ∙ one.mine;
      sectors = ap (λ (o : Owners). o.sectors key) two.1 ∙ one.sectors;
    }

    pub over_version : version_of (allocator_of m2) ≡ version_of (allocator_of m1)
    over_version = goes.version

    pub over_ids : mini_stream_ids m2 ≡ mini_stream_ids m1
    over_ids = sym two.0.stands.owners.mini_stream ∙ ap (λ (o : Owners). o.sectors mini_stream_owner) two.1 ∙ one.moves.stands.owners.mini_stream

    -- its places behind there are in the file
    pub over_there : (k : ℕ) → at ≤ k → k < at + length bytes → place_of (version_of (allocator_of m2)) (mini_stream_ids m2) (mini_place (minis_of links) k) < length (bytes_of (allocator_of m2))
    over_there k past below =
        let b = length (bytes_of (allocator_of m2)) in
        subst (λ u. place_of u (mini_stream_ids m2) (mini_place (minis_of links) k) < b) (sym over_version)
        (subst (λ l. place_of (version_of (allocator_of m1)) l (mini_place (minis_of links) k) < b) (sym over_ids) (over.there k past below))

  -- it has these bytes at its front
  pub taken_short : (m0 m1 m2 : MiniAllocator F g) (who : Owners) (id : ℕ) (links : MiniLinks) (bytes : List ℕ) (one : MovesShort id (minis_of links) m0 m1 who) (goes : KeepsFileInvariants (allocator_of m1) (allocator_of m2)) (live : has_failed_here (allocator_of m2) ≡ false)
      → MiniOverwrites 0 bytes m1 m2 links one.moves.now.sectors → length bytes ≤ 64 * length (minis_of links) → TakesShort id (minis_of links) bytes m0 m2 who
  unfolding live_of
  taken_short m0 m1 m2 who id links bytes one goes live over fits =
      let short = over_short m0 m1 m2 who id 0 links bytes one goes live over in
      let later = minis_of links in
      let all = mini_content_of m1 links in
      let b = bytes_of (allocator_of m2) in
      let v = version_of (allocator_of m2) in
      let long : length bytes ≤ length all = subst (λ k. length bytes ≤ k) (sym (length-mini_joined (mini_stream_of m1) later)) fits in
      record {
        short = short;
        content_is = sym (over_front all bytes long) ∙ ap (take (length bytes)) (sym over.content) ∙ ap (take (length bytes)) (sym (joined_then m0 m2 who id later short));
        there = subst (λ l. AllByRecursion (λ p. p < length b) (take (length bytes) (parts_of (places v l) later))) (sym short.moves.stands.owners.mini_stream)
            (mini_places_there v (mini_stream_ids m2) later (length b) (length bytes) (inside_then m0 m2 who id later short) fits (λ k below. over_there m0 m1 m2 who id 0 links bytes one goes live over k (omega arith) (omega (arith, below))));
      }

  -- a stream whose mini sectors have these bytes at their front has them where its entry tells of them
  pub short_has : (m0 m2 : MiniAllocator F g) (who : Owners) (id : ℕ) (later content : List ℕ) (took : TakesShort id later content m0 m2 who) → took.short.moves.now.sectors (stream_owner id) ≡ [] → length content < mini_cutoff
      → (e : Entry) → e.start ≡ first_of later → e.size ≡ length content → OwnerHasStream (live_of m2) took.short.moves.now id e content
  unfolding live_of
  short_has m0 m2 who id later content took nothing few e start size =
      let now = took.short.moves.now in
      let mine = took.short.mine in
      let b = bytes_of (allocator_of m2) in
      record {
        short = λ below. (
          nothing,
          record {
            start = start ∙ ap first_of (sym mine);
            content_is = took.content_is ∙ ap (λ n. take n (held_joined (live_of m2) now later)) (sym size) ∙ ap (λ l. take e.size (held_joined (live_of m2) now l)) (sym mine);
            whole = sym size;
            there = subst (λ l. AllByRecursion (λ p. p < length b) (take e.size (mini_places_of (live_of m2) now l))) (sym mine)
                (subst (λ n. AllByRecursion (λ p. p < length b) (take n (mini_places_of (live_of m2) now later))) (sym size) took.there);
          },
        );
        long = λ up. absurd (let high = up in omega (arith, high, size, few));
      }

  module _ (m0 : MiniAllocator F g) (who : Owners) (id size len : ℕ) (e : Entry) (content before : List ℕ) (m : HasFileInvariant m0 who) (has : OwnerHasStream (live_of m0) who id e content) (is_size : e.size ≡ size) (below : size < mini_cutoff) (few : len < mini_cutoff)
      (is : who.minis (stream_owner id) ≡ before) where
    short_now : e.size < mini_cutoff
    short_now = subst (λ n. n < mini_cutoff) (sym is_size) below

    joined_was : held_joined (live_of m0) who (who.minis (stream_owner id)) ≡ mini_joined (mini_stream_of m0) before
    joined_was = held_is m0 who m (stream_owner id) ∙ ap (mini_joined (mini_stream_of m0)) is

    content_was : content ≡ take size (mini_joined (mini_stream_of m0) before)
    content_was = (has.short short_now).1.content_is ∙ ap (λ n. take n (held_joined (live_of m0) who (who.minis (stream_owner id)))) is_size ∙ ap (take size) joined_was

    size_was : length content ≡ size
    size_was = (has.short short_now).1.whole ∙ is_size

    room_was : size ≤ 64 * length before
    room_was = subst (λ n. size ≤ n) (length-mini_joined (mini_stream_of m0) before) (fits_in size content (mini_joined (mini_stream_of m0) before) content_was size_was)

    inside_was : AreInside (length (mini_stream_ids m0) * sector_len (version_of (allocator_of m0))) before
    inside_was = subst (AreInside (length (mini_stream_ids m0) * sector_len (version_of (allocator_of m0)))) is (inside_by m0 who m (stream_owner id))

    place_was : (k : ℕ) → k < size → place_of (version_of (allocator_of m0)) (mini_stream_ids m0) (mini_place before k) < length (bytes_of (allocator_of m0))
    unfolding live_of
    place_was k early =
        let v = version_of (allocator_of m0) in
        let b = bytes_of (allocator_of m0) in
        let there = (has.short short_now).1.there in
        mini_place_there v (mini_stream_ids m0) before (length b) size k inside_was room_was
        (subst (λ l. AllByRecursion (λ p. p < length b) (take size (parts_of (places v l) before))) m.owners.mini_stream
        (subst (λ l. AllByRecursion (λ p. p < length b) (take size (parts_of (places v (who.sectors mini_stream_owner)) l))) is
        (subst (λ n. AllByRecursion (λ p. p < length b) (take n (parts_of (places v (who.sectors mini_stream_owner)) (who.minis (stream_owner id))))) is_size there))) early

    -- it has its bytes in another chain, where that has each at its index, and in the file
    housed : (m2 : MiniAllocator F g) (later : List ℕ) (short : MovesShort id later m0 m2 who) → len ≤ 64 * length later → ((k : ℕ) → k < len → get_or (mini_joined (mini_stream_of m2) later) k 0 ≡ get_or content k 0)
        → ((k : ℕ) → k < len → place_of (version_of (allocator_of m2)) (mini_stream_ids m2) (mini_place later k) < length (bytes_of (allocator_of m2)))
        → (it : Houses id (first_of later) (resized len content) m0 m2 who) × (it.moves.now.minis (stream_owner id) ≡ later)
    unfolding live_of
    housed m2 later short room bytes_at places_at =
        let b = bytes_of (allocator_of m2) in
        let v = version_of (allocator_of m2) in
        let all = mini_joined (mini_stream_of m2) later in
        let count = length-resized content len in
        let whole : len ≤ length all = subst (λ n. len ≤ n) (sym (length-mini_joined (mini_stream_of m2) later)) room in
        let took : TakesShort id later (resized len content) m0 m2 who = record {
          short = short;
          content_is = resized_is all content len whole bytes_at ∙ ap (λ n. take n all) (sym count) ∙ ap (take (length (resized len content))) (sym (joined_then m0 m2 who id later short));
          there = subst (λ n. AllByRecursion (λ p. p < length b) (take n (parts_of (places v (short.moves.now.sectors mini_stream_owner)) later))) (sym count)
              (subst (λ l. AllByRecursion (λ p. p < length b) (take len (parts_of (places v l) later))) (sym short.moves.stands.owners.mini_stream)
              (mini_places_there v (mini_stream_ids m2) later (length b) len (inside_then m0 m2 who id later short) room places_at));
        } in (
          record {
            moves = short.moves;
            has = short_has m0 m2 who id later (resized len content) took (short.sectors ∙ (has.short short_now).0) (subst (λ n. n < mini_cutoff) (sym count) few);
          },
          short.mine,
        )

    -- cut
    pub cut_short : (m1 : MiniAllocator F g) (later : List ℕ) (count : ℕ) → KeepsFileInvariants (allocator_of m0) (allocator_of m1) → has_failed_here (allocator_of m1) ≡ false → len ≤ size → len ≤ 64 * count → Shortens count m0 m1 before later who.sectors
        → (it : Houses id (first_of later) (resized len content) m0 m1 who) × (it.moves.now.minis (stream_owner id) ≡ later)
    unfolding seen_of
    cut_short m1 later count goes live fewer fits cut =
        let short = ended m0 m1 who id m goes live count before later is cut in
        let size_then = ap length cut.minis_are ∙ length-take count before in
        let had = room_was in
        let room : len ≤ 64 * length later = cut_room len size count (length before) (length later) size_then had fewer fits in
        let parts : before ≡ later ++ drop count before = sym (take-append-drop count before) ∙ ap (λ l. l ++ drop count before) (sym cut.minis_are) in
        let ids : mini_stream_ids m0 ≡ mini_stream_ids m1 ++ [] = sym m.owners.mini_stream ∙ cut.changes.owners.mini_stream ∙ sym (append-nil (mini_stream_ids m1)) in
        let stream : mini_stream_of m0 ≡ mini_stream_of m1 ++ zeros 0 = sym cut.bytes ∙ sym (append-nil (mini_stream_of m1)) in
        let v = version_of (allocator_of m1) in
        let longer : length (bytes_of (allocator_of m0)) ≤ length (bytes_of (allocator_of m1)) = cut.becomes.leaves.longer in
        housed m1 later short room
        (λ k low.
        let early : k < size = omega (arith, low, fewer) in
        sym (get_front (mini_stream_of m1) (mini_stream_of m0) later (drop count before) before 0 k stream parts (omega (arith, low, room)))
        ∙ sym (ap (λ l. get_or l k 0) content_was ∙ get_or-take size (mini_joined (mini_stream_of m0) before) k 0 early))
        (λ k low.
        let early : k < size = omega (arith, low, fewer) in
        let there = place_was k early in
        let same : place_of v (mini_stream_ids m0) (mini_place before k) ≡ place_of v (mini_stream_ids m1) (mini_place later k) =
        place_front v (mini_stream_ids m1) (mini_stream_ids m0) [] later (drop count before) before k ids parts (inside_then m0 m1 who id later short) (omega (arith, low, room)) in
        let here : place_of v (mini_stream_ids m1) (mini_place later k) < length (bytes_of (allocator_of m0)) =
        subst (λ p. p < length (bytes_of (allocator_of m0))) (ap (λ u. place_of u (mini_stream_ids m0) (mini_place before k)) (sym goes.version) ∙ same) there in
        omega (arith, here, longer))
      where
        cut_room : (l s c b n : ℕ) → n ≡ min c b → s ≤ 64 * b → l ≤ s → l ≤ 64 * c → l ≤ 64 * n
        cut_room l s c b n is had fewer fits = omega (arith, is, had, fewer, fits)

    -- or longer, with zeros written behind its bytes
    pub grown_short : (m1 m2 : MiniAllocator F g) (links : MiniLinks) (goes1 : KeepsFileInvariants (allocator_of m0) (allocator_of m1)) (live1 : has_failed_here (allocator_of m1) ≡ false) (grown : AppendsMiniSectors m0 m1 before (minis_of links) who.sectors)
        → (goes2 : KeepsFileInvariants (allocator_of m1) (allocator_of m2)) (live2 : has_failed_here (allocator_of m2) ≡ false) → size ≤ len → len ≤ 64 * length (minis_of links)
        → MiniOverwrites size (zeros (len - size)) m1 m2 links (begun m0 m1 who id m goes1 live1 before (minis_of links) is grown).moves.now.sectors
        → (it : Houses id (first_of (minis_of links)) (resized len content) m0 m2 who) × (it.moves.now.minis (stream_owner id) ≡ minis_of links)
    unfolding live_of
    grown_short m1 m2 links goes1 live1 grown goes2 live2 more room over =
        let later = minis_of links in
        let one = begun m0 m1 who id m goes1 live1 before later is grown in
        let written = zeros (len - size) in
        let short = over_short m0 m1 m2 who id size links written one goes2 live2 over in
        let count = length-replicate {A = ℕ} (len - size) 0 in
        let v = version_of (allocator_of m2) in
        let b0 = length (bytes_of (allocator_of m0)) in
        let b2 = length (bytes_of (allocator_of m2)) in
        let longer : b0 ≤ b2 = short.moves.carries.longer in
        let had = room_was in
        housed m2 later short room
        (λ k low.
        ap (λ l. get_or l k 0) over.content
        ∙ ⊎_elim
        (λ past.
        let here : size + (k - size) ≡ k = let p = past.1 in omega (arith, p) in
        let within : k - size < length written = let p = past.1 in omega (arith, p, low, count) in
        ap (λ i. get_or (overwritten (mini_content_of m1 links) size written) i 0) (sym here) ∙ get_written (mini_content_of m1 links) size written (k - size) within ∙ zero_at (len - size) (k - size)
        ∙ sym (get_or_past content k 0 (let s = size_was in let p = past.1 in omega (arith, s, p))))
        (λ early.
        get_before (mini_content_of m1 links) size written k early.1
        ∙ get_front (mini_stream_of m0) (mini_stream_of m1) before grown.taken later grown.zeros k grown.stream grown.minis_are (let e = early.1 in omega (arith, e, had))
        ∙ sym (ap (λ l. get_or l k 0) content_was ∙ get_or-take size (mini_joined (mini_stream_of m0) before) k 0 early.1))
        (leb_tells size k))
        (λ k low. ⊎_elim
        (λ past. over_there m0 m1 m2 who id size links written one goes2 live2 over k past.1 (omega (arith, low, count)))
        (λ early.
        let there = place_was k early.1 in
        let ids : mini_stream_ids m2 ≡ mini_stream_ids m0 ++ grown.file.more = over_ids m0 m1 m2 who id size links written one goes2 live2 over ∙ grown.file.stream in
        let same : place_of v (mini_stream_ids m2) (mini_place later k) ≡ place_of v (mini_stream_ids m0) (mini_place before k) =
        place_front v (mini_stream_ids m0) (mini_stream_ids m2) grown.file.more before grown.taken later k ids grown.minis_are (subst (λ u. AreInside (length (mini_stream_ids m0) * sector_len u) before) (sym (goes2.version ∙ goes1.version)) inside_was) (let e = early.1 in omega (arith, e, had)) in
        let here : place_of v (mini_stream_ids m2) (mini_place later k) < b0 =
        subst (λ p. p < b0) (ap (λ u. place_of u (mini_stream_ids m0) (mini_place before k)) (sym (goes2.version ∙ goes1.version)) ∙ sym same) there in
        omega (arith, here, longer))
        (leb_tells size k))

  -- a short stream was written over
  pub short_over : (old new : MiniAllocator F g) (who : Owners) (id : ℕ) (e : Entry) (content : List ℕ) (links : MiniLinks) (at : ℕ) (bytes : List ℕ) → (m : HasFileInvariant old who) → OwnerHasStream (live_of old) who id e content → e.size < mini_cutoff
      → who.minis (stream_owner id) ≡ minis_of links → at + length bytes ≤ e.size → (moved : ReplacesStreamChain id old new who) → moved.now ≡ who → MiniOverwrites at bytes old new links who.sectors
      → OwnerHasStream (live_of new) moved.now id e (overwritten content at bytes)
  unfolding live_of
  short_over old new who id e content links at bytes m has below is within moved same over =
      let key = stream_owner id in
      let lay = (has.short below).1 in
      let ids = ap (λ (o : Owners). o.minis key) same in
      let b = bytes_of (allocator_of new) in
      let joined_now : held_joined (live_of new) moved.now (moved.now.minis key) ≡ overwritten (held_joined (live_of old) who (who.minis key)) at bytes =
      held_is new moved.now moved.stands key ∙ ap (mini_joined (mini_stream_of new)) (ids ∙ is) ∙ over.content ∙ ap (λ l. overwritten l at bytes) (ap (mini_joined (mini_stream_of old)) (sym is) ∙ sym (held_is old who m key)) in
      let streams = ap (λ (o : Owners). o.sectors mini_stream_owner) same in
      let places_now : mini_places_of (live_of new) moved.now (moved.now.minis key) ≡ mini_places_of (live_of old) who (who.minis key) =
      ap (λ u. parts_of (places u (moved.now.sectors mini_stream_owner)) (moved.now.minis key)) moved.carries.version
      ∙ ap (λ l. parts_of (places (version_of (allocator_of old)) l) (moved.now.minis key)) streams ∙ ap (parts_of (places (version_of (allocator_of old)) (who.sectors mini_stream_owner))) ids in
      record {
        short = λ few. (
          ap (λ (o : Owners). o.sectors key) same ∙ (has.short below).0,
          lies_over (bytes_of (allocator_of old)) b e (who.minis key) (moved.now.minis key) _ _ _ _ content bytes at moved.carries.longer ids joined_now places_now within lay,
        );
        long = λ up. absurd (let high = up in omega (arith, high, below));
      }
