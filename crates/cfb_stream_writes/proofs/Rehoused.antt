-- A stream that took its home on the other level, and then gave up the one that it had.
use Rattle.std.proofs.Common.{◌≡◌, ℕ, ◌+◌, ◌*◌, ◌<◌, ◌≤◌, inl, false, List, [], length, take, refl, ap, sym, subst, ◌∙◌, arith}
use Rattle.std.specs.List.{AllByRecursion}
use Rattle.cfb_chains.specs.LinkViews.{ids_of, links_version}
use Rattle.cfb_chains.specs.declared.links.Links.{Links}
use Rattle.cfb_chains.specs.Owned.{ReplacesOwnedChain as MovesOne}
use Rattle.cfb_chains.proofs.Owners.{other_left, owned_changed}
use Rattle.cfb_directory.specs.Views.{entries_held}
use Rattle.cfb_fat.specs.Orderly.{AreBelow}
use Rattle.cfb_fat.specs.Seeing.{seen_of}
use Rattle.cfb_fat.specs.Tables.{bytes_of, has_failed_here, version_of}
use Rattle.cfb_tree_edits.specs.Freeing.{HasFileInvariant}
use Rattle.cfb_tree_edits.specs.Live.{live_of}
use Rattle.cfb_tree_edits.specs.Orphans.{StaysTidy}
use Rattle.cfb_tree_edits.proofs.Freed.{chain_below, own_minis}
use Rattle.cfb_tree_edits.proofs.Strays.{short_strays, strays_then}
use Rattle.cfb_tree_edits.proofs.StrictFacts.{header_here}
use Rattle.cfb_medium.specs.declared.medium.ReadMedium.{Ghosts}
use Rattle.cfb_mini.specs.Changing.{mini_seen, FreesMiniSectors}
use Rattle.cfb_mini.specs.LinkViews.{minis_of}
use Rattle.cfb_mini.specs.Minis.{all_words, mini_sector}
use Rattle.cfb_mini.specs.Views.{allocator_of, directory_of, mini_fat_of, mini_stream_len}
use Rattle.cfb_mini.specs.declared.links.MiniLinks.{MiniLinks}
use Rattle.cfb_mini.specs.declared.mini_allocator.MiniAllocator.{MiniAllocator}
use Rattle.cfb_mini.proofs.Keeping.{pick, pick_mine, pick_other}
use Rattle.cfb_chain_io.specs.ChainEffects.{KeepsFileInvariants}
use Rattle.cfb_ownership.specs.Held.{mini_joined, mini_places_of, EntryLiesIn, OwnerHasStream}
use Rattle.cfb_ownership.specs.Owners.{first_of, stream_owner, Owners}
use Rattle.cfb_sectors.specs.Header.{mini_cutoff}
use Rattle.cfb_sectors.specs.Sectors.{joined, places}
use Rattle.cfb_stream_reads.specs.declared.opening.StreamLinks.TheVariants.{Long, Short}
use Rattle.cfb_tree.specs.Changes.{changed, with_bytes}
use Rattle.cfb_tree.specs.Directory.{Entry}
use Rattle.cfb_tree.specs.Names.{CaseTable}
use Rattle.cfb_tree.specs.Paths.{Path}
use Rattle.cfb_tree.specs.Tree.{Tree}
use Rattle.cfb_stream_writes.specs.Moving.{ReplacesStreamChain, MovesLong, MovesRoot, Places, TakesLong, TakesShort}
use Rattle.cfb_stream_writes.specs.Streams.{AreLinksOf, IsStreamAt}
use Rattle.cfb_stream_writes.proofs.MiniMoves.{leaves_file, mini_moves, minis_owned}
use Rattle.cfb_stream_writes.proofs.Others.{lies_still, others_then}
use Rattle.cfb_stream_writes.proofs.Placed.{entry_of, placed_links, placed_minis, placed_strays, stream_placed}
use Rattle.cfb_stream_writes.proofs.ShortAt.{short_below, short_owned}

module _ {F : Type 0} {g : Ghosts F} (old new : MiniAllocator F g) (goes : KeepsFileInvariants (allocator_of old) (allocator_of new)) where
  -- a stream gave up its mini sectors, whatever sectors it has
  vacated : (who : Owners) (id : ℕ) → HasFileInvariant old who → has_failed_here (allocator_of new) ≡ false → FreesMiniSectors (who.minis (stream_owner id)) old new who.sectors
      → (it : ReplacesStreamChain id old new who) × (it.now ≡ record { sectors = who.sectors; minis = pick who.minis (stream_owner id) [] })
  unfolding mini_seen
  vacated who id m live f =
      let key = stream_owner id in
      let mine = pick_mine who.minis key [] in
      let others = pick_other who.minis key [] in
      let moved : MovesOne mini_sector all_words key [] [] (mini_seen old) (mini_seen new) who.minis (pick who.minis key []) = record { becomes = f.changes.becomes; mine = mine; others = others } in
      let owned = minis_owned old who m in
      let left = other_left mini_sector (mini_seen old) (mini_seen new) who.minis (pick who.minis key []) key all_words [] [] owned moved in
      mini_moves old new who id m goes live (leaves_file old new goes who.sectors m.owners f.changes.owners f.becomes f.entries f.counts) who.sectors f.changes.owners (λ k past. refl) f.changes.others (pick who.minis key [])
      (owned_changed mini_sector (mini_seen old) (mini_seen new) who.minis (pick who.minis key []) key all_words [] [] owned moved) others
      (subst (AllByRecursion (λ n. 64 * n + 64 ≤ mini_stream_len new)) (sym mine) tt)
      (λ k other. (left k other).bytes) (inl f.entries) (short_strays old new who id (header_here old who m) f)

module _ {F : Type 0} {g : Ghosts F} (m0 m1 m2 : MiniAllocator F g) (who : Owners) (id : ℕ) (later content : List ℕ) (took : TakesLong id later content m0 m1 who)
    (goes : KeepsFileInvariants (allocator_of m1) (allocator_of m2)) (live : has_failed_here (allocator_of m2) ≡ false) (frees : FreesMiniSectors (took.long.moves.now.minis (stream_owner id)) m1 m2 took.long.moves.now.sectors) where
  abbrev key : ℕ
  key = stream_owner id

  abbrev mid : Owners
  mid = took.long.moves.now

  step : (it : ReplacesStreamChain id m1 m2 mid) × (it.now ≡ record { sectors = mid.sectors; minis = pick mid.minis key [] })
  step = vacated m1 m2 goes mid id took.long.moves.stands live frees

  -- all others have what they had
  pub rehoused_moves : ReplacesStreamChain id m0 m2 who
  unfolding live_of
  rehoused_moves = record {
    now = step.0.now;
    stands = step.0.stands;
    carries = others_then key (live_of m0) (live_of m1) (live_of m2) who mid step.0.now took.long.moves.carries step.0.carries;
    entries = inl (frees.entries ∙ took.long.entries);
    strays = strays_then m0 m1 m2 who mid step.0.now took.long.moves.strays step.0.strays;
  }

  pub rehoused_mine : rehoused_moves.now.sectors key ≡ later
  unfolding rehoused_moves
  rehoused_mine = ap (λ (o : Owners). o.sectors key) step.1 ∙ took.long.mine

  -- it has its bytes in the sectors, where its entry tells of them
  pub rehoused_has : (f : Entry) → f.start ≡ first_of later → f.size ≡ length content → mini_cutoff ≤ f.size → OwnerHasStream (live_of m2) rehoused_moves.now id f content
  unfolding live_of seen_of rehoused_moves
  rehoused_has f start size up =
      let now = step.0.now in
      let v1 = version_of (allocator_of m1) in
      let v2 = version_of (allocator_of m2) in
      let b1 = bytes_of (allocator_of m1) in
      let b2 = bytes_of (allocator_of m2) in
      let mine : now.sectors key ≡ later = ap (λ (o : Owners). o.sectors key) step.1 ∙ took.long.mine in
      let first : EntryLiesIn b1 f later (joined v1 b1 later) (places v1 later) content =
      record {
        start = start;
        content_is = took.content_is ∙ ap (λ n. take n (joined v1 b1 later)) (sym size);
        whole = sym size;
        there = subst (λ n. AllByRecursion (λ p. p < length b1) (take n (places v1 later))) (sym size) took.there;
      } in
      let stay = (frees.changes.others key (omega arith)).bytes in
      let bytes : joined v2 b2 (now.sectors key) ≡ joined v1 b1 later =
      ap (joined v2 b2) mine ∙ ap (λ u. joined u b2 later) goes.version ∙ ap (joined v1 b2) (sym took.long.mine) ∙ stay ∙ ap (joined v1 b1) took.long.mine in
      record {
        short = λ below. absurd (let few = below in omega (arith, few, up));
        long = λ most. (
          ap (λ (o : Owners). o.minis key) step.1 ∙ pick_mine mid.minis key [],
          lies_still b1 b2 f f later (now.sectors key) _ _ _ _ content step.0.carries.longer refl refl mine bytes (ap (places v2) mine ∙ ap (λ u. places u later) goes.version) first,
        );
      }

module _ {F : Type 0} {g : Ghosts F} (letters : CaseTable) (m0 m1 m2 new : MiniAllocator F g) (tree : Tree) (path : Path) (id : ℕ) (content content' : List ℕ) (at : IsStreamAt letters m0 tree path id content)
    (links : Links) (took : TakesLong id (ids_of links) content' m0 m1 at.means.who) (goes1 : KeepsFileInvariants (allocator_of m1) (allocator_of m2)) (live1 : has_failed_here (allocator_of m2) ≡ false)
    (frees : FreesMiniSectors (took.long.moves.now.minis (stream_owner id)) m1 m2 took.long.moves.now.sectors) (start len : ℕ) (starts : start ≡ first_of (ids_of links)) (size : len ≡ length content') (up : mini_cutoff ≤ len)
    (p : Places id start len m2 new) (goes : KeepsFileInvariants (allocator_of m2) (allocator_of new)) (live : has_failed_here (allocator_of new) ≡ false) where
  -- it lies there, with its new bytes, and there are no more strays
  pub rehoused : links_version links ≡ version_of (allocator_of m2)
      → (then : IsStreamAt letters new (changed letters (with_bytes content') path tree) path id content') × AreLinksOf id (Long links) new × StaysTidy m0 new at.means.who then.means.who
  rehoused version =
      let who = at.means.who in
      let moved = rehoused_moves m0 m1 m2 who id (ids_of links) content' took goes1 live1 frees in
      let mine = rehoused_mine m0 m1 m2 who id (ids_of links) content' took goes1 live1 frees in
      let has = rehoused_has m0 m1 m2 who id (ids_of links) content' took goes1 live1 frees (record p.entry { start = start; size = len }) starts size up in (
        stream_placed letters m0 m2 new tree path id content content' at moved start len p goes live has,
        placed_links letters m0 m2 new tree path id content content' at moved start len p goes live has links mine version up,
        placed_strays letters m0 m2 new tree path id content content' at moved start len p goes live has,
      )

-- so did a long one that took mini sectors
module _ {F : Type 0} {g : Ghosts F} (m0 m1 m2 : MiniAllocator F g) (who : Owners) (id : ℕ) (later content : List ℕ) (took : TakesShort id later content m0 m1 who) (freed : MovesLong id [] m1 m2 took.short.moves.now) where
  abbrev short_mid : Owners
  short_mid = took.short.moves.now

  pub shortened_moves : ReplacesStreamChain id m0 m2 who
  unfolding live_of
  shortened_moves = record {
    now = freed.moves.now;
    stands = freed.moves.stands;
    carries = others_then (stream_owner id) (live_of m0) (live_of m1) (live_of m2) who short_mid freed.moves.now took.short.moves.carries freed.moves.carries;
    entries = subst (MovesRoot (entries_held (directory_of m0))) (sym freed.entries) took.short.moves.entries;
    strays = strays_then m0 m1 m2 who short_mid freed.moves.now took.short.moves.strays freed.moves.strays;
  }

  pub shortened_mine : shortened_moves.now.minis (stream_owner id) ≡ later
  unfolding shortened_moves
  shortened_mine = freed.minis ∙ took.short.mine

  -- it has its bytes in the mini sectors, where its entry tells of them
  pub shortened_has : (f : Entry) → f.start ≡ first_of later → f.size ≡ length content → f.size < mini_cutoff → OwnerHasStream (live_of m2) shortened_moves.now id f content
  unfolding live_of seen_of shortened_moves
  shortened_has f start size below =
      let now = freed.moves.now in
      let b1 = bytes_of (allocator_of m1) in
      let b2 = bytes_of (allocator_of m2) in
      let mine : now.minis (stream_owner id) ≡ later = freed.minis ∙ took.short.mine in
      let first : EntryLiesIn b1 f later (mini_joined (live_of m1) short_mid later) (mini_places_of (live_of m1) short_mid later) content =
      record {
        start = start;
        content_is = took.content_is ∙ ap (λ n. take n (mini_joined (live_of m1) short_mid later)) (sym size);
        whole = sym size;
        there = subst (λ n. AllByRecursion (λ p. p < length b1) (take n (mini_places_of (live_of m1) short_mid later))) (sym size) took.there;
      } in
      record {
        short = λ few. (
          freed.mine,
          lies_still b1 b2 f f later (now.minis (stream_owner id)) _ _ _ _ content freed.moves.carries.longer refl refl mine
              (ap (mini_joined (live_of m2) now) mine ∙ freed.mini_joined later) (ap (mini_places_of (live_of m2) now) mine ∙ freed.mini_places later) first,
        );
        long = λ up. absurd (let high = up in omega (arith, high, below));
      }

module _ {F : Type 0} {g : Ghosts F} (letters : CaseTable) (m0 m1 m2 new : MiniAllocator F g) (tree : Tree) (path : Path) (id : ℕ) (content content' : List ℕ) (at : IsStreamAt letters m0 tree path id content)
    (minis : MiniLinks) (took : TakesShort id (minis_of minis) content' m0 m1 at.means.who) (freed : MovesLong id [] m1 m2 took.short.moves.now) (start len : ℕ) (starts : start ≡ first_of (minis_of minis)) (size : len ≡ length content') (below : len < mini_cutoff)
    (p : Places id start len m2 new) (goes : KeepsFileInvariants (allocator_of m2) (allocator_of new)) (live : has_failed_here (allocator_of new) ≡ false) where
  -- it lies there, with its new bytes, and there are no more strays
  pub shortened : (then : IsStreamAt letters new (changed letters (with_bytes content') path tree) path id content') × AreLinksOf id (Short minis) new × StaysTidy m0 new at.means.who then.means.who
  shortened =
      let who = at.means.who in
      let moved = shortened_moves m0 m1 m2 who id (minis_of minis) content' took freed in
      let mine = shortened_mine m0 m1 m2 who id (minis_of minis) content' took freed in
      let has = shortened_has m0 m1 m2 who id (minis_of minis) content' took freed (record p.entry { start = start; size = len }) starts size below in (
        stream_placed letters m0 m2 new tree path id content content' at moved start len p goes live has,
        placed_minis letters m0 m2 new tree path id content content' at moved start len p goes live has minis mine below,
        placed_strays letters m0 m2 new tree path id content content' at moved start len p goes live has,
      )

module _ {F : Type 0} {g : Ghosts F} (letters : CaseTable) (it : MiniAllocator F g) (tree : Tree) (path : Path) (id : ℕ) (content : List ℕ) (at : IsStreamAt letters it tree path id content) (minis : MiniLinks) (are : AreLinksOf id (Short minis) it) where
  -- a short stream has no sectors
  pub short_without : at.means.who.sectors (stream_owner id) ≡ []
  unfolding live_of
  short_without = let was = entry_of letters it tree path id content at in (was.has.short (short_below letters it tree path id content at minis are)).0

  -- and keeps its mini sectors while it takes sectors
  pub short_keeps : (later content' : List ℕ) (after : MiniAllocator F g) (took : TakesLong id later content' it after at.means.who) → took.long.moves.now.minis (stream_owner id) ≡ minis_of minis
  short_keeps later content' after took = took.long.minis ∙ short_owned letters it tree path id content at minis are

  -- which the mini FAT has
  pub short_in_table : (later content' : List ℕ) (after : MiniAllocator F g) → TakesLong id later content' it after at.means.who → AreBelow (length (mini_fat_of after)) (minis_of minis)
  short_in_table later content' after took =
      let now = took.long.moves.now in
      let mine = now.minis (stream_owner id) in
      subst (AreBelow (length (mini_fat_of after))) (short_keeps later content' after took) (chain_below (mini_fat_of after) (first_of mine) mine (own_minis after now took.long.moves.stands (stream_owner id)).linked)
