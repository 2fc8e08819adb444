-- A stream whose sectors were changed, and whose entry tells of them then.
use Rattle.std.proofs.Common.{◌≡◌, ℕ, ◌+◌, ◌<◌, ◌≤◌, ◌⊎◌, inl, false, List, [], refl, ap, sym, subst, ◌∙◌, arith, IsTrue}
use Rattle.std.specs.Prelude.{slice_get, slice_set, Some}
use Rattle.cfb_chains.specs.LinkViews.{ids_of, links_version}
use Rattle.cfb_chains.specs.declared.links.Links.{Links}
use Rattle.cfb_chains.specs.Owned.{AreBesideWords}
use Rattle.cfb_directory.specs.Entries.{SizesFit}
use Rattle.cfb_directory.specs.Views.{directory_ids, entries_held}
use Rattle.cfb_fat.specs.Tables.{has_failed_here, version_of}
use Rattle.cfb_tree_edits.specs.Freeing.{CarriesBut, FreesStream, HasFileInvariant}
use Rattle.cfb_tree_edits.specs.Live.{live_of}
use Rattle.cfb_tree_edits.specs.Orphans.{HaveStrictFacts, StaysTidy}
use Rattle.cfb_tree_edits.proofs.Carried.{stream_stays, Carries}
use Rattle.cfb_tree_edits.proofs.Directories.{carries, has_owners, kept_later, owners_now}
use Rattle.cfb_tree_edits.proofs.Strays.{directory_strays, strays_then}
use Rattle.cfb_tree_edits.proofs.StrictFacts.{facts_placed}
use Rattle.cfb_medium.specs.declared.medium.ReadMedium.{Ghosts}
use Rattle.cfb_mini.specs.Changing.{ChangesDirectory}
use Rattle.cfb_mini.specs.LinkViews.{minis_of}
use Rattle.cfb_mini.specs.Views.{allocator_of, directory_of}
use Rattle.cfb_mini.specs.declared.links.MiniLinks.{MiniLinks}
use Rattle.cfb_mini.specs.declared.mini_allocator.MiniAllocator.{MiniAllocator}
use Rattle.cfb_chain_io.specs.ChainEffects.{KeepsFileInvariants}
use Rattle.cfb_ownership.specs.Held.{OwnerHasStream, OwnersHoldTree}
use Rattle.cfb_ownership.specs.LiveInvariant.{LiveFileInvariant}
use Rattle.cfb_ownership.specs.LiveFile.{LiveFile}
use Rattle.cfb_ownership.specs.Owners.{first_of, stream_owner, Owners}
use Rattle.cfb_mini.proofs.Keeping.{pick_other}
use Rattle.cfb_mini.proofs.KeptFile.{sizes_set}
use Rattle.cfb_sectors.specs.Header.{mini_cutoff}
use Rattle.cfb_sectors.specs.Sectors.{end_of_chain}
use Rattle.cfb_stream_reads.specs.Streams.{IsOfLevel, StreamLiesIn}
use Rattle.cfb_stream_reads.specs.declared.opening.StreamLinks.TheVariants.{Long, Short}
use Rattle.cfb_siblings.specs.Changes.{HasSameLinks}
use Rattle.cfb_siblings.specs.Places.{LeadsTo}
use Rattle.cfb_siblings.proofs.Frames.{set_changes_only, set_found}
use Rattle.cfb_tree.specs.Changes.{changed, with_bytes}
use Rattle.cfb_tree.specs.Directory.{Entry}
use Rattle.cfb_tree.specs.Names.{CaseTable}
use Rattle.cfb_tree.specs.Paths.{Path}
use Rattle.cfb_tree.specs.Tree.{Tree}
use Rattle.cfb_tree.proofs.OneContent.{Some_same}
use Rattle.cfb_stream_writes.specs.Moving.{CarriesOthers, ReplacesStreamChain, MovesRoot, Places}
use Rattle.cfb_stream_writes.specs.Streams.{AreLinksOf, IsStreamAt}
use Rattle.cfb_stream_writes.proofs.Links.{differ, own_links, place_links}
use Rattle.cfb_stream_writes.proofs.LongLinks.{long_links}
use Rattle.cfb_stream_writes.proofs.Others.{carries_others, others_then}
use Rattle.cfb_stream_writes.proofs.Rewritten.{found_rewritten, held_rewritten, mid_same, not_zero, stream_entry, StreamEntry, StreamFound}
use Rattle.cfb_stream_writes.proofs.ShortLinks.{short_links}
use Rattle.cfb_tree_edits.proofs.SetFacts.{set_same}

-- where all streams stay, those of others do
any_others : (key : ℕ) (s t : LiveFile) (who now : Owners) → Carries s t who now → CarriesBut key s t who now
any_others key s t who now c = record {
  version = c.version;
  longer = c.longer;
  sectors = λ k past other. c.sectors k past;
  minis = λ k other. ap (λ m. m k) c.minis;
  joined = λ k past other. c.joined k past;
}

module _ {F : Type 0} {g : Ghosts F} (letters : CaseTable) (it : MiniAllocator F g) (tree : Tree) (path : Path) (id : ℕ) (content : List ℕ) (at : IsStreamAt letters it tree path id content) where
  -- its entry
  pub entry_of : StreamEntry (live_of it) at.means.who at.means.held.ids id at.bits content
  unfolding live_of
  entry_of = stream_entry (live_of it) at.means.who letters tree at.means.held path id at.name at.bits content at.leads at.at_path

  pub found_at : slice_get (entries_held (directory_of it)) id ≡ Some entry_of.entry
  unfolding live_of
  found_at = entry_of.found

  -- it stays while sectors are in change
  pub entry_moved : (mid : MiniAllocator F g) → ReplacesStreamChain id it mid at.means.who → slice_get (entries_held (directory_of mid)) id ≡ Some entry_of.entry
  unfolding live_of
  entry_moved mid moved =
      mid_same (live_of it) at.means.who letters tree at.means.held (live_of mid).entries moved.entries id entry_of.entry (not_zero (live_of it) at.means.who letters tree at.means.held (live_of mid).entries moved.entries id entry_of.one) entry_of.found

module _ {F : Type 0} {g : Ghosts F} (old mid : MiniAllocator F g) (who : Owners) (id : ℕ) (frees : FreesStream id old mid who) where
  -- a stream gave up its sectors
  pub freed_moves : ReplacesStreamChain id old mid who
  freed_moves = record {
    now = frees.now;
    stands = frees.stands;
    carries = carries_others (stream_owner id) (live_of old) (live_of mid) who frees.now (omega arith) frees.carries;
    entries = inl frees.entries;
    strays = frees.strays;
  }

  -- and has no bytes then
  pub freed_has : (e : Entry) → e.start ≡ end_of_chain → e.size ≡ 0 → OwnerHasStream (live_of mid) freed_moves.now id e []
  unfolding freed_moves
  freed_has e start size = record {
    short = λ below. (
      frees.nothing.0,
      record {
        start = start ∙ ap first_of (sym frees.nothing.1);
        content_is = rw size refl;
        whole = sym size;
        there = rw size tt;
      },
    );
    long = λ up. absurd (let wrong = up in omega (arith, wrong, size));
  }

module _ {F : Type 0} {g : Ghosts F} (letters : CaseTable) (old mid new : MiniAllocator F g) (tree : Tree) (path : Path) (id : ℕ) (content content' : List ℕ) (at : IsStreamAt letters old tree path id content)
    (moved : ReplacesStreamChain id old mid at.means.who) (start size : ℕ) (p : Places id start size mid new) (goes : KeepsFileInvariants (allocator_of mid) (allocator_of new)) (live : has_failed_here (allocator_of new) ≡ false)
    (has : OwnerHasStream (live_of mid) moved.now id (record p.entry { start = start; size = size }) content') where
  abbrev f : Entry
  f = record p.entry { start = start; size = size }

  was : StreamEntry (live_of old) at.means.who at.means.held.ids id at.bits content
  was = entry_of letters old tree path id content at

  moved_root : MovesRoot (live_of old).entries (live_of mid).entries
  unfolding live_of
  moved_root = moved.entries

  below : id ≡ 0 → ⊥
  below = not_zero (live_of old) at.means.who letters tree at.means.held (live_of mid).entries moved_root id was.one

  same : p.entry ≡ was.entry
  unfolding live_of
  same = Some_same (sym p.found ∙ mid_same (live_of old) at.means.who letters tree at.means.held (live_of mid).entries moved_root id was.entry below was.found)

  links : HasSameLinks was.entry f
  links = subst (λ (x : Entry). HasSameLinks x f) same (place_links p.entry start size)

  changes : ChangesDirectory [] mid new moved.now.sectors
  changes = p.changes moved.now.sectors moved.stands.owners below

  none : (place count : ℕ) → (place + count ≤ 40) ⊎ (48 ≤ place) → AreBesideWords [] place count
  none place count beside = tt

  abbrev now : Owners
  now = owners_now [] none mid new moved.now moved.stands goes live changes

  all_carried : Carries (live_of mid) (live_of new) moved.now now
  all_carried = carries [] none mid new moved.now moved.stands goes live changes

  others : CarriesOthers (stream_owner id) (live_of old) (live_of new) at.means.who now
  others = others_then (stream_owner id) (live_of old) (live_of mid) (live_of new) at.means.who moved.now now moved.carries
      (carries_others (stream_owner id) (live_of mid) (live_of new) moved.now now (omega arith) (any_others (stream_owner id) (live_of mid) (live_of new) moved.now now all_carried))

  set : (live_of new).entries ≡ slice_set (live_of mid).entries id f
  unfolding live_of
  set = p.set

  root_found : slice_get (entries_held (directory_of new)) 0 ≡ Some moved.stands.root
  unfolding live_of
  root_found = ap (λ l. slice_get l 0) p.set ∙ set_changes_only (entries_held (directory_of mid)) id f 0 moved.stands.root (differ id 0 (λ is. below (sym is))) moved.stands.kept.root_found

  kept : LiveFileInvariant (live_of new) now moved.stands.root
  kept = kept_later [] none mid new moved.now moved.stands goes live changes moved.stands.root root_found moved.stands.kept.root_kind

  has_now : OwnerHasStream (live_of new) now id f content'
  has_now = stream_stays (live_of mid) (live_of new) moved.now now all_carried id f f content' refl refl has

  was_leads : LeadsTo letters (live_of old).entries 0 path id
  unfolding live_of
  was_leads = at.leads

  facts : f.facts ≡ was.entry.facts
  facts = ap (λ (x : Entry). x.facts) same

  held : OwnersHoldTree (live_of new) now letters (changed letters (with_bytes content') path tree)
  held = held_rewritten (live_of old) (live_of new) at.means.who now letters tree at.means.held (live_of mid).entries moved_root path id at.name at.bits content content' was_leads at.at_path was f links
      facts set others moved.stands.root kept has_now

  leads_found : StreamFound letters (live_of new).entries (changed letters (with_bytes content') path tree) path id content'
  leads_found = found_rewritten (live_of old) (live_of new) at.means.who now letters tree at.means.held (live_of mid).entries moved_root path id at.name at.bits content content' was_leads at.at_path was f links
      facts set others moved.stands.root kept has_now

  -- the live file means the tree with the stream's new bytes
  pub stream_placed : IsStreamAt letters new (changed letters (with_bytes content') path tree) path id content'
  unfolding live_of
  stream_placed =
      let it = leads_found in record {
        means = record {
          live = live;
          orderly = subst IsTrue (sym (goes.orderly live)) moved.stands.orderly;
          who = now;
          owners = has_owners [] none mid new moved.now moved.stands goes live changes;
          sizes = subst (λ v. SizesFit v (entries_held (directory_of new))) (sym goes.version) (subst (SizesFit (version_of (allocator_of mid))) (sym p.set) (sizes_set (version_of (allocator_of mid)) (entries_held (directory_of mid)) id f p.fits moved.stands.sizes));
          held = held;
        };
        leads = it.leads;
        name = it.name;
        bits = it.bits;
        at_path = it.at_path;
      }

  -- with no more strays
  pub placed_strays : StaysTidy old new at.means.who stream_placed.means.who
  unfolding stream_placed
  placed_strays =
      strays_then old mid new at.means.who moved.now now moved.strays
      (directory_strays [] none mid new moved.now moved.stands goes live changes (λ strict. subst HaveStrictFacts (sym p.set) (facts_placed (entries_held (directory_of mid)) id p.entry start size p.found strict)))

  new_at : slice_get (entries_held (directory_of new)) id ≡ Some f
  new_at = ap (λ l. slice_get l id) p.set ∙ set_found (entries_held (directory_of mid)) id p.entry f p.found

  stands_new : HasFileInvariant new now
  stands_new = record {
    live = live;
    orderly = subst IsTrue (sym (goes.orderly live)) moved.stands.orderly;
    owners = has_owners [] none mid new moved.now moved.stands goes live changes;
    sizes = subst (λ v. SizesFit v (entries_held (directory_of new))) (sym goes.version) (subst (SizesFit (version_of (allocator_of mid))) (sym p.set) (sizes_set (version_of (allocator_of mid)) (entries_held (directory_of mid)) id f p.fits moved.stands.sizes));
    root = moved.stands.root;
    kept = kept;
  }

  -- it lies in the sectors that it has
  pub placed_links : (links : Links) → moved.now.sectors (stream_owner id) ≡ ids_of links → links_version links ≡ version_of (allocator_of mid) → mini_cutoff ≤ size → AreLinksOf id (Long links) new
  placed_links links mine version up e found =
      let one : f ≡ e = Some_same (sym new_at ∙ found) in
      subst (λ (x : Entry). StreamLiesIn new x.start x.size (ids_of links) × IsOfLevel new x.size (Long links)) one
      (long_links new now stands_new id f content' links has_now up (pick_other moved.now.sectors 0 (directory_ids (directory_of new)) (stream_owner id) (λ is. omega (arith, is)) ∙ mine) (version ∙ sym goes.version))

  -- or in its mini sectors
  pub placed_minis : (links : MiniLinks) → moved.now.minis (stream_owner id) ≡ minis_of links → size < mini_cutoff → AreLinksOf id (Short links) new
  placed_minis links mine below e found =
      let one : f ≡ e = Some_same (sym new_at ∙ found) in
      subst (λ (x : Entry). StreamLiesIn new x.start x.size (minis_of links) × IsOfLevel new x.size (Short links)) one (short_links new now stands_new id f content' links has_now below mine)

module _ {F : Type 0} {g : Ghosts F} (letters : CaseTable) (old new : MiniAllocator F g) (tree : Tree) (path : Path) (id : ℕ) (content content' : List ℕ) (at : IsStreamAt letters old tree path id content)
    (moved : ReplacesStreamChain id old new at.means.who) (has : OwnerHasStream (live_of new) moved.now id (entry_of letters old tree path id content at).entry content') where
  abbrev here : StreamEntry (live_of old) at.means.who at.means.held.ids id at.bits content
  here = entry_of letters old tree path id content at

  root_moved : MovesRoot (live_of old).entries (live_of new).entries
  unfolding live_of
  root_moved = moved.entries

  leads_here : LeadsTo letters (live_of old).entries 0 path id
  unfolding live_of
  leads_here = at.leads

  new_entry : slice_get (live_of new).entries id ≡ Some here.entry
  new_entry = mid_same (live_of old) at.means.who letters tree at.means.held (live_of new).entries root_moved id here.entry (not_zero (live_of old) at.means.who letters tree at.means.held (live_of new).entries root_moved id here.one) here.found

  all_same : (live_of new).entries ≡ slice_set (live_of new).entries id here.entry
  all_same = set_same (live_of new).entries id here.entry new_entry

  held_still : OwnersHoldTree (live_of new) moved.now letters (changed letters (with_bytes content') path tree)
  held_still = held_rewritten (live_of old) (live_of new) at.means.who moved.now letters tree at.means.held (live_of new).entries root_moved path id at.name at.bits content content' leads_here at.at_path here here.entry (own_links here.entry)
      refl all_same moved.carries moved.stands.root moved.stands.kept has

  found_still : StreamFound letters (live_of new).entries (changed letters (with_bytes content') path tree) path id content'
  found_still = found_rewritten (live_of old) (live_of new) at.means.who moved.now letters tree at.means.held (live_of new).entries root_moved path id at.name at.bits content content' leads_here at.at_path here here.entry (own_links here.entry)
      refl all_same moved.carries moved.stands.root moved.stands.kept has

  -- its entry stays
  pub entry_still : slice_get (entries_held (directory_of new)) id ≡ Some (entry_of letters old tree path id content at).entry
  unfolding live_of
  entry_still = new_entry

  -- the live file means the tree with the stream's new bytes, where its entry stays
  pub stream_still : IsStreamAt letters new (changed letters (with_bytes content') path tree) path id content'
  unfolding live_of
  stream_still =
      let it = found_still in record {
        means = record { live = moved.stands.live; orderly = moved.stands.orderly; who = moved.now; owners = moved.stands.owners; sizes = moved.stands.sizes; held = held_still };
        leads = it.leads;
        name = it.name;
        bits = it.bits;
        at_path = it.at_path;
      }

  -- with no more strays
  pub still_strays : StaysTidy old new at.means.who stream_still.means.who
  unfolding stream_still
  still_strays = moved.strays
