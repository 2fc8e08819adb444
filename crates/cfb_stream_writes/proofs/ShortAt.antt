-- A short stream that is opened, in a live file, and one of either level.
use Rattle.std.proofs.Common.{◌≡◌, ℕ, ◌*◌, ◌<◌, ◌≤◌, List, length, take, refl, ap, sym, subst, ◌∙◌, ⊎_elim}
use Rattle.std.proofs.lemmas.Bool.Decides.{leb_tells}
use Rattle.cfb_chains.specs.Grown.{IsChainInTable}
use Rattle.cfb_fat.specs.Tables.{bytes_of, fat_of, version_of}
use Rattle.cfb_tree_edits.specs.Live.{live_of}
use Rattle.cfb_tree_edits.specs.Orphans.{StaysTidy}
use Rattle.cfb_tree_edits.proofs.Resting.{means_stays, stays_owned}
use Rattle.cfb_tree_edits.proofs.Standing.{stands_of}
use Rattle.cfb_tree_edits.proofs.Strays.{strays_kept, strays_then}
use Rattle.cfb_medium.specs.declared.medium.ReadMedium.{Ghosts}
use Rattle.cfb_mini.specs.Changing.{KeepsOwnership}
use Rattle.cfb_mini.specs.LinkViews.{minis_of}
use Rattle.cfb_mini.specs.Minis.{mini_joined}
use Rattle.cfb_mini.specs.Views.{allocator_of, mini_stream_of}
use Rattle.cfb_mini.specs.declared.links.MiniLinks.{MiniLinks}
use Rattle.cfb_mini.specs.declared.mini_allocator.MiniAllocator.{MiniAllocator}
use Rattle.cfb_ownership.specs.Owners.{stream_owner, Owners}
use Rattle.cfb_sectors.specs.Header.{mini_cutoff}
use Rattle.cfb_sectors.specs.Sectors.{joined}
use Rattle.cfb_siblings.specs.Places.{LeadsTo}
use Rattle.cfb_stream_reads.specs.Content.{SectorsHaveContent}
use Rattle.cfb_stream_reads.specs.Streams.{IsOfLevel, StreamLiesIn}
use Rattle.cfb_stream_reads.specs.declared.opening.StreamLinks.{StreamLinks}
use Rattle.cfb_stream_reads.specs.declared.opening.StreamLinks.TheVariants.{Long, Short}
use Rattle.cfb_tree.specs.Names.{CaseTable}
use Rattle.cfb_tree.specs.Paths.{Path}
use Rattle.cfb_tree.specs.Tree.{Tree}
use Rattle.cfb_stream_writes.specs.Streams.{AreAlike, AreLinksOf, IsShortStream, IsStreamAt}
use Rattle.cfb_stream_writes.proofs.LongAt.{long_owned, long_room, long_up, long_version}
use Rattle.cfb_stream_writes.proofs.Placed.{entry_of, found_at}
use Rattle.cfb_stream_writes.proofs.ShortLinks.{owns_minis}
use Rattle.cfb_stream_writes.proofs.ShortStreams.{held_is}

module _ {F : Type 0} {g : Ghosts F} (letters : CaseTable) (it : MiniAllocator F g) (tree : Tree) (path : Path) (id : ℕ) (content : List ℕ) (at : IsStreamAt letters it tree path id content) (links : MiniLinks) (are : AreLinksOf id (Short links) it) where
  lies_so : StreamLiesIn it (entry_of letters it tree path id content at).entry.start (entry_of letters it tree path id content at).entry.size (minis_of links) × IsOfLevel it (entry_of letters it tree path id content at).entry.size (Short links)
  lies_so = are (entry_of letters it tree path id content at).entry (found_at letters it tree path id content at)

  pub short_below : (entry_of letters it tree path id content at).entry.size < mini_cutoff
  short_below = lies_so.1

  pub short_owned : at.means.who.minis (stream_owner id) ≡ minis_of links
  short_owned =
      let was = entry_of letters it tree path id content at in
      owns_minis it at.means.who (stands_of letters it tree at.means) id was.entry content links was.has lies_so

  pub short_room : (entry_of letters it tree path id content at).entry.size ≤ 64 * length (minis_of links)
  short_room = (lies_so.0.short short_below).2

  pub short_size : length content ≡ (entry_of letters it tree path id content at).entry.size
  short_size =
      let was = entry_of letters it tree path id content at in (was.has.short short_below).1.whole

pub alike_refl : (links : StreamLinks) → AreAlike links links
alike_refl (Short minis) = refl
alike_refl (Long links) = (refl, refl)

module _ {F : Type 0} {g : Ghosts F} where
  -- a stream that lies in mini sectors is short
  pub short_size_below : (it : MiniAllocator F g) (size : ℕ) (links : StreamLinks) → IsShortStream links → IsOfLevel it size links → size < mini_cutoff
  short_size_below it size (Short minis) is level = level
  short_size_below it size (Long links) is level = absurd is

  -- it has as many bytes as its entry tells
  pub size_there : (letters : CaseTable) (it : MiniAllocator F g) (tree : Tree) (path : Path) (id : ℕ) (content : List ℕ) (at : IsStreamAt letters it tree path id content) → length content ≡ (entry_of letters it tree path id content at).entry.size
  size_there letters it tree path id content at =
      let was = entry_of letters it tree path id content at in
      ⊎_elim (λ up. (was.has.long up.1).1.whole) (λ below. (was.has.short below.1).1.whole) (leb_tells mini_cutoff was.entry.size)

  -- it is there where nothing is changed
  pub stream_kept : (letters : CaseTable) (old new : MiniAllocator F g) (tree : Tree) (path : Path) (id : ℕ) (content : List ℕ) → KeepsOwnership old new → IsStreamAt letters old tree path id content → IsStreamAt letters new tree path id content
  stream_kept letters old new tree path id content k at = record {
    means = means_stays old new k letters tree at.means;
    leads = subst (λ l. LeadsTo letters l 0 path id) (sym k.entries) at.leads;
    name = at.name;
    bits = at.bits;
    at_path = at.at_path;
  }

  -- strays told from before reads
  pub kept_strays : (letters : CaseTable) (old mid new : MiniAllocator F g) (tree : Tree) (path : Path) (id : ℕ) (content : List ℕ) (k : KeepsOwnership old mid) (at : IsStreamAt letters old tree path id content) (now : Owners)
      → StaysTidy mid new (stream_kept letters old mid tree path id content k at).means.who now → StaysTidy old new at.means.who now
  unfolding stream_kept
  kept_strays letters old mid new tree path id content k at now strays =
      strays_then old mid new at.means.who at.means.who now (strays_kept old mid at.means.who at.means.owners k) (subst (λ w. StaysTidy mid new w now) (stays_owned old mid k letters tree at.means) strays)

  -- the first bytes of its sectors are its bytes
  pub content_there : (letters : CaseTable) (it : MiniAllocator F g) (tree : Tree) (path : Path) (id : ℕ) (content : List ℕ) (at : IsStreamAt letters it tree path id content) (links : StreamLinks) → AreLinksOf id links it
      → SectorsHaveContent it links (entry_of letters it tree path id content at).entry.size content
  unfolding live_of
  content_there letters it tree path id content at (Short minis) are =
      let was = entry_of letters it tree path id content at in
      let who = at.means.who in
      let m = stands_of letters it tree at.means in
      let lies = are was.entry (found_at letters it tree path id content at) in
      let below = short_below letters it tree path id content at minis are in
      record {
        honest = at.means.owners.honest;
        sectors = (at.means.owners.memory, (lies.0.short below).1);
        room = short_room letters it tree path id content at minis are;
        bytes = (was.has.short below).1.content_is ∙ ap (take was.entry.size) (held_is it who m (stream_owner id) ∙ ap (mini_joined (mini_stream_of it)) (short_owned letters it tree path id content at minis are));
      }
  content_there letters it tree path id content at (Long links) are =
      let was = entry_of letters it tree path id content at in
      let who = at.means.who in
      let m = stands_of letters it tree at.means in
      let up = long_up letters it tree path id content at links are in
      let owned = long_owned letters it tree path id content at links are in
      record {
        honest = at.means.owners.honest;
        sectors = record { honest = at.means.owners.honest; version = long_version letters it tree path id content at links are; linked = subst (IsChainInTable (fat_of (allocator_of it))) owned (at.means.owners.owned.linked (stream_owner id)) };
        room = long_room letters it tree path id content at links are;
        bytes = (was.has.long up).1.content_is ∙ ap (λ l. take was.entry.size (joined (version_of (allocator_of it)) (bytes_of (allocator_of it)) l)) owned;
      }
