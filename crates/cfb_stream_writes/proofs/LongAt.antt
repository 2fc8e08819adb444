-- A long stream that is opened, in a live file.
use Rattle.std.proofs.Common.{◌≡◌, ℕ, ◌*◌, ◌≤◌, List, [], length, sym, subst}
use Rattle.cfb_chains.specs.LinkViews.{ids_of, links_version}
use Rattle.cfb_chains.specs.declared.links.Links.{Links}
use Rattle.cfb_fat.specs.Tables.{version_of}
use Rattle.cfb_tree_edits.specs.Live.{live_of}
use Rattle.cfb_tree_edits.proofs.Standing.{stands_of}
use Rattle.cfb_medium.specs.Versions.{sector_len}
use Rattle.cfb_medium.specs.declared.medium.ReadMedium.{Ghosts}
use Rattle.cfb_mini.specs.Views.{allocator_of}
use Rattle.cfb_mini.specs.declared.mini_allocator.MiniAllocator.{MiniAllocator}
use Rattle.cfb_chain_io.specs.ChainEffects.{len_of}
use Rattle.cfb_ownership.specs.Owners.{stream_owner}
use Rattle.cfb_sectors.specs.Header.{mini_cutoff}
use Rattle.cfb_stream_reads.specs.Streams.{IsOfLevel, StreamLiesIn}
use Rattle.cfb_stream_reads.specs.declared.opening.StreamLinks.TheVariants.{Long}
use Rattle.cfb_tree.specs.Names.{CaseTable}
use Rattle.cfb_tree.specs.Paths.{Path}
use Rattle.cfb_tree.specs.Tree.{Tree}
use Rattle.cfb_stream_writes.specs.Streams.{AreLinksOf, IsStreamAt}
use Rattle.cfb_stream_writes.proofs.LongLinks.{owns_links}
use Rattle.cfb_stream_writes.proofs.Placed.{entry_of, found_at}

module _ {F : Type 0} {g : Ghosts F} (letters : CaseTable) (it : MiniAllocator F g) (tree : Tree) (path : Path) (id : ℕ) (content : List ℕ) (at : IsStreamAt letters it tree path id content) (links : Links) (are : AreLinksOf id (Long links) it) where
  lies_so : StreamLiesIn it (entry_of letters it tree path id content at).entry.start (entry_of letters it tree path id content at).entry.size (ids_of links) × IsOfLevel it (entry_of letters it tree path id content at).entry.size (Long links)
  lies_so = are (entry_of letters it tree path id content at).entry (found_at letters it tree path id content at)

  pub long_up : mini_cutoff ≤ (entry_of letters it tree path id content at).entry.size
  long_up = lies_so.1.0

  pub long_version : links_version links ≡ version_of (allocator_of it)
  long_version = lies_so.1.1

  pub long_owned : at.means.who.sectors (stream_owner id) ≡ ids_of links
  long_owned =
      let was = entry_of letters it tree path id content at in
      owns_links it at.means.who (stands_of letters it tree at.means) id was.entry content links was.has lies_so

  pub long_room : (entry_of letters it tree path id content at).entry.size ≤ len_of links
  long_room =
      let was = entry_of letters it tree path id content at in
      subst (λ v. was.entry.size ≤ length (ids_of links) * sector_len v) (sym long_version) (lies_so.0.long long_up).1

  pub long_size : length content ≡ (entry_of letters it tree path id content at).entry.size
  long_size =
      let was = entry_of letters it tree path id content at in (was.has.long long_up).1.whole

  -- it has no mini sectors
  pub long_without : at.means.who.minis (stream_owner id) ≡ []
  unfolding live_of
  long_without = let was = entry_of letters it tree path id content at in (was.has.long long_up).0
