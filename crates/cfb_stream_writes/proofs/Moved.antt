-- A stream that moved, told from before it was read.
use Rattle.std.proofs.Common.{◌≡◌, ℕ, ◌*◌, ◌≤◌, List, length, ap, sym, subst, ◌∙◌}
use Rattle.std.specs.Prelude.{slice_get}
use Rattle.cfb_chains.specs.LinkViews.{links_version}
use Rattle.cfb_fat.specs.OnlyReads.{all_rest_then}
use Rattle.cfb_tree_edits.specs.Orphans.{StaysTidy}
use Rattle.cfb_medium.specs.declared.medium.ReadMedium.{Ghosts}
use Rattle.cfb_medium.specs.Versions.{sector_len}
use Rattle.cfb_mini.specs.Changing.{HasUniqueOwners, KeepsOwnership}
use Rattle.cfb_mini.specs.Minis.{AreInside}
use Rattle.cfb_mini.specs.Views.{allocator_of, mini_stream_ids, mini_stream_len}
use Rattle.cfb_mini.specs.declared.mini_allocator.MiniAllocator.{MiniAllocator}
use Rattle.cfb_ownership.specs.Owners.{Owners}
use Rattle.cfb_sectors.specs.Sectors.{Chain}
use Rattle.cfb_stream_reads.specs.Streams.{sectors_in, IsOfLevel}
use Rattle.cfb_stream_reads.specs.declared.opening.StreamLinks.{StreamLinks}
use Rattle.cfb_stream_reads.specs.declared.opening.StreamLinks.TheVariants.{Long, Short}
use Rattle.cfb_tree.specs.Changes.{changed, with_bytes}
use Rattle.cfb_tree.specs.Names.{CaseTable}
use Rattle.cfb_tree.specs.Paths.{Path}
use Rattle.cfb_tree.specs.Tree.{Tree}
use Rattle.cfb_stream_writes.specs.Streams.{AreLinksOf, IsStreamAt}

module _ {F : Type 0} {g : Ghosts F} where
  pub kept_rests : (a b c : MiniAllocator F g) → KeepsOwnership a b → KeepsOwnership b c → KeepsOwnership a c
  kept_rests a b c h k = record {
    allocator = all_rest_then (allocator_of a) (allocator_of b) (allocator_of c) h.allocator k.allocator;
    entries = k.entries ∙ h.entries;
    mini_fat = k.mini_fat ∙ h.mini_fat;
    owners = λ own is. k.owners own (h.owners own is);
  }

  -- it has bytes that are the same as these
  pub moved_as : (letters : CaseTable) (old new : MiniAllocator F g) (who : Owners) (tree : Tree) (path : Path) (id : ℕ) (home : StreamLinks) (bytes later : List ℕ) → bytes ≡ later
      → (then : IsStreamAt letters new (changed letters (with_bytes bytes) path tree) path id bytes) × AreLinksOf id home new × StaysTidy old new who then.means.who
      → (then : IsStreamAt letters new (changed letters (with_bytes later) path tree) path id later) × AreLinksOf id home new × StaysTidy old new who then.means.who
  moved_as letters old new who tree path id home bytes later same at =
      subst (λ l. (then : IsStreamAt letters new (changed letters (with_bytes l) path tree) path id l) × AreLinksOf id home new × StaysTidy old new who then.means.who) same at

  -- the mini stream is as long as it was
  stream_len_kept : (old new : MiniAllocator F g) (k : KeepsOwnership old new) (own : ℕ → List ℕ) → HasUniqueOwners old own → mini_stream_len new ≡ mini_stream_len old
  stream_len_kept old new k own h =
      let now = k.owners own h in
      let ids : mini_stream_ids new ≡ mini_stream_ids old = sym now.mini_stream ∙ h.mini_stream in
      let version = now.memory.over.stream_version ∙ k.allocator.sectors.version ∙ sym h.memory.over.stream_version in
      ap (λ v. length (mini_stream_ids new) * sector_len v) version ∙ ap (λ l. length l * sector_len (links_version old.mini_fat.stream)) ids

  -- each owner has what it had, so the stream lies where it did
  pub links_kept : (old new : MiniAllocator F g) (k : KeepsOwnership old new) (own : ℕ → List ℕ) → HasUniqueOwners old own → (id : ℕ) (links : StreamLinks) → AreLinksOf id links old → AreLinksOf id links new
  links_kept old new k own h id links are e found =
      let was = are e (ap (λ es. slice_get es id) (sym k.entries) ∙ found) in
      let version = k.allocator.sectors.version in
      let len = stream_len_kept old new k own h in (
        record {
          short = λ below.
              let at = was.0.short below in (
                subst (λ t. Chain t e.start (sectors_in links)) (sym k.mini_fat) at.0,
                subst (λ n. AreInside n (sectors_in links)) (sym len) at.1,
                at.2,
              );
          long = λ up.
              let at = was.0.long up in (
                subst (λ t. Chain t e.start (sectors_in links)) (sym k.allocator.fat) at.0,
                subst (λ v. e.size ≤ length (sectors_in links) * sector_len v) (sym version) at.1,
              );
        },
        by_level links was.1,
      )
    where
      by_level : (links : StreamLinks) → IsOfLevel old e.size links → IsOfLevel new e.size links
      by_level (Short minis) below = below
      by_level (Long ids) level = (level.0, level.1 ∙ sym k.allocator.sectors.version)
