-- Memory that is that of the bytes, as owners see it.
use Rattle.std.proofs.Common.{◌≡◌, ℕ, ◌+◌, ◌*◌, ◌≤◌, false, [], length, sym, ◌∙◌, ap, IsTrue}
use Rattle.std.specs.Prelude.{slice_get, Some}
use Rattle.std.specs.List.{AllByRecursion}
use Rattle.cfb_medium.specs.Versions.{sector_len}
use Rattle.cfb_medium.specs.declared.medium.ReadMedium.{Ghosts}
use Rattle.cfb_sectors.specs.Header.{first_directory_sector, first_mini_fat_sector, IsHeader}
use Rattle.cfb_sectors.specs.Sectors.{fat_in, joined}
use Rattle.cfb_chains.specs.Owned.{OwnDisjointChains}
use Rattle.cfb_fat.specs.Tables.{bytes_of, has_failed_here, orderly_of, version_of}
use Rattle.cfb_tree.specs.Directory.{entries_of, kind_root, Entry}
use Rattle.cfb_directory.specs.Views.{entries_held}
use Rattle.cfb_mini.specs.Changing.{HasUniqueOwners}
use Rattle.cfb_mini.specs.Views.{allocator_of, directory_of, mini_fat_of}
use Rattle.cfb_mini.specs.declared.mini_allocator.MiniAllocator.{MiniAllocator}
use Rattle.cfb_ownership.specs.LiveInvariant.{LiveFileInvariant}
use Rattle.cfb_ownership.specs.LiveFile.{HoldsTables}
use Rattle.cfb_ownership.specs.Owners.{directory_owner, first_of, mini_fat_owner, mini_stream_owner, Owners}
use Rattle.cfb_tree_edits.specs.Live.{live_of}

module _ {F : Type 0} {g : Ghosts F} (it : MiniAllocator F g) (who : Owners) (live : has_failed_here (allocator_of it) ≡ false) (orderly : IsTrue (orderly_of (allocator_of it))) (h : HasUniqueOwners it who.sectors) where
  tables_now : HoldsTables (live_of it)
  unfolding live_of
  tables_now =
      let a = allocator_of it in record {
        counted = a.sectors.counted live h.honest;
        same = a.same live h.honest;
        there = a.there live;
        orderly = a.orderly orderly;
        listed = ((a.listed live h.honest).0 orderly).1;
      }

  pub kept_now : (root : Entry) → IsHeader (version_of (allocator_of it)) (bytes_of (allocator_of it)) → first_directory_sector (bytes_of (allocator_of it)) ≡ first_of (who.sectors directory_owner)
      → first_mini_fat_sector (bytes_of (allocator_of it)) ≡ first_of (who.sectors mini_fat_owner) → slice_get (entries_held (directory_of it)) 0 ≡ Some root → root.kind ≡ kind_root
      → OwnDisjointChains (mini_fat_of it) [] who.minis → ((k : ℕ) → AllByRecursion (λ n. 64 * n + 64 ≤ length (who.sectors mini_stream_owner) * sector_len (version_of (allocator_of it))) (who.minis k))
      → ((k : ℕ) → k ≤ mini_stream_owner → who.minis k ≡ []) → LiveFileInvariant (live_of it) who root
  unfolding live_of
  kept_now root header first mini_first found kind minis there fixed =
      let a = allocator_of it in
      let v = version_of a in record {
        header = header;
        tables = tables_now;
        owned = h.owned;
        directory_at = first;
        entries = h.memory.directory.entries live h.honest ∙ ap (λ l. entries_of v (joined v (bytes_of a) l)) (sym h.directory);
        mini_fat_at = mini_first;
        mini_fat = h.memory.over.numbers live h.honest ∙ ap (fat_in v (bytes_of a)) (sym h.mini_fat);
        root_found = found;
        root_kind = kind;
        mini_stream_at = h.memory.stream_at root found ∙ ap first_of (sym h.mini_stream);
        minis_owned = minis;
        minis_there = there;
        minis_of_streams = fixed;
      }
