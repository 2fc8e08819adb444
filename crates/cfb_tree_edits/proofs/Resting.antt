-- A live file to which only reads happened.
use Rattle.std.proofs.Common.{◌≡◌, ℕ, List, refl, sym, subst, ◌∙◌, IsTrue}
use Rattle.cfb_medium.specs.declared.medium.ReadMedium.{Ghosts}
use Rattle.cfb_medium.specs.declared.version.Version.{Version}
use Rattle.cfb_directory.specs.Entries.{SizesFit}
use Rattle.cfb_directory.specs.Views.{entries_held}
use Rattle.cfb_fat.specs.OnlyReads.{all_rest_refl}
use Rattle.cfb_chains.specs.Owned.{OwnDisjointChains}
use Rattle.cfb_fat.specs.Keeping.{tables_same}
use Rattle.cfb_fat.specs.Tables.{fat_of, is_honest, tables_of, version_of}
use Rattle.cfb_tree.specs.Directory.{Entry}
use Rattle.cfb_tree.specs.Names.{CaseTable}
use Rattle.cfb_tree.specs.Tree.{Tree}
use Rattle.cfb_mini.specs.Changing.{KeepsOwnership}
use Rattle.cfb_mini.specs.Views.{allocator_of, directory_of, OnlyReadsMini}
use Rattle.cfb_mini.specs.declared.mini_allocator.MiniAllocator.{MiniAllocator}
use Rattle.cfb_ownership.specs.Held.{OwnersHoldTree}
use Rattle.cfb_ownership.specs.LiveFile.{LiveFile}
use Rattle.cfb_tree_edits.specs.Live.{live_of, LiveFileMeansTree}

abbrev file_of : Version → List ℕ → ℕ → List ℕ → List ℕ → List ℕ → List ℕ → List Entry → LiveFile
file_of version bytes count fat fat_sectors difat_sectors mini_fat entries = record {
  version = version;
  bytes = bytes;
  count = count;
  fat = fat;
  fat_sectors = fat_sectors;
  difat_sectors = difat_sectors;
  mini_fat = mini_fat;
  entries = entries;
}

module _ {F : Type 0} {g : Ghosts F} (old new : MiniAllocator F g) (k : KeepsOwnership old new) where
  same_file : IsTrue (is_honest (allocator_of old)) → live_of new ≡ live_of old
  unfolding live_of
  same_file honest =
      let version = k.allocator.sectors.version in
      let bytes = k.allocator.sectors.bytes honest in
      let count = k.allocator.sectors.count in
      let fat = k.allocator.fat in
      let fat_sectors = k.allocator.fat_sectors in
      let difat_sectors = k.allocator.difat_sectors in
      let mini_fat = k.mini_fat in
      let entries = k.entries in
      cc

  pub means_stays : (letters : CaseTable) (tree : Tree) → LiveFileMeansTree letters old tree → LiveFileMeansTree letters new tree
  means_stays letters tree m = record {
    live = k.allocator.sectors.failed ∙ m.live;
    orderly = subst IsTrue (sym k.allocator.orderly) m.orderly;
    who = m.who;
    owners = k.owners m.who.sectors m.owners;
    sizes = subst (λ v. SizesFit v (entries_held (directory_of new))) (sym k.allocator.sectors.version) (subst (SizesFit (version_of (allocator_of old))) (sym k.entries) m.sizes);
    held = subst (λ s. OwnersHoldTree s m.who letters tree) (sym (same_file m.owners.honest)) m.held;
  }

  -- with the same owners
  pub stays_owned : (letters : CaseTable) (tree : Tree) (m : LiveFileMeansTree letters old tree) → (means_stays letters tree m).who ≡ m.who
  unfolding means_stays
  stays_owned letters tree m = refl

module _ {F : Type 0} {g : Ghosts F} where
  pub keeps_refl : (it : MiniAllocator F g) → KeepsOwnership it it
  keeps_refl it = record { allocator = all_rest_refl (allocator_of it); entries = refl; mini_fat = refl; owners = λ own h. h }

  -- only reads happened: each owner has what it had
  pub keeps_rests : (old new : MiniAllocator F g) → OnlyReadsMini old new → KeepsOwnership old new
  keeps_rests old new r =
      let rests = r.directory.allocator in
      let a = allocator_of old in
      let b = allocator_of new in record {
        allocator = rests;
        entries = r.directory.entries;
        mini_fat = r.mini_fat;
        owners = λ own h. record {
          honest = subst IsTrue (sym rests.sectors.honest) h.honest;
          memory = r.kept h.memory;
          owned = subst (λ t. OwnDisjointChains t (tables_of b) own) (sym rests.fat) (subst (λ t. OwnDisjointChains (fat_of a) t own) (sym (tables_same a b rests.difat_sectors rests.fat_sectors)) h.owned);
          directory = h.directory ∙ sym r.directory.ids;
          mini_fat = h.mini_fat ∙ sym r.mini_fat_ids;
          mini_stream = h.mini_stream ∙ sym r.mini_stream_ids;
        };
      }
