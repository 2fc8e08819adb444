-- The copy of a file that means a tree.
use Rattle.std.proofs.Common.{◌≡◌, ℕ, ◌*◌, ◌≤◌, List, length, refl, ap, sym, subst, ◌∙◌, ⊎_elim}
use Rattle.std.specs.List.{IsDistinct}
use Rattle.std.proofs.lemmas.Bool.Decides.{leb_tells}
use Rattle.cfb_medium.specs.Versions.{sector_len, stream_len_mask}
use Rattle.cfb_medium.specs.declared.medium.ReadMedium.{Ghosts}
use Rattle.cfb_sectors.specs.Header.{mini_cutoff, IsHeader}
use Rattle.cfb_directory.specs.Views.{entries_held}
use Rattle.cfb_fat.specs.Tables.{version_of}
use Rattle.cfb_tree_edits.specs.Live.{live_of, LiveFileMeansTree}
use Rattle.cfb_spec.specs.Means.{IsStrictlyOpenable}
use Rattle.cfb_mini.specs.Views.{allocator_of, directory_of, mini_fat_ids, mini_stream_ids}
use Rattle.cfb_mini.specs.declared.mini_allocator.MiniAllocator.{MiniAllocator}
use Rattle.cfb_ownership.specs.Held.{OwnerHasStream}
use Rattle.cfb_ownership.specs.Owners.{first_of, mini_fat_owner, mini_stream_owner}
use Rattle.cfb_ownership.proofs.HoldsById.{holds_so}
use Rattle.cfb_soundness.specs.Entries.{AreTreeEntries}
use Rattle.cfb_tree.specs.Directory.{Entry}
use Rattle.cfb_tree.specs.Names.{CaseTable}
use Rattle.cfb_tree.specs.Tree.{Tree}
use Rattle.cfb_tree.specs.Entries.{HasSize}
use Rattle.cfb_copying.specs.Copied.{HasRootName, HoldsCopy}
use Rattle.cfb_copying.specs.Steps.{HasCopy, IsOriginal}
use Rattle.cfb_copying.proofs.CopiedStrict.{copy_repaired, copy_strict}
use Rattle.cfb_copying.proofs.CopiedTight.{copy_tight}

module _ {F : Type 0} {g : Ghosts F} (mini : MiniAllocator F g) (letters : CaseTable) (tree : Tree) (m : LiveFileMeansTree letters mini tree) where
  has_size : (id : ℕ) (e : Entry) (bytes : List ℕ) → OwnerHasStream (live_of mini) m.who id e bytes → HasSize e bytes
  has_size id e bytes has = ⊎_elim (λ long. (has.long long.1).1.whole) (λ short. (has.short short.1).1.whole) (leb_tells mini_cutoff e.size)

  -- the entries of the tree are those that were listed
  listed : (ids : List ℕ) → AreTreeEntries (entries_held (directory_of mini)) ids → ids ≡ m.held.ids
  unfolding live_of IsDistinct
  listed ids all =
      all m.held.root m.held.children m.held.ids tree.content m.held.kept.root_found m.held.siblings (holds_so (live_of mini).entries (OwnerHasStream (live_of mini) m.who) HasSize has_size tree.content m.held.children m.held.ids m.held.holds) m.held.once.1

  pub original : (ids : List ℕ) → AreTreeEntries (entries_held (directory_of mini)) ids → IsOriginal (allocator_of mini) (live_of mini) m.who ids
  unfolding live_of
  original ids all = record {
    letters = letters;
    tree = tree;
    held = m.held;
    all = listed ids all;
    sizes = m.sizes;
    honest = m.owners.honest;
    version = refl;
    bytes = refl;
    fat = refl;
  }

  pub held_entries : (live_of mini).entries ≡ entries_held (directory_of mini)
  unfolding live_of
  held_entries = refl

  pub mini_fat_first : first_of (mini_fat_ids mini) ≡ first_of (m.who.sectors mini_fat_owner)
  mini_fat_first = ap first_of (sym m.owners.mini_fat)

  pub size_fits : (size : ℕ) → size ≤ stream_len_mask (version_of (allocator_of mini)) → size ≤ stream_len_mask (live_of mini).version
  unfolding live_of
  size_fits size small = small

  -- the bytes of the mini stream's sectors
  abbrev pub room : ℕ
  room = length (mini_stream_ids mini) * sector_len (version_of (allocator_of mini))

  same_room : length (m.who.sectors mini_stream_owner) * sector_len (live_of mini).version ≡ room
  unfolding live_of
  same_room = ap (λ l. length l * sector_len (version_of (allocator_of mini))) m.owners.mini_stream

  module _ (ids bytes : List ℕ) (size : ℕ) (all : AreTreeEntries (entries_held (directory_of mini)) ids) (has : HasCopy (live_of mini) m.who ids size bytes) where
    of_tree : HasCopy (live_of mini) m.who m.held.ids size bytes
    of_tree = subst (λ l. HasCopy (live_of mini) m.who l size bytes) (listed ids all) has

    pub copy_holds : (room ≤ stream_len_mask (version_of (allocator_of mini)) → size ≡ room) → HoldsCopy (version_of (allocator_of mini)) letters bytes tree
    unfolding live_of
    copy_holds sized =
        let s = live_of mini in
        let it = of_tree in
        let v = version_of (allocator_of mini) in
        subst (λ l. HoldsCopy v letters l tree) it.bytes_are (record {
          header = subst (λ v. IsHeader v it.file.bytes) it.copied.version it.copied.header;
          tight = copy_tight s it.file m.who it.own letters tree m.held it.copied;
          repaired = copy_repaired s it.file m.who it.own letters tree m.held it.copied
              (λ small. it.sized ∙ sized (subst (λ n. n ≤ stream_len_mask v) same_room small) ∙ sym same_room);
        })

    pub copy_taken : HasRootName (entries_held (directory_of mini)) → IsStrictlyOpenable letters bytes
    unfolding live_of
    copy_taken named =
        let it = of_tree in
        subst (IsStrictlyOpenable letters) it.bytes_are (copy_strict (live_of mini) it.file m.who it.own letters tree m.held it.copied it.counted named)
