-- A file whose bytes were published means what it meant.
use Rattle.std.proofs.Common.{◌≡◌, ◌⊎◌, inl, inr, ℕ, ◌++◌, List, false, ap, sym, subst, ◌∙◌, ⊎_elim, IsTrue}
use Rattle.std.specs.Prelude.{slice_get, Some, Result, Ok, Err, OnOk}
use Rattle.cfb_medium.specs.Crashes.{CrashLeavesOnly}
use Rattle.cfb_medium.specs.declared.medium.ReadMedium.{Ghosts}
use Rattle.cfb_chains.specs.Owned.{OwnDisjointChains}
use Rattle.cfb_directory.specs.Entries.{SizesFit}
use Rattle.cfb_directory.specs.Views.{entries_held}
use Rattle.cfb_fat.specs.Tables.{bytes_of, fat_of, fat_sectors_of, difat_sectors_of, has_failed_here, is_honest, medium_of, tables_of, version_of}
use Rattle.cfb_tree_edits.specs.Live.{live_of}
use Rattle.cfb_tree_edits.specs.Live as live
use Rattle.cfb_spec.specs.Means.{HasBytes, Layout, BytesMeanTreeBy}
use Rattle.cfb_mini.specs.Changing.{HasUniqueOwners}
use Rattle.cfb_mini.specs.Views.{allocator_of, directory_of, MiniKeepsMemory}
use Rattle.cfb_mini.specs.declared.mini_allocator.MiniAllocator.{MiniAllocator}
use Rattle.cfb_opening.specs.Opened as opening
use Rattle.cfb_ownership.specs.Held.{OwnersHoldTree}
use Rattle.cfb_tree.specs.Names.{CaseTable}
use Rattle.cfb_tree.specs.Objects.{EntriesHoldTree}
use Rattle.cfb_tree.specs.Tree.{Tree}
use Rattle.cfb_tree.specs.Entries.{HasSize}
use Rattle.cfb.specs.FollowedRules.{FileMeansTree}
use Rattle.cfb.specs.Publishing.{Publishes}
use Rattle.cfb.specs.Streams.{FileHoldsTree}
use Rattle.cfb.specs.Views.{file_case_table, mini_of, sound_of, FileShowsTree, HoldsLinks}
use Rattle.cfb.specs.declared.compound_file.CompoundFile.{CompoundFile}

-- of the layer below, with its memory and bytes as they were
module _ {F : Type 0} {g : Ghosts F} (old new : MiniAllocator F g) (k : MiniKeepsMemory old new)
    (same : IsTrue (is_honest (allocator_of old)) → bytes_of (allocator_of new) ≡ bytes_of (allocator_of old)) where
  same_file : IsTrue (is_honest (allocator_of old)) → live_of new ≡ live_of old
  unfolding live_of
  same_file honest =
      let t = k.directory.tables in
      let version = t.version in
      let bytes = same honest in
      let count = t.count in
      let fat = t.fat in
      let fat_sectors = t.fat_sectors in
      let difat_sectors = t.difat_sectors in
      let mini_fat = k.mini_fat in
      let entries = k.directory.entries in
      cc

  owners_yet : (own : ℕ → List ℕ) → HasUniqueOwners old own → HasUniqueOwners new own
  owners_yet own h =
      let a = allocator_of old in
      let b = allocator_of new in
      let t = k.directory.tables in record {
        honest = subst IsTrue (sym k.directory.honest) h.honest;
        memory = k.kept h.memory;
        owned = subst (λ f. OwnDisjointChains f (tables_of b) own) (sym t.fat)
            (subst (λ l. OwnDisjointChains (fat_of a) l own) (ap (λ l. l ++ fat_sectors_of a) (sym t.difat_sectors) ∙ ap (λ l. difat_sectors_of b ++ l) (sym t.fat_sectors)) h.owned);
        directory = h.directory ∙ sym k.directory.ids;
        mini_fat = h.mini_fat ∙ sym k.mini_fat_ids;
        mini_stream = h.mini_stream ∙ sym k.mini_stream_ids;
      }

  means_below : has_failed_here (allocator_of new) ≡ false → (letters : CaseTable) (tree : Tree) → live.LiveFileMeansTree letters old tree → live.LiveFileMeansTree letters new tree
  means_below alive letters tree m =
      let t = k.directory.tables in record {
        live = alive;
        orderly = subst IsTrue (sym t.orderly) m.orderly;
        who = m.who;
        owners = owners_yet m.who.sectors m.owners;
        sizes = subst (λ v. SizesFit v (entries_held (directory_of new))) (sym t.version) (subst (SizesFit (version_of (allocator_of old))) (sym k.directory.entries) m.sizes);
        held = subst (λ s. OwnersHoldTree s m.who letters tree) (sym (same_file m.owners.honest)) m.held;
      }

  shows_below : (bytes : List ℕ) (l : Layout) → opening.MemoryShows old bytes l → opening.MemoryShows new bytes l
  shows_below bytes l s =
      let t = k.directory.tables in
      record {
        version = t.version ∙ s.version;
        difat_sectors = t.difat_sectors ∙ s.difat_sectors;
        fat_sectors = t.fat_sectors ∙ s.fat_sectors;
        directory_sectors = k.directory.ids ∙ s.directory_sectors;
        mini_fat_sectors = k.mini_fat_ids ∙ s.mini_fat_sectors;
        mini_stream_sectors = k.mini_stream_ids ∙ s.mini_stream_sectors;
        root = subst (λ es. slice_get es 0 ≡ Some l.root) (sym k.directory.entries) s.root;
        fat = t.fat ∙ s.fat;
        mini_fat = k.mini_fat ∙ s.mini_fat;
        entries = k.directory.entries ∙ s.entries;
      }

module _ {F : Type 0} {g : Ghosts F} (old new : CompoundFile F g) (k : MiniKeepsMemory (mini_of old) (mini_of new))
    (same : IsTrue (is_honest (allocator_of (mini_of old))) → bytes_of (allocator_of (mini_of new)) ≡ bytes_of (allocator_of (mini_of old)))
    (letters : file_case_table new ≡ file_case_table old) where
  pub means_published : sound_of new ≡ sound_of old → HoldsLinks new → has_failed_here (allocator_of (mini_of new)) ≡ false → (tree : Tree) → FileMeansTree old tree → FileMeansTree new tree
  means_published sound held alive tree m = record {
    sound = sound ∙ m.sound;
    live = subst (λ l. live.LiveFileMeansTree l (mini_of new) tree) (sym letters) (means_below (mini_of old) (mini_of new) k same alive (file_case_table old) tree m.live);
    held = held;
  }

  pub holds_published : has_failed_here (allocator_of (mini_of new)) ≡ false → (tree : Tree) → FileHoldsTree old tree → FileHoldsTree new tree
  holds_published alive tree h =
      let bytes = sym (same h.honest) in
      record {
        live = alive;
        honest = subst IsTrue (sym k.directory.honest) h.honest;
        memory = k.kept h.memory;
        layout = h.layout;
        shows = subst (λ b. opening.MemoryShows (mini_of new) b h.layout) bytes (shows_below (mini_of old) (mini_of new) k same _ h.layout h.shows);
        means = subst (λ n. BytesMeanTreeBy h.layout (HasBytes (bytes_of (allocator_of (mini_of new))) h.layout) n (bytes_of (allocator_of (mini_of new))) tree) (sym letters)
            (subst (λ b. BytesMeanTreeBy h.layout (HasBytes b h.layout) (file_case_table old) b tree) bytes h.means);
      }

  pub shown_published : (tree : Tree) → FileShowsTree old tree → FileShowsTree new tree
  shown_published tree h =
      subst (λ n. EntriesHoldTree n HasSize (entries_held (directory_of (mini_of new))) tree) (sym letters)
      (subst (λ es. EntriesHoldTree (file_case_table old) HasSize es tree) (sym k.directory.entries) h)

module _ {F : Type 0} {g : Ghosts F} (has_published : F → List ℕ → Type 0) (old new : CompoundFile F g) where
  pub published_so : {T E : Type 0} (r : Result T E) → MiniKeepsMemory (mini_of old) (mini_of new) → file_case_table new ≡ file_case_table old → sound_of new ≡ sound_of old → HoldsLinks new
      → (IsTrue (is_honest (allocator_of (mini_of old))) → OnOk r (has_published (medium_of (allocator_of (mini_of new))) (bytes_of (allocator_of (mini_of old)))))
      → (has_failed_here (allocator_of (mini_of new)) ≡ false → IsTrue (is_honest (allocator_of (mini_of old))) → bytes_of (allocator_of (mini_of new)) ≡ bytes_of (allocator_of (mini_of old)))
      → OnOk r (has_failed_here (allocator_of (mini_of new)) ≡ false) → OnOk r (Publishes has_published old new)
  published_so (Ok x) k letters sound held published same alive = record {
    published = published;
    bytes = same alive;
    live = alive;
    means = means_published old new k (same alive) letters sound held alive;
    holds = holds_published old new k (same alive) letters alive;
    shows = shown_published old new k (same alive) letters;
  }
  published_so (Err e) k letters sound held published same alive = tt

-- what leaves nothing more leaves what one might have left before, or the bytes
pub left_before : {M X : Type 0} {moment : M → ℕ} {crash_left_since : M → ℕ → X → Type 0} {old new : M} {P Q : X → Type 0}
    → CrashLeavesOnly moment crash_left_since old new P → CrashLeavesOnly moment crash_left_since old new (λ x. P x ⊎ Q x)
left_before h = record {
  later = h.later;
  each = λ x left. inl (h.each x left);
  before = λ t x past left. ⊎_elim (λ was. inl was) (λ now. inr (inl now)) (h.before t x past left);
}
