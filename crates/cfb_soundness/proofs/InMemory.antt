-- A file is sound exactly where the tables in memory are judged so.
use Rattle.std.proofs.Common.{◌≡◌, ℕ, ◌*◌, ◌≤◌, Bool, true, false, IsTrue, List, ◌++◌, length, take, replicate, refl, ap, sym, subst, ◌∙◌}
use Rattle.std.specs.Prelude.{◌↔◌, Err, IfOk, Ok, Result}
use Rattle.std.specs.List.{IsDistinct}
use Rattle.cfb_medium.specs.Versions.{sector_len}
use Rattle.cfb_medium.specs.declared.error.Error.{Error}
use Rattle.cfb_medium.specs.declared.medium.ReadMedium.{Ghosts}
use Rattle.cfb_chains.specs.LinkViews.{links_version}
use Rattle.cfb_sectors.specs.Held.{count_of}
use Rattle.cfb_sectors.specs.Sectors.{fat_in, joined, sectors_in}
use Rattle.cfb_fat.specs.Tables.{bytes_of, difat_sectors_of, fat_of, fat_sectors_of, sectors_of, version_of}
use Rattle.cfb_tree.specs.Names.{CaseTable}
use Rattle.cfb_tree.specs.Tree.{Tree}
use Rattle.cfb_tree.specs.Directory.{entries_of}
use Rattle.cfb_tree.specs.Entries.{HasSize}
use Rattle.cfb_directory.specs.Views.{directory_ids, entries_held}
use Rattle.cfb_mini.specs.Views.{allocator_of, directory_of, mini_fat_ids, mini_fat_of}
use Rattle.cfb_mini.specs.declared.mini_allocator.MiniAllocator.{MiniAllocator}
use Rattle.cfb_spec.specs.Means.{directory, Layout, BytesMeanTreeBy}
use Rattle.cfb_spec.specs.Sound.{IsSoundContainer}
use Rattle.cfb_soundness.specs.Entries.{AreTreeEntries}
use Rattle.cfb_soundness.specs.Marks.{CanTake, MarksEachOnce}
use Rattle.cfb_soundness.specs.Uses.{AreInUse, EntriesHave}
use Rattle.cfb_soundness.specs.Views.{marks_of, table_sectors, tables_in, CanTakeBoth, LiesSo, TakesBoth}
use Rattle.cfb_soundness.specs.declared.streams.Taken.{Taken}
use Rattle.cfb_soundness.proofs.Judged.{moved, sound_from_judged, sound_is_judged, tables_same, Judged}
use Rattle.cfb_soundness.proofs.Taking.{can_take_front, can_take_rest, could_take, takes_then}
use Rattle.cfb_soundness.proofs.Telling.{told}

-- a test that is true exactly where the file is sound
pub by_test : (S : Type 0) (b : Bool) → (IsTrue b → S) → (b ≡ false → S → ⊥) → IsTrue b ↔ S
by_test S true holds fails = ((λ _. holds refl), (λ _. refl))
by_test S false holds fails = ((λ wrong. absurd (cc)), (λ sound. absurd (fails refl sound)))

pub if_ok_both : (r : Result Bool Error) (P Q R : Bool → Type 0) → ((b : Bool) → P b → Q b → R b) → IfOk r P → IfOk r Q → IfOk r R
if_ok_both (Ok b) P Q R so p q = so b p q
if_ok_both (Err e) P Q R so p q = p

module _ {F : Type 0} {g : Ghosts F} (file : MiniAllocator F g) (file_len : ℕ) (letters : CaseTable) (l : Layout) (tree : Tree)
    (so : LiesSo file l) (len : file_len ≡ length (bytes_of (allocator_of file)))
    (m : BytesMeanTreeBy l HasSize letters (bytes_of (allocator_of file)) tree) where
  abbrev bytes : List ℕ
  bytes = bytes_of (allocator_of file)

  abbrev count : ℕ
  count = count_of (sectors_of (allocator_of file))

  pub count_is : sectors_in l.version (length bytes) ≡ count
  count_is = ap (λ v. sectors_in v (length bytes)) so.version ∙ sym ((sectors_of (allocator_of file)).counted so.live so.honest)

  pub fat_is : take (sectors_in l.version (length bytes)) (fat_in l.version bytes l.fat_sectors) ≡ fat_of (allocator_of file)
  fat_is = ap (λ n. take n (fat_in l.version bytes l.fat_sectors)) count_is
      ∙ ap (λ v. take count (fat_in v bytes l.fat_sectors)) so.version
      ∙ ap (λ fs. take count (fat_in (version_of (allocator_of file)) bytes fs)) so.fat_sectors
      ∙ sym ((allocator_of file).same so.live so.honest)

  pub mini_fat_is : fat_in l.version bytes l.mini_fat_sectors ≡ mini_fat_of file
  mini_fat_is = ap (λ v. fat_in v bytes l.mini_fat_sectors) so.version ∙ ap (fat_in (version_of (allocator_of file)) bytes) so.mini_fat_sectors
      ∙ sym (so.memory.over.numbers so.live so.honest)

  pub entries_are : directory bytes l ≡ entries_held (directory_of file)
  entries_are = ap (λ v. entries_of v (joined v bytes l.directory_sectors)) so.version
      ∙ ap (λ ids. entries_of (version_of (allocator_of file)) (joined (version_of (allocator_of file)) bytes ids)) so.directory_sectors
      ∙ sym (so.memory.directory.entries so.live so.honest)

  tables_are : told bytes l ≡ tables_in file file_len
  tables_are = tables_same (told bytes l) (tables_in file file_len) so.version fat_is mini_fat_is so.mini_stream_sectors
      (ap (λ v. length l.mini_stream_sectors * sector_len v) (so.version ∙ sym so.memory.over.stream_version) ∙ ap (λ ids. length ids * sector_len (links_version file.mini_fat.stream)) so.mini_stream_sectors)
      entries_are (sym len)

  all_tables : l.fat_sectors ++ l.difat_sectors ++ l.directory_sectors ++ l.mini_fat_sectors ++ l.mini_stream_sectors ≡ table_sectors file
  all_tables =
      ap (λ a. a ++ l.difat_sectors ++ l.directory_sectors ++ l.mini_fat_sectors ++ l.mini_stream_sectors) so.fat_sectors
      ∙ ap (λ b. fat_sectors_of (allocator_of file) ++ b ++ l.directory_sectors ++ l.mini_fat_sectors ++ l.mini_stream_sectors) so.difat_sectors
      ∙ ap (λ d. fat_sectors_of (allocator_of file) ++ difat_sectors_of (allocator_of file) ++ d ++ l.mini_fat_sectors ++ l.mini_stream_sectors) so.directory_sectors
      ∙ ap (λ e. fat_sectors_of (allocator_of file) ++ difat_sectors_of (allocator_of file) ++ directory_ids (directory_of file) ++ e ++ l.mini_stream_sectors) so.mini_fat_sectors
      ∙ ap (λ f. fat_sectors_of (allocator_of file) ++ difat_sectors_of (allocator_of file) ++ directory_ids (directory_of file) ++ mini_fat_ids file ++ f) so.mini_stream_sectors

  abbrev pub IsJudgedSo : Type 0
  IsJudgedSo = Judged (tables_in file file_len) count (fat_sectors_of (allocator_of file)) (difat_sectors_of (allocator_of file)) (table_sectors file) l.entries

  pub judged_so : IsSoundContainer letters bytes → IsJudgedSo
  judged_so sound = moved _ _ _ _ _ _ _ _ _ _ l.entries l.entries tables_are count_is so.fat_sectors so.difat_sectors all_tables refl (sound_is_judged bytes l letters tree HasSize m sound)

  sound_so : IsJudgedSo → IsSoundContainer letters bytes
  sound_so j = sound_from_judged bytes l letters tree HasSize m
      (moved _ _ _ _ _ _ _ _ _ _ l.entries l.entries (sym tables_are) (sym count_is) (sym so.fat_sectors) (sym so.difat_sectors) (sym all_tables) refl j)

  ids_are : (ids : List ℕ) → AreTreeEntries (entries_held (directory_of file)) ids → ids ≡ l.entries
  unfolding IsDistinct
  ids_are ids all = subst (λ d. AreTreeEntries d ids) (sym entries_are) all l.root m.children l.entries tree.content m.laid_out.root_found m.siblings m.holds m.once.1

  module _ (start : List Bool) (taken : Taken) (ids : List ℕ) (starts : start ≡ replicate count false) (all : AreTreeEntries (entries_held (directory_of file)) ids)
      (minis_start : marks_of taken.minis ≡ replicate (length (mini_fat_of file)) false) (tables : MarksEachOnce (table_sectors file) start (marks_of taken.sectors)) where
    -- where all took what they use
    pub sound_where_taken : count ≤ length (fat_of (allocator_of file)) → AreInUse (fat_of (allocator_of file)) (fat_sectors_of (allocator_of file))
        → AreInUse (fat_of (allocator_of file)) (difat_sectors_of (allocator_of file)) → (sectors minis : List ℕ) (end : Taken)
        → EntriesHave (tables_in file file_len) ids sectors minis → TakesBoth sectors minis taken end → IsSoundContainer letters bytes
    sound_where_taken covers fat_used difat_used sectors minis end have took = sound_so (record {
      covers = covers;
      fat_used = fat_used;
      difat_used = difat_used;
      sectors = sectors;
      minis = minis;
      have = subst (λ xs. EntriesHave (tables_in file file_len) xs sectors minis) (ids_are ids all) have;
      can = subst (CanTake (table_sectors file ++ sectors)) starts
          (could_take (table_sectors file ++ sectors) start (marks_of end.sectors)
          (takes_then (table_sectors file) sectors start (marks_of taken.sectors) (marks_of end.sectors) tables took.of_sectors));
      can_minis = subst (CanTake minis) minis_start (could_take minis (marks_of taken.minis) (marks_of end.minis) took.of_minis);
    })

    -- where some can't
    pub unsound_where_refused : ((sectors minis : List ℕ) → EntriesHave (tables_in file file_len) ids sectors minis → CanTakeBoth sectors minis taken → ⊥) → IsSoundContainer letters bytes → ⊥
    unsound_where_refused never sound =
        let j = judged_so sound in
        never j.sectors j.minis (subst (λ xs. EntriesHave (tables_in file file_len) xs j.sectors j.minis) (sym (ids_are ids all)) j.have)
        (record {
          of_sectors = can_take_rest (table_sectors file) j.sectors start (marks_of taken.sectors) tables (subst (CanTake (table_sectors file ++ j.sectors)) (sym starts) j.can);
          of_minis = subst (CanTake j.minis) (sym minis_start) j.can_minis;
        })

  -- where the tables can't
  pub unsound_tables : (start : List Bool) → start ≡ replicate count false → (CanTake (table_sectors file) start → ⊥) → IsSoundContainer letters bytes → ⊥
  unsound_tables start starts never sound =
      let j = judged_so sound in
      never (can_take_front (table_sectors file) j.sectors start (subst (CanTake (table_sectors file ++ j.sectors)) (sym starts) j.can))
