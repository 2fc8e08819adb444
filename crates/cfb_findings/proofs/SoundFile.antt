-- A file has no findings just where it is sound.
use Rattle.std.proofs.Common.{◌≡◌, ◌∙◌, ℕ, ◌+◌, ◌*◌, ◌<◌, ◌≤◌, min, List, [], ◌∷◌, ◌++◌, length, refl, ap, sym, subst}
use Rattle.std.specs.List.{AllByRecursion, IsDistinct}
use Rattle.cfb_medium.specs.Versions.{sector_len}
use Rattle.cfb_medium.specs.declared.medium.ReadMedium.{Ghosts}
use Rattle.cfb_medium.specs.declared.version.Version.{Version}
use Rattle.cfb_chains.specs.LinkViews.{links_version}
use Rattle.cfb_sectors.specs.Held.{count_of}
use Rattle.cfb_sectors.specs.Sectors.{greatest_regular, sectors_in, AreInFile, DifatChain, IsInFile}
use Rattle.cfb_fat.specs.Tables.{bytes_of, difat_sectors_of, fat_of, fat_sectors_of, sectors_of}
use Rattle.cfb_fat.proofs.DifatChains.{in_file_below}
use Rattle.cfb_tree.specs.Names.{CaseTable}
use Rattle.cfb_tree.specs.Tree.{Tree}
use Rattle.cfb_tree.specs.Entries.{HasSize}
use Rattle.cfb_tree.proofs.NamesRead.{all_append}
use Rattle.cfb_directory.specs.Views.{directory_ids, entries_held}
use Rattle.cfb_mini.specs.Views.{allocator_of, directory_of, mini_fat_ids, mini_fat_of}
use Rattle.cfb_mini.specs.declared.mini_allocator.MiniAllocator.{MiniAllocator}
use Rattle.cfb_spec.specs.Means.{Layout, BytesMeanTreeBy}
use Rattle.cfb_spec.specs.Sound.{IsSoundContainer}
use Rattle.cfb_soundness.specs.Views.{table_sectors, tables_in, LiesSo}
use Rattle.cfb_soundness.proofs.InMemory.{count_is, entries_are, fat_is, mini_fat_is}
use Rattle.cfb_soundness.proofs.Judged.{moved, sound_from_judged, tables_same}
use Rattle.cfb_soundness.proofs.Taking.{all_mapped}
use Rattle.cfb_soundness.proofs.Telling.{told}
use Rattle.cfb_findings.specs.Broken.{AreBroken}
use Rattle.cfb_findings.specs.Findings.{is_long, is_short, shared, starts_where, unmarked, ChainsFrom, HasTree}
use Rattle.cfb_findings.specs.Seen.{tables_seen}
use Rattle.cfb_findings.proofs.NoneFound.{judged_from_none}

difat_below : (v : Version) (bytes : List ℕ) (ids : List ℕ) (start stop : ℕ) → DifatChain v bytes start ids stop → AllByRecursion (λ n. n < sectors_in v (length bytes)) ids
difat_below v bytes [] start stop chain = tt
difat_below v bytes (n ∷ ids) start stop (is, there, rest) =
    (subst (λ k. k < sectors_in v (length bytes)) (sym is) (in_file_below v bytes start there), difat_below v bytes ids _ stop rest)

in_file_all : (v : Version) (bytes ids : List ℕ) → AreInFile v bytes ids → AllByRecursion (λ n. n < sectors_in v (length bytes)) ids
in_file_all v bytes ids there = all_mapped (IsInFile v bytes) (λ n. n < sectors_in v (length bytes)) (λ n h. in_file_below v bytes n h) ids there

module _ {F : Type 0} {g : Ghosts F} (file : MiniAllocator F g) (file_len : ℕ) (letters : CaseTable) (l : Layout) (tree : Tree)
    (so : LiesSo file l) (len : file_len ≡ length (bytes_of (allocator_of file)))
    (m : BytesMeanTreeBy l HasSize letters (bytes_of (allocator_of file)) tree) where
  abbrev bytes : List ℕ
  bytes = bytes_of (allocator_of file)

  abbrev count : ℕ
  count = count_of (sectors_of (allocator_of file))

  stream_len_is : length l.mini_stream_sectors * sector_len l.version ≡ (tables_in file file_len).mini_len
  stream_len_is = ap (λ v. length l.mini_stream_sectors * sector_len v) (so.version ∙ sym so.memory.over.stream_version) ∙ ap (λ ids. length ids * sector_len (links_version file.mini_fat.stream)) so.mini_stream_sectors

  tables_are : told bytes l ≡ tables_in file file_len
  tables_are = tables_same (told bytes l) (tables_in file file_len) so.version (fat_is file file_len letters l tree so len m) (mini_fat_is file file_len letters l tree so len m) so.mini_stream_sectors
      stream_len_is (entries_are file file_len letters l tree so len m) (sym len)

  seen_is : tables_seen file file_len ≡ tables_in file file_len
  seen_is = tables_same (tables_seen file file_len) (tables_in file file_len) refl refl refl refl
      (ap (λ v. length (tables_in file file_len).mini_stream * sector_len v) (sym so.memory.over.stream_version)) refl refl

  all_tables : l.fat_sectors ++ l.difat_sectors ++ l.directory_sectors ++ l.mini_fat_sectors ++ l.mini_stream_sectors ≡ table_sectors file
  all_tables =
      ap (λ a. a ++ l.difat_sectors ++ l.directory_sectors ++ l.mini_fat_sectors ++ l.mini_stream_sectors) so.fat_sectors
      ∙ ap (λ b. fat_sectors_of (allocator_of file) ++ b ++ l.directory_sectors ++ l.mini_fat_sectors ++ l.mini_stream_sectors) so.difat_sectors
      ∙ ap (λ d. fat_sectors_of (allocator_of file) ++ difat_sectors_of (allocator_of file) ++ d ++ l.mini_fat_sectors ++ l.mini_stream_sectors) so.directory_sectors
      ∙ ap (λ e. fat_sectors_of (allocator_of file) ++ difat_sectors_of (allocator_of file) ++ directory_ids (directory_of file) ++ e ++ l.mini_stream_sectors) so.mini_fat_sectors
      ∙ ap (λ f. fat_sectors_of (allocator_of file) ++ difat_sectors_of (allocator_of file) ++ directory_ids (directory_of file) ++ mini_fat_ids file ++ f) so.mini_stream_sectors

  pub tree_has : HasTree (entries_held (directory_of file)) l.entries
  unfolding IsDistinct
  tree_has = subst (λ d. HasTree d l.entries) (entries_are file file_len letters l tree so len m) (record {
    root = l.root;
    children = m.children;
    content = tree.content;
    root_found = m.laid_out.root_found;
    siblings = m.siblings;
    holds = m.holds;
    once = m.once.1;
  })

  tables_below : AllByRecursion (λ n. n < count) (table_sectors file)
  tables_below =
      let v = l.version in
      let P : ℕ → Type 0 = λ n. n < sectors_in v (length bytes) in
      let all = all_append P (l.fat_sectors ++ l.difat_sectors ++ l.directory_sectors ++ l.mini_fat_sectors) l.mini_stream_sectors
      (all_append P (l.fat_sectors ++ l.difat_sectors ++ l.directory_sectors) l.mini_fat_sectors
      (all_append P (l.fat_sectors ++ l.difat_sectors) l.directory_sectors
      (all_append P l.fat_sectors l.difat_sectors (in_file_all v bytes l.fat_sectors m.laid_out.fat_in_file) (difat_below v bytes l.difat_sectors _ l.difat_stop m.laid_out.difat_chain))
      (in_file_all v bytes l.directory_sectors m.laid_out.directory_in_file))
      (in_file_all v bytes l.mini_fat_sectors m.laid_out.mini_fat_in_file))
      (in_file_all v bytes l.mini_stream_sectors m.laid_out.mini_stream_in_file) in
      subst (λ k. AllByRecursion (λ n. n < k) (table_sectors file)) (count_is file file_len letters l tree so len m) (subst (AllByRecursion P) all_tables all)

  -- an empty list of what is seen is one of what memory has
  pub broken_in : (found : List ℕ) → AreBroken (tables_seen file file_len) l.entries found → AreBroken (tables_in file file_len) l.entries found
  broken_in found broken = subst (λ t. AreBroken t l.entries found) seen_is broken

  pub sound_from_none : count ≤ length (fat_of (allocator_of file)) → unmarked (fat_of (allocator_of file)) (fat_sectors_of (allocator_of file) ++ difat_sectors_of (allocator_of file)) ≡ []
      → AreBroken (tables_seen file file_len) l.entries [] → (streams minis : List ℕ)
      → ChainsFrom (fat_of (allocator_of file)) (starts_where is_long (entries_held (directory_of file)) l.entries) streams → shared count (table_sectors file ++ streams) ≡ []
      → ChainsFrom (mini_fat_of file) (starts_where is_short (entries_held (directory_of file)) l.entries) minis
      → shared (min (length (mini_fat_of file)) (greatest_regular + 1)) minis ≡ [] → IsSoundContainer letters bytes
  sound_from_none covers marked unbroken streams minis chains apart mini_chains minis_apart =
      let j = judged_from_none (tables_in file file_len) count (fat_sectors_of (allocator_of file)) (difat_sectors_of (allocator_of file)) (table_sectors file) l.entries
      covers ((allocator_of file).inside so.live) marked (broken_in [] unbroken) tables_below streams minis chains apart mini_chains minis_apart in
      sound_from_judged bytes l letters tree HasSize m
      (moved _ _ _ _ _ _ _ _ _ _ l.entries l.entries (sym tables_are) (sym (count_is file file_len letters l tree so len m)) (sym so.fat_sectors) (sym so.difat_sectors) (sym all_tables) refl j)
