-- A sound file that was opened means a tree while it is live.
use Rattle.std.proofs.Common.{◌≡◌, ℕ, ◌<◌, false, List, [], ◌∷◌, ◌++◌, length, replicate, zero, suc, refl, ap, sym, subst, ◌∙◌, arith, length-append, length-take, IsTrue}
use Rattle.std.specs.Prelude.{slice_get, Some}
use Rattle.std.specs.List.{AllByRecursion}
use Rattle.std.proofs.lemmas.List.{length-replicate}
use Rattle.cfb_medium.specs.Numbers.{all_pieces, pieces}
use Rattle.cfb_medium.specs.declared.medium.ReadMedium.{Ghosts}
use Rattle.cfb_sectors.specs.Sectors.{fat_in, free, joined, sectors_in, AreInFile}
use Rattle.cfb_fat.specs.Orderly.{AreBelow, AreTablesConsistent}
use Rattle.cfb_fat.specs.Tables.{bytes_of, version_of}
use Rattle.cfb_fat.proofs.DifatChains.{in_file_below}
use Rattle.cfb_fat.proofs.TableWords.{length-difat}
use Rattle.cfb_tree.specs.Directory.{entries_of, Holds, Siblings}
use Rattle.cfb_tree.specs.Names.{CaseTable}
use Rattle.cfb_tree.specs.Tree.{Tree}
use Rattle.cfb_tree.proofs.OneContent.{siblings_unique}
use Rattle.cfb_tree.specs.Entries.{HasSize}
use Rattle.cfb_directory.specs.Entries.{SizesFit}
use Rattle.cfb_directory.specs.Views.{entries_held}
use Rattle.cfb_mini.specs.Views.{allocator_of, directory_of}
use Rattle.cfb_mini.specs.declared.mini_allocator.MiniAllocator.{MiniAllocator}
use Rattle.cfb_spec.specs.Means.{directory, HasBytes, Layout, BytesMeanTreeBy}
use Rattle.cfb_spec.specs.Sound.{IsSoundContainer, IsSoundBy}
use Rattle.cfb_spec.proofs.OneTree.{directory_same, layout_same, root_same}
use Rattle.cfb_ownership.specs.LiveFile.{live_file, LiveFile}
use Rattle.cfb_ownership.specs.Held.{OwnersHoldTree}
use Rattle.cfb_ownership.proofs.HeldIs.{held_is}
use Rattle.cfb_ownership.proofs.KeysOfParts.{sectors_of_map}
use Rattle.cfb_ownership.proofs.UsesOwned.{owners_of, used}
use Rattle.cfb_opening.specs.Opened.{OpensAt, MemoryShows}
use Rattle.cfb_soundness.specs.Views.{LiesSo}
use Rattle.cfb_soundness.proofs.InMemory.{count_is, entries_are, fat_is, mini_fat_is}
use Rattle.cfb_soundness.proofs.Judged.{judged_from_sound}
use Rattle.cfb_soundness.proofs.Refilling.{entries_same}
use Rattle.cfb_tree_edits.specs.Live.{live_of, LiveFileMeansTree}
use Rattle.cfb.proofs.OpenedFiles.{lies_so}
use Rattle.cfb.proofs.OnceByTimes.{once_by_times}
use Rattle.cfb_soundness.proofs.Taking.{times_append}
use Rattle.cfb_siblings.proofs.Lists.{all_parts}

-- a directory with a root has a sector
has_sector : (bytes : List ℕ) (l : Layout) → slice_get (directory bytes l) 0 ≡ Some l.root → 0 < length l.directory_sectors
unfolding entries_of all_pieces pieces
has_sector bytes l found = some l.directory_sectors found
  where
    some : (ids : List ℕ) → slice_get (entries_of l.version (joined l.version bytes ids)) 0 ≡ Some l.root → 0 < length ids
    some [] found = absurd (cc)
    some (x ∷ ids) found = omega arith

some_there : (bytes : List ℕ) (l : Layout) (ids : List ℕ) → 0 < length ids → AreInFile l.version bytes ids → 0 < sectors_in l.version (length bytes)
some_there bytes l [] none there = absurd (omega (arith, none))
some_there bytes l (x ∷ ids) some there = let below = in_file_below l.version bytes x there.0 in omega (arith, below)

below_all : (count : ℕ) (xs : List ℕ) → AllByRecursion (λ n. n < count) xs → AreBelow count xs
below_all count [] all k inside = absurd (omega (arith, inside))
below_all count (x ∷ xs) all zero inside = all.0
below_all count (x ∷ xs) all (suc k) inside = below_all count xs all.1 k (omega (arith, inside))

-- the tables of a sound file can be changed
module _ (bytes : List ℕ) (l : Layout) (letters : CaseTable) (tree : Tree) (s : IsSoundBy l letters bytes tree) where
  abbrev count : ℕ
  count = sectors_in l.version (length bytes)

  orderly : AreTablesConsistent l.version count (live_file bytes l).fat l.fat_sectors l.difat_sectors
  orderly =
      let laid = s.means.laid_out in
      let judged = judged_from_sound bytes l letters tree s in
      let P = λ (n : ℕ). n < length (replicate count false) in
      let f = l.fat_sectors in
      let d = l.difat_sectors in
      let size = length-replicate count false in
      let five = all_parts P (f ++ d ++ l.directory_sectors ++ l.mini_fat_sectors ++ l.mini_stream_sectors) judged.sectors judged.can.there in
      let four = all_parts P (f ++ d ++ l.directory_sectors ++ l.mini_fat_sectors) l.mini_stream_sectors five.0 in
      let three = all_parts P (f ++ d ++ l.directory_sectors) l.mini_fat_sectors four.0 in
      let two = all_parts P (f ++ d) l.directory_sectors three.0 in
      let difat = all_parts P f d two.0 in
      let named = ap length laid.fat_named.1 in
      let longest = length-difat l.version bytes l.difat_sectors laid.header.whole in
      let sum = length-append l.fat_sectors (replicate laid.fat_named.0 free) in
      let within = length-take count (fat_in l.version bytes l.fat_sectors) in
      let covers = judged.covers in record {
        once = once_by_times (l.difat_sectors ++ l.fat_sectors) (λ n.
            let most = judged.can.once n in
            let one = times_append n (f ++ d ++ l.directory_sectors ++ l.mini_fat_sectors ++ l.mini_stream_sectors) judged.sectors in
            let more = times_append n (f ++ d ++ l.directory_sectors ++ l.mini_fat_sectors) l.mini_stream_sectors in
            let minis = times_append n (f ++ d ++ l.directory_sectors) l.mini_fat_sectors in
            let entries = times_append n (f ++ d) l.directory_sectors in
            let both = times_append n f d in
            let turned = times_append n d f in
            omega (arith, most, one, more, minis, entries, both, turned));
        covered = omega (arith, within, covers);
        some = some_there bytes l l.directory_sectors (has_sector bytes l laid.root_found) laid.directory_in_file;
        there = below_all count l.difat_sectors (subst (λ n. AllByRecursion (λ x. x < n) l.difat_sectors) size difat.1);
        named = omega (arith, named, longest, sum);
      }

module _ {F : Type 0} {g : Ghosts F} (it : MiniAllocator F g) (letters : CaseTable) (l : Layout) (tree : Tree) (so : LiesSo it l) (fits : SizesFit (version_of (allocator_of it)) (entries_held (directory_of it))) (m : BytesMeanTreeBy l HasSize letters (bytes_of (allocator_of it)) tree) where
  abbrev bytes : List ℕ
  bytes = bytes_of (allocator_of it)

  -- what memory shows is what the bytes have
  file_is : live_file bytes l ≡ live_of it
  unfolding live_of
  file_is =
      let version = so.version in
      let count = count_is it (length bytes) letters l tree so refl m in
      let fat = fat_is it (length bytes) letters l tree so refl m in
      let fat_sectors = so.fat_sectors in
      let difat_sectors = so.difat_sectors in
      let mini_fat = mini_fat_is it (length bytes) letters l tree so refl m in
      let entries = entries_are it (length bytes) letters l tree so refl m in
      cc

  -- a sound file has this layout
  sound_so : IsSoundContainer letters bytes → (other : Tree) × IsSoundBy l letters bytes other
  sound_so (k, other, s) =
      let dirs = directory_same bytes l k m.laid_out s.means.laid_out in
      let roots = root_same bytes l k m.laid_out s.means.laid_out in
      let siblings : Siblings (directory bytes l) l.root.child s.means.children =
      subst (λ r. Siblings (directory bytes l) r.child s.means.children) roots (subst (λ d. Siblings d k.root.child s.means.children) dirs s.means.siblings) in
      let children : s.means.children ≡ m.children = siblings_unique siblings m.siblings in
      let holds : Holds (directory bytes l) (HasBytes bytes k) m.children other.content k.entries =
      subst (λ ids. Holds (directory bytes l) (HasBytes bytes k) ids other.content k.entries) children (subst (λ d. Holds d (HasBytes bytes k) s.means.children other.content k.entries) dirs s.means.holds) in
      let entries = entries_same letters (directory bytes l) (HasBytes bytes k) HasSize other.content tree.content m.children k.entries l.entries holds m.holds in
      let same = layout_same bytes l k m.laid_out s.means.laid_out entries in
      (other, subst (λ (x : Layout). IsSoundBy x letters bytes other) same s)

  pub sound_means : IsSoundContainer letters bytes → (other : Tree) × LiveFileMeansTree letters it other
  unfolding live_of
  sound_means sound =
      let s = sound_so sound in
      let a = allocator_of it in
      let who = owners_of l (used bytes l letters s.0 s.1) in
      let held : OwnersHoldTree (live_of it) who letters s.0 = subst (λ (f : LiveFile). OwnersHoldTree f who letters s.0) file_is (held_is bytes l letters s.0 s.1 (orderly bytes l letters s.0 s.1)) in (
        s.0,
        record {
          live = so.live;
          orderly = (a.listed so.live so.honest).1 (held.kept.tables.orderly, held.kept.tables.listed);
          who = who;
          owners = record {
            honest = so.honest;
            memory = so.memory;
            owned = held.kept.owned;
            directory = sectors_of_map l.directory_sectors ∙ so.directory_sectors;
            mini_fat = sectors_of_map l.mini_fat_sectors ∙ so.mini_fat_sectors;
            mini_stream = sectors_of_map l.mini_stream_sectors ∙ so.mini_stream_sectors;
          };
          sizes = fits;
          held = held;
        },
      )

module _ {F : Type 0} {g : Ghosts F} where
  -- so it is of a medium that was opened
  pub means_so : (old : F) (it : MiniAllocator F g) (l : Layout) (letters : CaseTable) (tree : Tree) → IsTrue (g.honest old) → OpensAt old it → MemoryShows it (g.bytes old) l → BytesMeanTreeBy l HasSize letters (g.bytes old) tree
      → IsSoundContainer letters (g.bytes old) → (other : Tree) × LiveFileMeansTree letters it other
  means_so old it l letters tree is opens shows means sound =
      let same = sym (opens.bytes is) in
      sound_means it letters l tree (lies_so old it l is opens shows) opens.sizes (subst (λ b. BytesMeanTreeBy l HasSize letters b tree) same means) (subst (IsSoundContainer letters) same sound)
