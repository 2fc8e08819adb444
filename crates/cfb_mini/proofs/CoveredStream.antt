-- The root's entry tells of the whole mini stream.
use Rattle.std.proofs.Common.{◌≡◌, ℕ, ◌≤◌, inl, false, List, [], ◌∷◌, refl, ap, sym, subst, ◌∙◌, arith, ⊎_elim, append-nil, set}
use Rattle.std.specs.Prelude.{slice_get, slice_index_or, Some}
use Rattle.cfb_medium.specs.Versions.{stream_len_mask}
use Rattle.cfb_medium.specs.declared.medium.ReadMedium.{Ghosts}
use Rattle.cfb_sectors.specs.Sectors.{end_of_chain, sector}
use Rattle.cfb_chains.specs.Owned.{ReplacesChain, KeepsOwnedSectors}
use Rattle.cfb_fat.specs.OnlyReads.{all_rest_refl}
use Rattle.cfb_fat.specs.Seeing.{seen_of}
use Rattle.cfb_fat.specs.Tables.{has_failed_here, version_of}
use Rattle.cfb_chain_io.specs.ChainEffects.{KeepsFileInvariants}
use Rattle.cfb_tree.specs.Directory.{Entry}
use Rattle.cfb_tree.proofs.OneContent.{Some_same}
use Rattle.cfb_directory.specs.Changes.{LiesBeside, SetsEntry}
use Rattle.cfb_directory.specs.Entries.{SizesFit}
use Rattle.cfb_directory.specs.Views as directory
use Rattle.cfb_directory.specs.declared.directory.Directory.{Directory}
use Rattle.cfb_directory.proofs.Setting.{has_directory}
use Rattle.cfb_mini.specs.Changing.{CoversStream, HasUniqueOwners, IsCovered, AppendsMiniSectors}
use Rattle.cfb_mini.specs.Views.{allocator_of, directory_of, mini_stream_ids, mini_stream_len, OnlyReadsMini}
use Rattle.cfb_mini.specs.declared.mini_allocator.MiniAllocator.{MiniAllocator}
use Rattle.cfb_mini.proofs.Counts.{counts_beside, part_spared}
use Rattle.cfb_mini.proofs.DirectoryChanges.{directory_beside, directory_changes, first_start}
use Rattle.cfb_mini.proofs.Keeping.{bytes_still, others_stay}
use Rattle.cfb_mini.proofs.KeptFile.{file_spared, front_kept, longer_by, sizes_set}
use Rattle.cfb_mini.proofs.Longer.{len_same, lengthened_owners}
use Rattle.cfb_mini.proofs.StreamGrowth.{first_there, placed}
use Rattle.cfb_mini.proofs.Strays.{leaves_same}

-- the first of a list that was set
set_root : (xs : List Entry) (x y root : Entry) → slice_get xs 0 ≡ Some x → slice_get (set xs 0 y) 0 ≡ Some root → root ≡ y
set_root xs x y root found now = Some_same (sym now ∙ first xs found)
  where
    first : (l : List Entry) → slice_get l 0 ≡ Some x → slice_get (set l 0 y) 0 ≡ Some y
    first [] is = let wrong = is in cc
    first (z ∷ l) is = refl

module _ {F : Type 0} {g : Ghosts F} where
  pub covers_is : (it : MiniAllocator F g) (d : Directory F g) (own : ℕ → List ℕ) (start len : ℕ) (e : Entry) → HasUniqueOwners it own → has_failed_here (allocator_of it) ≡ false → KeepsFileInvariants (allocator_of it) (directory.allocator_of d)
      → start ≡ slice_index_or (mini_stream_ids it) 0 end_of_chain → len ≡ mini_stream_len it → len ≤ stream_len_mask (version_of (allocator_of it)) → slice_get (directory.entries_held (directory_of it)) 0 ≡ Some e
      → SetsEntry 0 (placed e start len) (directory_of it) d → (directory.DirectoryMatchesBytes (directory_of it) → LiesBeside (directory_of it) → directory.DirectoryMatchesBytes d) → CoversStream it (record it { directory = d }) own
  covers_is it d own start len e h live goes start_is len_is fits found sets remembers =
      let a = allocator_of it in
      let b = directory.allocator_of d in
      let new = record it { directory = d } in
      let v = version_of a in
      let held = directory.entries_held (directory_of it) in
      let ids = directory.directory_ids (directory_of it) in
      let becomes = sets.becomes (has_directory (directory_of it) live h.honest h.memory.directory (directory_beside it own h)) in
      let mine : ReplacesChain (sector v) [] (own 0) [] (own 0) (seen_of a) (seen_of b) = subst (λ l. ReplacesChain (sector v) [] l [] l (seen_of a) (seen_of b)) (sym h.directory) becomes in
      let stays : (k : ℕ) → (k ≡ 0 → ⊥) → KeepsOwnedSectors (sector v) (seen_of a) (seen_of b) (own k) = others_stay a b own 0 h.owned mine in
      let stream_stays : KeepsOwnedSectors (sector v) (seen_of a) (seen_of b) (mini_stream_ids it) = subst (KeepsOwnedSectors (sector v) (seen_of a) (seen_of b)) h.mini_stream (stays 2 (λ same. omega (arith, same))) in
      let changes = directory_changes [] [] it d own h goes (sets.ids ∙ sym (append-nil ids)) (subst (λ l. ReplacesChain (sector v) [] ids [] l (seen_of a) (seen_of b)) (sym sets.ids) becomes) remembers
      (λ root at. first_start held 0 e (placed e start len) root _ found (λ same. start_is ∙ sym (h.memory.stream_at e found)) h.memory.stream_at (ap (λ l. slice_get l 0) (sym sets.entries) ∙ at))
      (counts_beside it new _ goes becomes.leaves sets.ids refl) in
      record {
        owners = changes.owners own (h.directory ∙ sym sets.ids) (λ k other. refl);
        others = λ k past. stays k (λ same. omega (arith, past, same));
        stream = bytes_still a b (mini_stream_ids it) goes stream_stays;
        mini_fat = refl;
        root = λ x is_x.
            let same : x ≡ e = Some_same (sym is_x ∙ found) in
            sets.entries ∙ ap (λ y. set held 0 (placed y start len)) (sym same) ∙ ap (λ n. set held 0 (placed x n len)) start_is ∙ ap (λ n. set held 0 (placed x (slice_index_or (mini_stream_ids it) 0 end_of_chain) n)) len_is;
        file = file_spared it new [] goes.version (longer_by a b [] _ becomes.leaves) (front_kept a b _ becomes.leaves) (part_spared a b [] _ becomes.leaves 40 (omega arith) (inl (omega arith), tt)) sets.ids refl (sym (append-nil (mini_stream_ids it)))
            (λ fit. subst (SizesFit v) (sym sets.entries) (sizes_set v held 0 (placed e start len) fits fit));
        strays = leaves_same a b own 0 mine;
      }

  -- the root's entry was set to so many bytes as the mini stream has
  pub covered_set : (it : MiniAllocator F g) (d : Directory F g) (start len : ℕ) (e : Entry) → len ≡ mini_stream_len it → slice_get (directory.entries_held (directory_of it)) 0 ≡ Some e → SetsEntry 0 (placed e start len) (directory_of it) d → IsCovered (record it { directory = d })
  covered_set it d start len e len_is found sets root at =
      let is : root ≡ placed e start len = set_root (directory.entries_held (directory_of it)) e (placed e start len) root found (ap (λ l. slice_get l 0) (sym sets.entries) ∙ at) in
      let size : root.size ≡ len = ap (λ (x : Entry). x.size) is in
      omega (arith, size, len_is)

  -- what covers the mini stream covers it as it becomes longer
  pub covered_longer : (b c : MiniAllocator F g) (minis later : List ℕ) (own : ℕ → List ℕ) → version_of (allocator_of c) ≡ version_of (allocator_of b) → HasUniqueOwners b own → AppendsMiniSectors b c minis later own → IsCovered b → IsCovered c
  covered_longer b c minis later own version was h covered root at = ⊎_elim
      (λ same.
      let len = len_same b c version was.memory (lengthened_owners b c minis later own h).memory same.1 in
      let before = covered root (ap (λ l. slice_get l 0) (sym same.0) ∙ at) in
      omega (arith, len, before))
      (λ told.
      let first = first_there b.directory.entries.items.items b.directory.entries.some in
      let now = placed first.0 (slice_index_or (mini_stream_ids c) 0 end_of_chain) (mini_stream_len c) in
      let is : root ≡ now = set_root (directory.entries_held (directory_of b)) first.0 now root first.1 (ap (λ l. slice_get l 0) (sym (told first.0 first.1)) ∙ at) in
      let size : root.size ≡ mini_stream_len c = ap (λ (x : Entry). x.size) is in
      omega (arith, size))
      h.entries

  -- nothing was done
  pub mini_rests_refl : (it : MiniAllocator F g) → OnlyReadsMini it it
  mini_rests_refl it = record {
    directory = record { allocator = all_rest_refl (allocator_of it); ids = refl; entries = refl; kept = λ is. is };
    mini_fat_ids = refl;
    mini_fat = refl;
    mini_stream_ids = refl;
    kept = λ is. is;
  }

  -- the root's size was large enough
  pub is_covered_yet : (it : MiniAllocator F g) (len : ℕ) (e : Entry) → len ≡ mini_stream_len it → slice_get (directory.entries_held (directory_of it)) 0 ≡ Some e → len ≤ e.size → IsCovered it
  is_covered_yet it len e len_is found enough root at =
      let size : e.size ≡ root.size = ap (λ (x : Entry). x.size) (Some_same (sym found ∙ at)) in
      omega (arith, size, len_is, enough)
