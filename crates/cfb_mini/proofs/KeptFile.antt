-- What changes of mini chains leave of the file, one after the other.
use Rattle.std.proofs.Common.{◌≡◌, ℕ, ◌≤◌, inl, inr, List, [], ◌∷◌, ◌++◌, length, zero, suc, set, ap, sym, subst, ◌∙◌, arith, ⊎_elim, append_assoc, append-nil, IsTrue}
use Rattle.std.specs.Prelude.{slice_index_or}
use Rattle.cfb_medium.specs.Versions.{stream_len_mask}
use Rattle.cfb_medium.specs.declared.medium.ReadMedium.{Ghosts}
use Rattle.cfb_medium.specs.declared.version.Version.{Version}
use Rattle.cfb_sectors.specs.Header.{first_directory_sector, first_mini_fat_sector, IsHeader}
use Rattle.cfb_sectors.specs.Sectors.{end_of_chain, filled_part, sector}
use Rattle.cfb_chains.specs.Owned.{ChangesAtMost}
use Rattle.cfb_fat.specs.Seeing.{seen_of}
use Rattle.cfb_fat.specs.Tables.{bytes_of, is_honest, version_of}
use Rattle.cfb_fat.specs.declared.allocator.Allocator.{Allocator}
use Rattle.cfb_chain_io.specs.ChainEffects.{KeepsFileInvariants}
use Rattle.cfb_tree.specs.Directory.{Entry}
use Rattle.cfb_tree.proofs.OneContent.{Some_same}
use Rattle.cfb_directory.specs.Entries.{SizesFit}
use Rattle.cfb_directory.specs.Views.{directory_ids, entries_held}
use Rattle.cfb_directory.proofs.Stages.{number_kept}
use Rattle.cfb_mini.specs.Files.{count_told, LeavesFile}
use Rattle.cfb_mini.specs.FatGrowth.{mini_fat_words, TellsMiniFat}
use Rattle.cfb_mini.specs.Views.{allocator_of, directory_of, mini_fat_ids, mini_stream_ids, OnlyReadsMini}
use Rattle.cfb_mini.specs.declared.mini_allocator.MiniAllocator.{MiniAllocator}
use Rattle.cfb_mini.proofs.Counts.{counts_rest, counts_stay, part_spared}
use Rattle.cfb_mini.proofs.Headers.{header_stays, u32_same, KeepsFront}

-- an entry of a size that fits
pub sizes_set : (v : Version) (xs : List Entry) (id : ℕ) (f : Entry) → f.size ≤ stream_len_mask v → SizesFit v xs → SizesFit v (set xs id f)
sizes_set v [] id f few fits k x at = absurd (cc)
sizes_set v (y ∷ xs) zero f few fits zero x at = subst (λ (z : Entry). z.size ≤ stream_len_mask v) (Some_same at) few
sizes_set v (y ∷ xs) zero f few fits (suc k) x at = fits (suc k) x at
sizes_set v (y ∷ xs) (suc id) f few fits zero x at = fits 0 x at
sizes_set v (y ∷ xs) (suc id) f few fits (suc k) x at = sizes_set v xs id f few (λ j. fits (suc j)) k x at

module _ {F : Type 0} {g : Ghosts F} where
  pub front_kept : (a b : Allocator F g) (touched : List ℕ) → ChangesAtMost (sector (version_of a)) [] touched (seen_of a) (seen_of b) → KeepsFront 68 (bytes_of a) (bytes_of b)
  unfolding seen_of
  front_kept a b touched leaves place count front beside = leaves.header place count front (⊎_elim (λ before. inl (omega (arith, before))) (λ behind. inr (omega (arith, behind))) beside, tt)

  front_words : (a b : Allocator F g) (touched : List ℕ) → ChangesAtMost (sector (version_of a)) mini_fat_words touched (seen_of a) (seen_of b) → KeepsFront 60 (bytes_of a) (bytes_of b)
  unfolding seen_of
  front_words a b touched leaves place count front beside =
      leaves.header place count (omega (arith, front)) (⊎_elim (λ before. inl (omega (arith, before))) (λ behind. inr (omega (arith, behind))) beside, (inl front, (inl (omega (arith, front)), tt)))

  pub longer_by : (a b : Allocator F g) (words touched : List ℕ) → ChangesAtMost (sector (version_of a)) words touched (seen_of a) (seen_of b) → length (bytes_of a) ≤ length (bytes_of b)
  unfolding seen_of
  longer_by a b words touched leaves = leaves.longer

  pub file_same : (it : MiniAllocator F g) → LeavesFile it it
  file_same it = record { longer = omega arith; header = λ h. h; counts = λ h counts. counts; more = []; stream = sym (append-nil (mini_stream_ids it)); sizes = λ fit. fit }

  pub file_then : (a b c : MiniAllocator F g) → LeavesFile a b → LeavesFile b c → LeavesFile a c
  file_then a b c h k = record {
    longer = let one = h.longer in let two = k.longer in omega (arith, one, two);
    header = λ has. k.header (h.header has);
    counts = λ has counts. k.counts (h.header has) (h.counts has counts);
    more = h.more ++ k.more;
    stream = k.stream ∙ ap (λ l. l ++ k.more) h.stream ∙ append_assoc (mini_stream_ids a) h.more k.more;
    sizes = λ fit. k.sizes (h.sizes fit);
  }

  -- over reads
  pub file_rests : (b c : MiniAllocator F g) → IsTrue (is_honest (allocator_of b)) → OnlyReadsMini b c → LeavesFile b c
  file_rests b c honest rests =
      let layer = rests.directory.allocator.sectors in
      let same : bytes_of (allocator_of c) ≡ bytes_of (allocator_of b) = layer.bytes honest in
      let size = ap length same in
      record {
        longer = omega (arith, size);
        header = λ h. record {
          header = subst (λ v. IsHeader v (bytes_of (allocator_of c))) (sym layer.version) (subst (IsHeader (version_of (allocator_of b))) (sym same) h.header);
          directory = ap first_directory_sector same ∙ h.directory ∙ ap (λ l. slice_index_or l 0 end_of_chain) (sym rests.directory.ids);
          mini_fat = ap first_mini_fat_sector same ∙ h.mini_fat ∙ ap (λ l. slice_index_or l 0 end_of_chain) (sym rests.mini_fat_ids);
        };
        counts = λ h. counts_rest b c rests.directory.allocator rests.directory.ids rests.mini_fat_ids honest;
        more = [];
        stream = rests.mini_stream_ids ∙ sym (append-nil (mini_stream_ids b));
        sizes = λ fit. subst (λ v. SizesFit v (entries_held (directory_of c))) (sym layer.version) (subst (SizesFit (version_of (allocator_of b))) (sym rests.directory.entries) fit);
      }

  -- over a change that spares the header's front
  pub file_spared : (old new : MiniAllocator F g) (more : List ℕ) → version_of (allocator_of new) ≡ version_of (allocator_of old) → length (bytes_of (allocator_of old)) ≤ length (bytes_of (allocator_of new)) → KeepsFront 68 (bytes_of (allocator_of old)) (bytes_of (allocator_of new))
      → filled_part (bytes_of (allocator_of new)) 40 4 ≡ filled_part (bytes_of (allocator_of old)) 40 4 → directory_ids (directory_of new) ≡ directory_ids (directory_of old) → mini_fat_ids new ≡ mini_fat_ids old → mini_stream_ids new ≡ mini_stream_ids old ++ more
      → (SizesFit (version_of (allocator_of old)) (entries_held (directory_of old)) → SizesFit (version_of (allocator_of old)) (entries_held (directory_of new))) → LeavesFile old new
  file_spared old new more version longer keeps count ids fat stream sizes =
      let a = bytes_of (allocator_of old) in
      let b = bytes_of (allocator_of new) in
      record {
        longer = longer;
        header = λ h.
            let whole = h.header.whole in record {
              header = subst (λ u. IsHeader u b) (sym version) (header_stays 68 (omega arith) a b whole longer keeps (omega arith) (version_of (allocator_of old)) h.header);
              directory = u32_same 68 (omega arith) a b whole longer keeps 48 (omega arith) (inr (omega arith)) ∙ h.directory ∙ ap (λ l. slice_index_or l 0 end_of_chain) (sym ids);
              mini_fat = u32_same 68 (omega arith) a b whole longer keeps 60 (omega arith) (inr (omega arith)) ∙ h.mini_fat ∙ ap (λ l. slice_index_or l 0 end_of_chain) (sym fat);
            };
        counts = counts_stay old new version count (keeps 64 4 (omega arith) (inr (omega arith))) ids fat;
        more = more;
        stream = stream;
        sizes = λ fit. subst (λ v. SizesFit v (entries_held (directory_of new))) (sym version) (sizes fit);
      }

  -- over one of sectors alone
  pub file_beside : (old new : MiniAllocator F g) (touched : List ℕ) → KeepsFileInvariants (allocator_of old) (allocator_of new) → ChangesAtMost (sector (version_of (allocator_of old))) [] touched (seen_of (allocator_of old)) (seen_of (allocator_of new))
      → directory_ids (directory_of new) ≡ directory_ids (directory_of old) → mini_fat_ids new ≡ mini_fat_ids old → mini_stream_ids new ≡ mini_stream_ids old → entries_held (directory_of new) ≡ entries_held (directory_of old) → LeavesFile old new
  file_beside old new touched goes leaves ids fat stream entries =
      file_spared old new [] goes.version (longer_by (allocator_of old) (allocator_of new) [] touched leaves) (front_kept (allocator_of old) (allocator_of new) touched leaves)
      (part_spared (allocator_of old) (allocator_of new) [] touched leaves 40 (omega arith) (inl (omega arith), tt)) ids fat (stream ∙ sym (append-nil (mini_stream_ids old)))
      (subst (SizesFit (version_of (allocator_of old))) (sym entries))

  -- over one that tells the header of another mini FAT
  pub file_told : (old new : MiniAllocator F g) (touched : List ℕ) → KeepsFileInvariants (allocator_of old) (allocator_of new) → ChangesAtMost (sector (version_of (allocator_of old))) mini_fat_words touched (seen_of (allocator_of old)) (seen_of (allocator_of new))
      → TellsMiniFat (bytes_of (allocator_of new)) (mini_fat_ids new) → directory_ids (directory_of new) ≡ directory_ids (directory_of old) → mini_stream_ids new ≡ mini_stream_ids old
      → entries_held (directory_of new) ≡ entries_held (directory_of old) → LeavesFile old new
  file_told old new touched goes leaves told ids stream entries =
      let a = bytes_of (allocator_of old) in
      let b = bytes_of (allocator_of new) in
      let longer = longer_by (allocator_of old) (allocator_of new) mini_fat_words touched leaves in
      let keeps = front_words (allocator_of old) (allocator_of new) touched leaves in
      record {
        longer = longer;
        header = λ h.
            let whole = h.header.whole in record {
              header = subst (λ u. IsHeader u b) (sym goes.version) (header_stays 60 (omega arith) a b whole longer keeps (omega arith) (version_of (allocator_of old)) h.header);
              directory = u32_same 60 (omega arith) a b whole longer keeps 48 (omega arith) (inr (omega arith)) ∙ h.directory ∙ ap (λ l. slice_index_or l 0 end_of_chain) (sym ids);
              mini_fat = told.first;
            };
        counts = λ h counts. record {
          directory = number_kept a b 40 (part_spared (allocator_of old) (allocator_of new) mini_fat_words touched leaves 40 (omega arith) (inl (omega arith), (inl (omega arith), (inl (omega arith), tt)))) ∙ counts.directory
              ∙ ap (λ l. count_told (version_of (allocator_of old)) (length l)) (sym ids) ∙ ap (λ v. count_told v (length (directory_ids (directory_of new)))) (sym goes.version);
          mini_fat = told.count;
        };
        more = [];
        stream = stream ∙ sym (append-nil (mini_stream_ids old));
        sizes = λ fit. subst (λ v. SizesFit v (entries_held (directory_of new))) (sym goes.version) (subst (SizesFit (version_of (allocator_of old))) (sym entries) fit);
      }
