-- What a change leaves of the header's numbers of sectors.
use Rattle.std.proofs.Common.{◌≡◌, ℕ, ◌+◌, ◌≤◌, inl, inr, List, [], ◌∷◌, length, ap, sym, ◌∙◌, arith, IsTrue}
use Rattle.cfb_medium.specs.declared.medium.ReadMedium.{Ghosts}
use Rattle.cfb_medium.specs.declared.version.Version.{Version}
use Rattle.cfb_medium.specs.declared.version.Version.TheVariants.{V3, V4}
use Rattle.cfb_sectors.specs.Header.{directory_sector_count, mini_fat_sector_count}
use Rattle.cfb_sectors.specs.Sectors.{filled_part, sector}
use Rattle.cfb_chains.specs.Owned.{AreBesideWords, ChangesAtMost, SectorLayer}
use Rattle.cfb_fat.specs.Seeing.{seen_of}
use Rattle.cfb_fat.specs.Tables.{bytes_of, is_honest, version_of, OnlyReadsAllocator}
use Rattle.cfb_fat.specs.declared.allocator.Allocator.{Allocator}
use Rattle.cfb_chain_io.specs.ChainEffects.{KeepsFileInvariants}
use Rattle.cfb_directory.specs.Growth.{count_words, GrowsDirectory, HeaderCountsDirectory}
use Rattle.cfb_directory.specs.Views as directory
use Rattle.cfb_directory.specs.declared.directory.Directory.{Directory}
use Rattle.cfb_directory.proofs.Stages.{number_kept}
use Rattle.cfb_mini.specs.Files.{count_told, HasCounts, HasHeader}
use Rattle.cfb_mini.specs.Views.{allocator_of, directory_of, mini_fat_ids}
use Rattle.cfb_mini.specs.declared.mini_allocator.MiniAllocator.{MiniAllocator}

-- the directory's number is right where it was, over a change that counts its sectors where the version has such a number
counted_on : (v : Version) (S : List ℕ → ℕ → List ℕ) (touched : List ℕ) (a b : SectorLayer) (n m : ℕ) → ChangesAtMost S (count_words v) touched a b → (HeaderCountsDirectory v a.bytes n → HeaderCountsDirectory v b.bytes m)
    → directory_sector_count a.bytes ≡ count_told v n → directory_sector_count b.bytes ≡ count_told v m
counted_on V3 S touched a b n m leaves counted was = number_kept a.bytes b.bytes 40 (leaves.header 40 4 (omega arith) (inl (omega arith), tt)) ∙ was
counted_on V4 S touched a b n m leaves counted was = counted was

-- the mini FAT's number isn't the directory's
aside : (v : Version) → AreBesideWords (44 ∷ count_words v) 64 4
aside V3 = (inr (omega arith), tt)
aside V4 = (inr (omega arith), (inr (omega arith), tt))

module _ {F : Type 0} {g : Ghosts F} where
  pub part_spared : (a b : Allocator F g) (words touched : List ℕ) → ChangesAtMost (sector (version_of a)) words touched (seen_of a) (seen_of b) → (place : ℕ) → place + 4 ≤ 68 → AreBesideWords (44 ∷ words) place 4
      → filled_part (bytes_of b) place 4 ≡ filled_part (bytes_of a) place 4
  unfolding seen_of
  part_spared a b words touched leaves place front beside = leaves.header place 4 front beside

  -- both numbers are right where they were, over a change that spares them
  pub counts_stay : (old new : MiniAllocator F g) → version_of (allocator_of new) ≡ version_of (allocator_of old)
      → filled_part (bytes_of (allocator_of new)) 40 4 ≡ filled_part (bytes_of (allocator_of old)) 40 4 → filled_part (bytes_of (allocator_of new)) 64 4 ≡ filled_part (bytes_of (allocator_of old)) 64 4
      → directory.directory_ids (directory_of new) ≡ directory.directory_ids (directory_of old) → mini_fat_ids new ≡ mini_fat_ids old → HasHeader old → HasCounts old → HasCounts new
  counts_stay old new version first second ids fat h counts = record {
    directory = number_kept (bytes_of (allocator_of old)) (bytes_of (allocator_of new)) 40 first ∙ counts.directory ∙ ap (λ l. count_told (version_of (allocator_of old)) (length l)) (sym ids)
        ∙ ap (λ v. count_told v (length (directory.directory_ids (directory_of new)))) (sym version);
    mini_fat = number_kept (bytes_of (allocator_of old)) (bytes_of (allocator_of new)) 64 second ∙ counts.mini_fat ∙ ap length (sym fat);
  }

  -- so it is of sectors alone
  pub counts_beside : (old new : MiniAllocator F g) (touched : List ℕ) → KeepsFileInvariants (allocator_of old) (allocator_of new) → ChangesAtMost (sector (version_of (allocator_of old))) [] touched (seen_of (allocator_of old)) (seen_of (allocator_of new))
      → directory.directory_ids (directory_of new) ≡ directory.directory_ids (directory_of old) → mini_fat_ids new ≡ mini_fat_ids old → HasHeader old → HasCounts old → HasCounts new
  unfolding seen_of
  counts_beside old new touched goes leaves ids fat =
      counts_stay old new goes.version (leaves.header 40 4 (omega arith) (inl (omega arith), tt)) (leaves.header 64 4 (omega arith) (inr (omega arith), tt)) ids fat

  -- and of a directory that grew
  pub counts_grown : (it : MiniAllocator F g) (d : Directory F g) → KeepsFileInvariants (allocator_of it) (directory.allocator_of d) → GrowsDirectory (directory_of it) d → HasHeader it → HasCounts it → HasCounts (record it { directory = d })
  unfolding seen_of
  counts_grown it d goes grown h counts =
      let a = allocator_of it in
      let b = directory.allocator_of d in
      let v = version_of a in
      let leaves = grown.becomes.leaves in record {
        directory = counted_on v (sector v) _ (seen_of a) (seen_of b) _ _ leaves grown.counted counts.directory ∙ ap (λ u. count_told u (length (directory.directory_ids d))) (sym goes.version);
        mini_fat = number_kept (bytes_of a) (bytes_of b) 64 (leaves.header 64 4 (omega arith) (aside v)) ∙ counts.mini_fat;
      }

  -- and over reads
  pub counts_rest : (old new : MiniAllocator F g) → OnlyReadsAllocator (allocator_of old) (allocator_of new) → directory.directory_ids (directory_of new) ≡ directory.directory_ids (directory_of old) → mini_fat_ids new ≡ mini_fat_ids old
      → IsTrue (is_honest (allocator_of old)) → HasCounts old → HasCounts new
  counts_rest old new rests ids fat honest counts =
      let same : bytes_of (allocator_of new) ≡ bytes_of (allocator_of old) = rests.sectors.bytes honest in record {
        directory = ap directory_sector_count same ∙ counts.directory ∙ ap (λ l. count_told (version_of (allocator_of old)) (length l)) (sym ids) ∙ ap (λ v. count_told v (length (directory.directory_ids (directory_of new)))) (sym rests.sectors.version);
        mini_fat = ap mini_fat_sector_count same ∙ counts.mini_fat ∙ ap length (sym fat);
      }
