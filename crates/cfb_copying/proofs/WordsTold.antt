-- A number of the header that is written in a file in the making.
use Rattle.std.proofs.Common.{◌≡◌, ℕ, ◌+◌, ◌-◌, ◌^◌, ◌<◌, ◌≤◌, ◌⊎◌, inl, inr, false, IsTrue, List, [], ◌∷◌, length, take, drop, refl, ap, sym, subst, ◌∙◌, arith, ⊎_elim}
use Rattle.std.specs.Int.{from_le_bytes, to_le_bytes, w16, w32}
use Rattle.cfb_medium.specs.Bytes.{overwritten}
use Rattle.cfb_medium.specs.Numbers.{u16_at, u32_at}
use Rattle.cfb_medium.specs.declared.version.Version.{Version}
use Rattle.cfb_medium.specs.declared.medium.ReadMedium.{Ghosts}
use Rattle.cfb_sectors.specs.Header.{directory_sector_count, first_mini_fat_sector, mini_fat_sector_count, IsHeader}
use Rattle.cfb_sectors.specs.Sectors.{filled_part, joined, sector}
use Rattle.cfb_chains.specs.Behind.{AreWhole}
use Rattle.cfb_chains.specs.Owned.{AreBesideWords, ChangesAtMost}
use Rattle.cfb_chains.proofs.Overwriting.{written}
use Rattle.cfb_chains.proofs.Owners.{each_left, owned_still}
use Rattle.cfb_fat.specs.Seeing.{seen_of}
use Rattle.cfb_fat.specs.Tables.{bytes_of, has_failed_here, version_of}
use Rattle.cfb_fat.specs.declared.allocator.Allocator.{Allocator}
use Rattle.cfb_fat.proofs.Words.{filled_is}
use Rattle.cfb_chain_io.specs.ChainEffects.{KeepsFileInvariants}
use Rattle.cfb_directory.proofs.Stages.{number_kept, number_there}
use Rattle.cfb_copying.specs.Making.{IsFileInProgress}
use Rattle.cfb_copying.proofs.Pieces.{whole_still}
use Rattle.cfb_copying.proofs.Tight.{tight_then}

-- a number that was written stands there
pub number_now : (old new : List ℕ) (place n : ℕ) → new ≡ overwritten old place (to_le_bytes w32 n) → n < 2 ^ 32 → u32_at new place ≡ n
number_now old new place n is small = number_there new place n (ap (λ l. filled_part l place 4) is ∙ written old (to_le_bytes w32 n) place) small

-- the number at byte 40, or one behind the header's constants
abbrev pub IsTold : ℕ → Type 0
IsTold word = (word ≡ 40) ⊎ (60 ≤ word)

module _ (old new : List ℕ) (word : ℕ) (told : IsTold word) (whole : 512 ≤ length old) (longer : length old ≤ length new)
    (keeps : (place count : ℕ) → place + count ≤ 68 → AreBesideWords (44 ∷ word ∷ []) place count → filled_part new place count ≡ filled_part old place count) where
  beside : (place count : ℕ) → place + count ≤ 60 → (place + count ≤ 40) ⊎ (48 ≤ place) → AreBesideWords (44 ∷ word ∷ []) place count
  beside place count front either = (
    ⊎_elim (λ low. inl (omega (arith, low))) (λ high. inr (omega (arith, high))) either,
    (⊎_elim (λ low. inl (⊎_elim (λ is. omega (arith, is, low)) (λ high. omega (arith, high, front)) told)) (λ high. ⊎_elim (λ is. inr (omega (arith, is, high))) (λ far. inl (omega (arith, far, front))) told) either, tt),
  )

  part_same : (place count : ℕ) → place + count ≤ 60 → (place + count ≤ 40) ⊎ (48 ≤ place) → take count (drop place new) ≡ take count (drop place old)
  part_same place count front either =
      sym (filled_is new place count (omega (arith, whole, longer, front))) ∙ keeps place count (omega (arith, front)) (beside place count front either) ∙ filled_is old place count (omega (arith, whole, front))

  pub u32_kept : (place : ℕ) → place + 4 ≤ 60 → (place + 4 ≤ 40) ⊎ (48 ≤ place) → u32_at new place ≡ u32_at old place
  u32_kept place front either =
      let four : place + 4 - place ≡ 4 = omega arith in
      ap (from_le_bytes w32) (ap (λ n. take n (drop place new)) four ∙ part_same place 4 front either ∙ sym (ap (λ n. take n (drop place old)) four))

  u16_kept : (place : ℕ) → place + 2 ≤ 40 → u16_at new place ≡ u16_at old place
  u16_kept place front =
      let two : place + 2 - place ≡ 2 = omega arith in
      ap (from_le_bytes w16) (ap (λ n. take n (drop place new)) two ∙ part_same place 2 (omega (arith, front)) (inl front) ∙ sym (ap (λ n. take n (drop place old)) two))

  pub header_kept : (v : Version) → IsHeader v old → IsHeader v new
  header_kept v h = record {
    whole = omega (arith, whole, longer);
    signed = part_same 0 8 (omega arith) (inl (omega arith)) ∙ h.signed;
    for_version = u16_kept 26 (omega arith) ∙ h.for_version;
    low_byte_first = u16_kept 28 (omega arith) ∙ h.low_byte_first;
    sectors = u16_kept 30 (omega arith) ∙ h.sectors;
    mini_sectors = u16_kept 32 (omega arith) ∙ h.mini_sectors;
    cutoff = u32_kept 56 (omega arith) (inr (omega arith)) ∙ h.cutoff;
  }

module _ {F : Type 0} {g : Ghosts F} where
  pub made_word : (d m word : ℕ) (a b : Allocator F g) (own bytes : ℕ → List ℕ) → IsFileInProgress d m a own bytes → KeepsFileInvariants a b → has_failed_here b ≡ false → IsTold word
      → ChangesAtMost (sector (version_of a)) (word ∷ []) [] (seen_of a) (seen_of b) → IsFileInProgress d (first_mini_fat_sector (bytes_of b)) b own bytes
  unfolding seen_of
  made_word d m word a b own bytes made goes live told leaves =
      let v = version_of a in
      let S = sector v in
      let longer = leaves.longer in
      let old = bytes_of a in
      let new = bytes_of b in
      record {
        live = live;
        honest = subst IsTrue (sym goes.honest) made.honest;
        orderly = subst IsTrue (sym (goes.orderly live)) made.orderly;
        header = subst (λ u. IsHeader u new) (sym goes.version) (header_kept old new word told made.header.whole longer leaves.header v made.header);
        directory_at = u32_kept old new word told made.header.whole longer leaves.header 48 (omega arith) (inr (omega arith)) ∙ made.directory_at;
        mini_fat_at = refl;
        owned = owned_still S (seen_of a) (seen_of b) own (word ∷ []) made.owned leaves;
        holds = λ k. ap (λ u. joined u new (own k)) goes.version ∙ (each_left S (seen_of a) (seen_of b) own (word ∷ []) made.owned leaves k).bytes ∙ made.holds k;
        whole = λ k. subst (λ u. AreWhole u new (own k)) (sym goes.version) (whole_still v (own k) old new longer (made.whole k));
        tight = tight_then S (word ∷ []) [] 0 (seen_of a) (seen_of b) own own made.tight leaves (λ n loose k below same. absurd (omega (arith, below))) (λ n loose. loose) (λ k other. refl);
      }

  -- how many sectors the directory has
  pub count_told : (d m : ℕ) (a b : Allocator F g) (own bytes : ℕ → List ℕ) → IsFileInProgress d m a own bytes → KeepsFileInvariants a b → has_failed_here b ≡ false
      → ChangesAtMost (sector (version_of a)) (40 ∷ []) [] (seen_of a) (seen_of b) → IsFileInProgress d m b own bytes
  unfolding seen_of
  count_told d m a b own bytes made goes live leaves =
      let same : first_mini_fat_sector (bytes_of b) ≡ m = number_kept (bytes_of a) (bytes_of b) 60 (leaves.header 60 4 (omega arith) (inr (omega arith), (inr (omega arith), tt))) ∙ made.mini_fat_at in
      subst (λ n. IsFileInProgress d n b own bytes) same (made_word d m 40 a b own bytes made goes live (inl refl) leaves)

  -- where the mini FAT begins
  pub first_told : (d m : ℕ) (a b : Allocator F g) (own bytes : ℕ → List ℕ) (x : ℕ) {first : ℕ} → IsFileInProgress d m a own bytes → KeepsFileInvariants a b → has_failed_here b ≡ false
      → ChangesAtMost (sector (version_of a)) (60 ∷ []) [] (seen_of a) (seen_of b) → bytes_of b ≡ overwritten (bytes_of a) 60 (to_le_bytes w32 x) → x < 2 ^ 32 → x ≡ first → IsFileInProgress d first b own bytes
  unfolding seen_of
  first_told d m a b own bytes x made goes live leaves now small is =
      let told : first_mini_fat_sector (bytes_of b) ≡ x = number_now (bytes_of a) (bytes_of b) 60 x now small in
      subst (λ n. IsFileInProgress d n b own bytes) (told ∙ is) (made_word d m 60 a b own bytes made goes live (inr (omega arith)) leaves)

  -- how many sectors the mini FAT has, and then where it begins; the directory's number stays
  pub counts_told : (a m b : Allocator F g) (count : ℕ) → ChangesAtMost (sector (version_of a)) (64 ∷ []) [] (seen_of a) (seen_of m) → ChangesAtMost (sector (version_of m)) (60 ∷ []) [] (seen_of m) (seen_of b)
      → bytes_of m ≡ overwritten (bytes_of a) 64 (to_le_bytes w32 count) → count < 2 ^ 32 → (mini_fat_sector_count (bytes_of b) ≡ count) × (directory_sector_count (bytes_of b) ≡ directory_sector_count (bytes_of a))
  unfolding seen_of
  counts_told a m b count first second now small = (
    number_kept (bytes_of m) (bytes_of b) 64 (second.header 64 4 (omega arith) (inr (omega arith), (inr (omega arith), tt))) ∙ number_now (bytes_of a) (bytes_of m) 64 count now small,
    number_kept (bytes_of m) (bytes_of b) 40 (second.header 40 4 (omega arith) (inl (omega arith), (inl (omega arith), tt))) ∙ number_kept (bytes_of a) (bytes_of m) 40 (first.header 40 4 (omega arith) (inl (omega arith), (inl (omega arith), tt))),
  )
