-- What the calls of an allocator leave, in the one relation for every change.
use Rattle.std.proofs.Common.{◌≡◌, ℕ, ◌+◌, ◌<◌, ◌≤◌, ◌⊎◌, inl, inr, false, List, [], ◌∷◌, ◌++◌, length, get_or, ap, sym, subst, ◌∙◌, arith, ⊎_elim, IsTrue}
use Rattle.cfb_medium.specs.Versions.{sector_len}
use Rattle.cfb_medium.specs.declared.medium.ReadMedium.{Ghosts}
use Rattle.cfb_medium.specs.declared.version.Version.{Version}
use Rattle.cfb_medium.specs.declared.version.Version.TheVariants.{V3, V4}
use Rattle.cfb_sectors.specs.Held.{count_of}
use Rattle.cfb_sectors.specs.Sectors.{filled_part, sector, sector_start}
use Rattle.cfb_chains.specs.Changes.{IsBeside, IsNotIn}
use Rattle.cfb_chains.specs.Owned.{ChangesAtMost}
use Rattle.cfb_chains.proofs.Beside.{none_both, none_first, none_second}
use Rattle.cfb_chains.proofs.Overwriting.{beside}
use Rattle.cfb_chains.proofs.Staying.{apart}
use Rattle.cfb_fat.specs.declared.allocator.Allocator.{Allocator}
use Rattle.cfb_fat.specs.Changing.{ChangesFat, MayWrite, WritesBeside}
use Rattle.cfb_fat.specs.Growing.{AllocatesSectors}
use Rattle.cfb_fat.specs.HeaderWords.{word_place}
use Rattle.cfb_fat.specs.declared.header.HeaderWord.{HeaderWord}
use Rattle.cfb_fat.specs.declared.header.HeaderWord.TheVariants.{DirectorySectors, FirstDirectorySector, FirstMiniFatSector, MiniFatSectors}
use Rattle.cfb_fat.specs.Keeping.{tables_same}
use Rattle.cfb_fat.specs.Seeing.{seen_of}
use Rattle.cfb_fat.specs.Tables.{bytes_of, difat_sectors_of, fat_of, fat_sectors_of, has_failed_here, is_honest, sectors_of, tables_of, version_of}
use Rattle.cfb_fat.proofs.Appended.{whole_before}
use Rattle.cfb_fat.proofs.ListedStays.{behind_header, longer_over}

-- a part of the header lies before each sector
header_aside : (v : Version) (sectors : List ℕ) (place count : ℕ) → place + count ≤ 68 → IsBeside v sectors place count
header_aside v sectors place count front k below = inr (let far = behind_header v (get_or sectors k 0) in omega (arith, front, far))

-- what is beside a list of sectors with a whole one is beside that
pub none_there : (v : Version) (sectors : List ℕ) (n : ℕ) → IsBeside v sectors (sector_start v n) (sector_len v) → IsNotIn sectors n
none_there V3 sectors n aside k below same = ⊎_elim (λ before. omega (arith, before, same)) (λ behind. omega (arith, behind, same)) (aside k below)
none_there V4 sectors n aside k below same = ⊎_elim (λ before. omega (arith, before, same)) (λ behind. omega (arith, behind, same)) (aside k below)

-- a number of the header that layers above may change is none of the tables'
pub beside_words : (word : HeaderWord) → (word_place word + 4 ≤ 44) ⊎ ((48 ≤ word_place word) × (word_place word + 4 ≤ 68))
beside_words DirectorySectors = inl (omega arith)
beside_words FirstDirectorySector = inr (omega arith, omega arith)
beside_words FirstMiniFatSector = inr (omega arith, omega arith)
beside_words MiniFatSectors = inr (omega arith, omega arith)

module _ {F : Type 0} {g : Ghosts F} where
  pub takes_leave : (taken entries : List ℕ) (a b : Allocator F g) → AllocatesSectors taken entries a b → has_failed_here b ≡ false → IsTrue (is_honest a) → ChangesAtMost (sector (version_of a)) [] (taken ++ entries) (seen_of a) (seen_of b)
  unfolding seen_of
  takes_leave taken entries a b h live honest =
      let v = version_of a in
      let inside = a.inside (h.grows.live live) in
      let ends : (n : ℕ) → n < length (fat_of a) → sector_start v n + sector_len v ≤ sector_start v (count_of (sectors_of a)) = λ n below. whole_before v n (count_of (sectors_of a)) (omega (arith, below, inside)) in
      record {
        longer = h.grows.longer live honest;
        size = (h.grows.fat live).size;
        entries = λ n below none. (h.grows.fat live).others n below (none_second taken entries n none);
        sectors = λ n below loose none. h.grows.beside live honest (sector_start v n) (sector_len v) (ends n below) (apart v (tables_of a) n loose) (inr (inr (behind_header v n))) (apart v taken n (none_first taken entries n none));
        apart = λ n below loose. none_there v (tables_of b) n (h.grows.tables live (sector_start v n) (sector_len v) (ends n below) (apart v (tables_of a) n loose));
        still = λ n loose. let was = h.grows.still live n in
            none_both (difat_sectors_of a) (fat_sectors_of a) n (was.0 (none_first (difat_sectors_of b) (fat_sectors_of b) n loose)) (was.1 (none_second (difat_sectors_of b) (fat_sectors_of b) n loose));
        behind = λ n past below none. ⊎_elim
            (λ told. ((λ loose. told.0 (none_first (difat_sectors_of b) (fat_sectors_of b) n loose)), (λ freed. omega (arith, told.1, freed))))
            (λ told. ((λ loose. told.0 (none_second (difat_sectors_of b) (fat_sectors_of b) n loose)), (λ freed. omega (arith, told.1, freed))))
            (h.behind live n past below (none_first taken entries n none) (none_second taken entries n none));
        header = λ place count front words.
            let far = behind_header v (count_of (sectors_of a)) in
            h.grows.beside live honest place count (omega (arith, front, far)) (header_aside v (tables_of a) place count front)
            (⊎_elim (λ before. inl before) (λ after. inr (inl (omega (arith, after), front))) words.0) (header_aside v taken place count front);
      }

  pub changes_leave : (entries : List ℕ) (a b : Allocator F g) → ChangesFat entries a b → has_failed_here b ≡ false → IsTrue (is_honest a) → ChangesAtMost (sector (version_of a)) [] entries (seen_of a) (seen_of b)
  unfolding seen_of
  changes_leave entries a b h live honest =
      let v = version_of a in
      let same = tables_same a b h.difat_sectors h.fat_sectors in
      let size = (h.fat live).size in
      record {
        longer = h.longer live honest;
        size = omega (arith, size);
        entries = λ n below none. (h.fat live).others n none;
        sectors = λ n below loose none. h.beside live honest (sector_start v n) (sector_len v) (apart v (fat_sectors_of a) n (none_second (difat_sectors_of a) (fat_sectors_of a) n loose));
        apart = λ n below loose. subst (λ l. IsNotIn l n) (sym same) loose;
        still = λ n loose. subst (λ l. IsNotIn l n) same loose;
        behind = λ n past below none. absurd (omega (arith, size, past, below));
        header = λ place count front words. h.beside live honest place count (header_aside v (fat_sectors_of a) place count front);
      }

  -- a write in one sector
  pub writes_leave : (n offset : ℕ) (xs : List ℕ) (a b : Allocator F g) → offset + length xs ≤ sector_len (version_of a) → WritesBeside (sector_start (version_of a) n + offset) xs a b → has_failed_here b ≡ false → IsTrue (is_honest a)
      → ChangesAtMost (sector (version_of a)) [] (n ∷ []) (seen_of a) (seen_of b)
  unfolding seen_of
  writes_leave n offset xs a b fits h live honest =
      let v = version_of a in
      let same = tables_same a b h.difat_sectors h.fat_sectors in
      let size = ap length h.fat in
      let bytes = h.sectors.0.bytes live honest in
      record {
        longer = longer_over (bytes_of a) (bytes_of b) xs (sector_start v n + offset) bytes;
        size = omega (arith, size);
        entries = λ m below none. ap (λ l. get_or l m 0) h.fat;
        sectors = λ m below loose none.
            ap (λ l. filled_part l (sector_start v m) (sector_len v)) bytes
            ∙ beside (bytes_of a) xs (sector_start v n + offset) (sector_start v m) (sector_len v)
            (⊎_elim (λ before. inr (omega (arith, before, fits))) (λ after. inl (omega (arith, after))) (apart v (n ∷ []) m none 0 (omega arith)));
        apart = λ m below loose. subst (λ l. IsNotIn l m) (sym same) loose;
        still = λ m loose. subst (λ l. IsNotIn l m) same loose;
        behind = λ m past below none. absurd (omega (arith, size, past, below));
        header = λ place count front words.
            let far = behind_header v n in
            ap (λ l. filled_part l place count) bytes ∙ beside (bytes_of a) xs (sector_start v n + offset) place count (inl (omega (arith, front, far)));
      }

  -- a number of the header that is none of the tables'
  pub word_leave : (place : ℕ) (xs : List ℕ) (a b : Allocator F g) → length xs ≡ 4 → place + 4 ≤ 68 → WritesBeside place xs a b → has_failed_here b ≡ false → IsTrue (is_honest a) → ChangesAtMost (sector (version_of a)) (place ∷ []) [] (seen_of a) (seen_of b)
  unfolding seen_of
  word_leave place xs a b four front h live honest =
      let same = tables_same a b h.difat_sectors h.fat_sectors in
      let size = ap length h.fat in
      let bytes = h.sectors.0.bytes live honest in
      record {
        longer = longer_over (bytes_of a) (bytes_of b) xs place bytes;
        size = omega (arith, size);
        entries = λ m below none. ap (λ l. get_or l m 0) h.fat;
        sectors = λ m below loose none.
            let far = behind_header (version_of a) m in
            ap (λ l. filled_part l (sector_start (version_of a) m) (sector_len (version_of a))) bytes ∙ beside (bytes_of a) xs place (sector_start (version_of a) m) (sector_len (version_of a)) (inr (omega (arith, four, front, far)));
        apart = λ m below loose. subst (λ l. IsNotIn l m) (sym same) loose;
        still = λ m loose. subst (λ l. IsNotIn l m) same loose;
        behind = λ m past below none. absurd (omega (arith, size, past, below));
        header = λ p count inside words.
            ap (λ l. filled_part l p count) bytes ∙ beside (bytes_of a) xs place p count (⊎_elim (λ before. inl before) (λ after. inr (omega (arith, after, four))) words.1.0);
      }

  -- it may be written
  pub word_writable : (it : Allocator F g) (place : ℕ) → (place + 4 ≤ 44) ⊎ ((48 ≤ place) × (place + 4 ≤ 68)) → MayWrite it place 4
  word_writable it place at =
      let front : place + 4 ≤ 68 = ⊎_elim (λ before. omega (arith, before)) (λ after. after.1) at in
      let far = behind_header (version_of it) (count_of (sectors_of it)) in
      record {
        ends = omega (arith, front, far);
        fat = header_aside (version_of it) (fat_sectors_of it) place 4 front;
        difat = header_aside (version_of it) (difat_sectors_of it) place 4 front;
        words = ⊎_elim (λ before. inl before) (λ after. inr (inl after)) at;
      }
