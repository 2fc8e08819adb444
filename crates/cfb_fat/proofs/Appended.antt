-- A sector is appended with an entry in the FAT's next place.
use Rattle.std.proofs.Common.{◌≡◌, ℕ, ◌+◌, ◌*◌, ◌/◌, ◌%◌, ◌<◌, ◌≤◌, ◌^◌, List, [], ◌∷◌, ◌++◌, length, take, get_or, zero, suc, refl, ap, sym, ◌∙◌, arith}
use Rattle.std.specs.Int.{w32, to_le_bytes}
use Rattle.std.proofs.Math.ListN.{set}
use Rattle.std.proofs.lemmas.List.{get_or-set_same, length-set}
use Rattle.cfb_medium.specs.Bytes.{overwritten}
use Rattle.cfb_medium.specs.Versions.{sector_len}
use Rattle.cfb_medium.specs.declared.version.Version.{Version}
use Rattle.cfb_medium.specs.declared.version.Version.TheVariants.{V3, V4}
use Rattle.cfb_sectors.specs.Sectors.{fat_in, filled_part, sector, sector_start, sectors_in}
use Rattle.cfb_fat.specs.Listed.{Lists}
use Rattle.cfb_chains.specs.Changes.{AreDistinct, IsNotIn}
use Rattle.cfb_fat.specs.Orderly.{AreBelow}
use Rattle.cfb_fat.proofs.Entering.{once_behind}
use Rattle.cfb_fat.proofs.FatEntries.{entry_written, length-fat_in, per, split}
use Rattle.cfb_fat.proofs.Growth.{fat_same}
use Rattle.cfb_fat.proofs.Joining.{take_more}
use Rattle.cfb_fat.proofs.ListedStays.{behind_header, listed_kept}

take_set : (xs : List ℕ) (k x : ℕ) → take k (set xs k x) ≡ take k xs
take_set [] zero x = refl
take_set [] (suc k) x = refl
take_set (y ∷ xs) zero x = refl
take_set (y ∷ xs) (suc k) x = ap (λ l. y ∷ l) (take_set xs k x)

take_set_end : (xs : List ℕ) (k x : ℕ) → k < length xs → take (k + 1) (set xs k x) ≡ take k xs ++ x ∷ []
take_set_end xs k x below =
    take_more (set xs k x) k (let size = length-set xs k x in omega (arith, size, below)) ∙ ap (λ l. l ++ get_or (set xs k x) k 0 ∷ []) (take_set xs k x) ∙ ap (λ y. take k xs ++ y ∷ []) (get_or-set_same xs k x 0 below)

-- the table in memory is that of the bytes
pub entry_added : (v : Version) (old mid new fs ds fat : List ℕ) (count index entry holder each : ℕ) → each ≡ per v → holder ≡ get_or fs (index / each) 0 → new ≡ overwritten mid (sector_start v holder + 4 * (index % each)) (to_le_bytes w32 entry)
    → AreDistinct (ds ++ fs) → ((k : ℕ) → k < length fs → sector v mid (get_or fs k 0) ≡ sector v old (get_or fs k 0)) → index ≡ count → index < length fs * per v → entry < 2 ^ 32 → fat ≡ take count (fat_in v old fs)
    → fat ++ entry ∷ [] ≡ take (count + 1) (fat_in v new fs)
entry_added v old mid new fs ds fat count index entry holder each is_each is_holder written once same at below small was =
    let parts = split v (length fs) index below in
    let place : sector_start v holder + 4 * (index % each) ≡ sector_start v (get_or fs (index / per v) 0) + 4 * (index % per v) =
    ap (λ h. sector_start v h + 4 * (index % each)) is_holder ∙ ap (λ e. sector_start v (get_or fs (index / e) 0) + 4 * (index % e)) is_each in
    let now : fat_in v new fs ≡ set (fat_in v old fs) index entry =
    ap (λ a. fat_in v a fs) (written ∙ ap (λ p. overwritten mid p (to_le_bytes w32 entry)) place)
    ∙ entry_written v mid fs (index / per v) (index % per v) entry (once_behind ds fs once) parts.0 parts.1 small
    ∙ ap (λ m. set (fat_in v mid fs) m entry) (sym parts.2) ∙ ap (λ l. set l index entry) (fat_same v old mid fs same) in
    let size = length-fat_in v old fs in
    ap (λ l. l ++ entry ∷ []) was ∙ ap (λ k. take k (fat_in v old fs) ++ entry ∷ []) (sym at)
    ∙ sym (take_set_end (fat_in v old fs) index entry (omega (arith, size, below))) ∙ ap (take (index + 1)) (sym now) ∙ ap (λ k. take (k + 1) (fat_in v new fs)) at

pub whole_before : (v : Version) (n count : ℕ) → n < count → sector_start v n + sector_len v ≤ sector_start v count
whole_before V3 n count less = omega arith
whole_before V4 n count less = omega arith

-- what header and DIFAT list stays where all before the end does
pub listed_before_end : (v : Version) (old new ds fs : List ℕ) (count : ℕ) → 512 ≤ length old → 512 ≤ length new → sectors_in v (length old) ≤ sectors_in v (length new) → AreBelow count ds
    → ((p n : ℕ) → p + n ≤ sector_start v count → filled_part new p n ≡ filled_part old p n) → Lists v old ds fs → Lists v new ds fs
listed_before_end v old new ds fs count in_old in_new more below kept =
    let far = behind_header v count in
    listed_kept v old new ds fs in_old in_new more (kept 68 4 (omega (arith, far))) (kept 76 436 (omega (arith, far)))
    (λ k inside. kept (sector_start v (get_or ds k 0)) (sector_len v) (whole_before v (get_or ds k 0) count (below k inside)))

pub none_behind : (count : ℕ) (xs : List ℕ) → AreBelow count xs → IsNotIn xs count
none_behind count xs below k inside same = let less = below k inside in omega (arith, less, same)
