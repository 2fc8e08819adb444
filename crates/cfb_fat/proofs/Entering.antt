-- An entry of the FAT is written in its place, and in memory.
use Rattle.std.proofs.Common.{◌≡◌, ℕ, ◌+◌, ◌*◌, ◌/◌, ◌%◌, ◌<◌, ◌≤◌, ◌^◌, ◌⊎◌, inl, inr, List, [], ◌∷◌, ◌++◌, length, take, get_or, ap, sym, subst, ◌∙◌, arith, ⊎_elim, length-append}
use Rattle.std.specs.Int.{w32, to_le_bytes}
use Rattle.std.proofs.Math.ListN.{set}
use Rattle.std.proofs.Math.Seq.{take-set-lt, get_or-append_right}
use Rattle.std.proofs.lemmas.List.{get_or-set_other, length-set}
use Rattle.cfb_medium.specs.Bytes.{overwritten}
use Rattle.cfb_medium.specs.Versions.{sector_len}
use Rattle.cfb_medium.specs.declared.version.Version.{Version}
use Rattle.cfb_medium.specs.declared.version.Version.TheVariants.{V3, V4}
use Rattle.cfb_sectors.specs.Sectors.{fat_in, filled_part, sector_start}
use Rattle.cfb_chains.specs.Changes.{AreDistinct, DifferOnlyAt, IsBeside}
use Rattle.cfb_fat.specs.Orderly.{named_at_most, AreBelow, AreTablesConsistent}
use Rattle.cfb_fat.proofs.FatEntries.{entries_stay, entry_fits, entry_written, per, split}
use Rattle.cfb_chains.proofs.Overwriting.{beside}

-- what stands once in both lists does so in the second
pub once_behind : (ds fs : List ℕ) → AreDistinct (ds ++ fs) → AreDistinct fs
once_behind ds fs once = λ k l k_below l_below same.
    let size = length-append ds fs in
    let at : (m : ℕ) → get_or (ds ++ fs) (length ds + m) 0 ≡ get_or fs m 0 =
    λ m. get_or-append_right ds fs (length ds + m) 0 (omega arith) ∙ ap (λ n. get_or fs n 0) (omega arith) in
    let sums = once (length ds + k) (length ds + l) (omega (arith, size)) (omega (arith, size)) (at k ∙ same ∙ sym (at l)) in
    omega (arith, sums)

-- the table in memory is that of the bytes also after the write
pub entered : (v w : Version) (b after fs ds fat : List ℕ) (count n index entry holder each : ℕ) → w ≡ v → n ≡ count → each ≡ per v → holder ≡ get_or fs (index / each) 0
    → after ≡ overwritten b (sector_start v holder + 4 * (index % each)) (to_le_bytes w32 entry) → AreDistinct (ds ++ fs) → index < length fat → length fat ≤ count → length fat ≤ length fs * per v
    → entry < 2 ^ 32 → fat ≡ take count (fat_in v b fs) → set fat index entry ≡ take n (fat_in w after fs)
entered v w b after fs ds fat count n index entry holder each same_version same_count is_each is_holder written once inside most whole small was =
    let parts = split v (length fs) index (omega (arith, inside, whole)) in
    let place : sector_start v holder + 4 * (index % each) ≡ sector_start v (get_or fs (index / per v) 0) + 4 * (index % per v) =
    ap (λ h. sector_start v h + 4 * (index % each)) is_holder ∙ ap (λ e. sector_start v (get_or fs (index / e) 0) + 4 * (index % e)) is_each in
    let now : fat_in v after fs ≡ set (fat_in v b fs) index entry =
    ap (λ a. fat_in v a fs) (written ∙ ap (λ p. overwritten b p (to_le_bytes w32 entry)) place)
    ∙ entry_written v b fs (index / per v) (index % per v) entry (once_behind ds fs once) parts.0 parts.1 small
    ∙ ap (λ m. set (fat_in v b fs) m entry) (sym parts.2) in
    ap (λ l. set l index entry) was ∙ sym (take-set-lt count (fat_in v b fs) index entry (omega (arith, inside, most)))
    ∙ ap (take count) (sym now) ∙ ap (λ m. take m (fat_in v after fs)) (sym same_count) ∙ ap (λ u. take n (fat_in u after fs)) (sym same_version)

pub differ_at : (fat : List ℕ) (index entry : ℕ) → DifferOnlyAt (index ∷ []) fat (set fat index entry)
differ_at fat index entry = record {
  size = length-set fat index entry;
  others = λ n none. get_or-set_other fat index n entry 0 (λ same. none 0 (omega arith) (sym same));
}

pub rest_below : (v : Version) (index : ℕ) → index % per v < per v
rest_below V3 index = omega arith
rest_below V4 index = omega arith

-- what lies beside the FAT's sectors is as it was
pub others_stay : (v : Version) (b after fs : List ℕ) (index entry holder each : ℕ) → each ≡ per v → holder ≡ get_or fs (index / each) 0 → index / each < length fs
    → after ≡ overwritten b (sector_start v holder + 4 * (index % each)) (to_le_bytes w32 entry)
    → (place count : ℕ) → IsBeside v fs place count → filled_part after place count ≡ filled_part b place count
others_stay v b after fs index entry holder each is_each is_holder below written place count apart =
    let offset : index % each < per v = subst (λ e. index % e < per v) (sym is_each) (rest_below v index) in
    let inside = entry_fits v (index % each) offset in
    let start = sector_start v holder + 4 * (index % each) in
    ap (λ a. filled_part a place count) written
    ∙ beside b (to_le_bytes w32 entry) start place count
    (⊎_elim (λ before. inr (omega (arith, before, is_holder, inside))) (λ behind. inl (omega (arith, behind, is_holder))) (subst (λ h. (sector_start v h + sector_len v ≤ place) ⊎ (place + count ≤ sector_start v h)) (sym is_holder) (apart (index / each) below)))

pub index_in : (v : Version) (fat fs : List ℕ) (index each : ℕ) → each ≡ per v → index < length fat → length fat ≤ length fs * per v → index / each < length fs
index_in v fat fs index each is inside whole = subst (λ e. index / e < length fs) (sym is) (split v (length fs) index (omega (arith, inside, whole))).0

-- only lengths matter for the order of the tables
pub order_stays : (v w : Version) (count n : ℕ) (fat changed fs ds : List ℕ) → w ≡ v → n ≡ count → length changed ≡ length fat → AreTablesConsistent v count fat fs ds → AreTablesConsistent w n changed fs ds
order_stays v w count n fat changed fs ds version same size h = record {
  once = h.once;
  covered = size ∙ h.covered ∙ sym same;
  some = omega (arith, same, h.some);
  there = subst (λ k. AreBelow k ds) (sym same) h.there;
  named = subst (λ u. length fs ≤ named_at_most u (length ds)) (sym version) h.named;
}

-- the table in memory is that of the bytes also after a write beside its sectors
pub still_same : (v w : Version) (b after fs fat bytes : List ℕ) (count n place : ℕ) → w ≡ v → n ≡ count → after ≡ overwritten b place bytes → IsBeside v fs place (length bytes)
    → fat ≡ take count (fat_in v b fs) → fat ≡ take n (fat_in w after fs)
still_same v w b after fs fat bytes count n place same_version same_count written apart was =
    was ∙ ap (take count) (sym (entries_stay v b fs bytes place apart) ∙ ap (λ a. fat_in v a fs) (sym written))
    ∙ ap (λ m. take m (fat_in v after fs)) (sym same_count) ∙ ap (λ u. take n (fat_in u after fs)) (sym same_version)
