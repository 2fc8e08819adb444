-- The FAT's entries, each in four bytes of one sector.
use Rattle.std.proofs.Common.{◌≡◌, ◌≢◌, ℕ, ◌+◌, ◌*◌, ◌/◌, ◌%◌, ◌<◌, ◌≤◌, ◌^◌, ◌⊎◌, inl, inr, List, length, take, drop, map, get_or, zero, suc, refl, ap, sym, subst, ◌∙◌, arith, ⊎_elim}
use Rattle.std.specs.Int.{w32, from_le_bytes, to_le_bytes}
use Rattle.std.proofs.Math.ListN.{set}
use Rattle.std.proofs.lemmas.Bool.Decides.{eqb_tells, leb_tells}
use Rattle.std.proofs.lemmas.List.{ext_get_or, drop-drop, length-set, get_or-set_same, get_or-set_other, length-map}
use Rattle.std.proofs.lemmas.Nat.{from_le_bytes-to_le_bytes_4}
use Rattle.cfb_medium.specs.Bytes.{overwritten}
use Rattle.cfb_medium.specs.Numbers.{pieces, all_pieces, numbers}
use Rattle.cfb_medium.specs.Versions.{sector_len}
use Rattle.cfb_medium.specs.declared.version.Version.{Version}
use Rattle.cfb_medium.specs.declared.version.Version.TheVariants.{V3, V4}
use Rattle.cfb_medium.proofs.Pieces.{length-pieces}
use Rattle.cfb_sectors.specs.Sectors.{fat_in, filled_part, joined, sector_start}
use Rattle.cfb_chains.proofs.ChainParts.{chain_part}
use Rattle.cfb_chains.proofs.ChainWriting.{length-joined}
use Rattle.cfb_chains.proofs.Overwriting.{beside, written}

-- so many entries has a sector
abbrev pub per : Version → ℕ
per v = sector_len v / 4

number_at : (k m : ℕ) (bytes : List ℕ) → m < k → get_or (map (from_le_bytes w32) (pieces 4 k bytes)) m 0 ≡ from_le_bytes w32 (take 4 (drop (m * 4) bytes))
unfolding pieces
number_at zero m bytes below = absurd (omega arith)
number_at (suc k) zero bytes below = refl
number_at (suc k) (suc m) bytes below =
    number_at k m (drop 4 bytes) (omega arith) ∙ ap (λ l. from_le_bytes w32 (take 4 l)) (drop-drop (m * 4) 4 bytes ∙ ap (λ n. drop n bytes) (omega arith))

pub get_number : (bytes : List ℕ) (m : ℕ) → m < length bytes / 4 → get_or (numbers bytes) m 0 ≡ from_le_bytes w32 (take 4 (drop (m * 4) bytes))
unfolding numbers all_pieces
get_number bytes m below = number_at (length bytes / 4) m bytes below

pub length-numbers : (bytes : List ℕ) → length (numbers bytes) ≡ length bytes / 4
unfolding numbers all_pieces
length-numbers bytes = length-map (pieces 4 (length bytes / 4) bytes) (from_le_bytes w32) ∙ length-pieces 4 (length bytes / 4) bytes

pub quarter : (v : Version) (n : ℕ) → n * sector_len v / 4 ≡ n * per v
quarter V3 n = omega arith
quarter V4 n = omega arith

pub length-fat_in : (v : Version) (b fs : List ℕ) → length (fat_in v b fs) ≡ length fs * per v
length-fat_in v b fs = length-numbers (joined v b fs) ∙ ap (λ n. n / 4) (length-joined v b fs) ∙ quarter v (length fs)

-- where the entry j of a sector stands
abbrev pub entry_place : Version → ℕ → ℕ → ℕ
entry_place v n j = sector_start v n + 4 * j

pub entry_fits : (v : Version) (j : ℕ) → j < per v → 4 * j + 4 ≤ sector_len v
entry_fits V3 j below = omega arith
entry_fits V4 j below = omega arith

index_fits : (v : Version) (n i j : ℕ) → i < n → j < per v → i * per v + j < n * per v
index_fits V3 n i j inside below = omega arith
index_fits V4 n i j inside below = omega arith

moved : (v : Version) (i j : ℕ) → (i * per v + j) * 4 ≡ i * sector_len v + 4 * j
moved V3 i j = omega arith
moved V4 i j = omega arith

pub entry_is : (v : Version) (b fs : List ℕ) (i j : ℕ) → i < length fs → j < per v
    → get_or (fat_in v b fs) (i * per v + j) 0 ≡ from_le_bytes w32 (filled_part b (entry_place v (get_or fs i 0) j) 4)
entry_is v b fs i j inside below =
    let m = i * per v + j in
    let most : m < length (joined v b fs) / 4 = subst (λ n. m < n) (sym (length-fat_in v b fs) ∙ length-numbers (joined v b fs)) (index_fits v (length fs) i j inside below) in
    get_number (joined v b fs) m most
    ∙ ap (λ n. from_le_bytes w32 (take 4 (drop n (joined v b fs)))) (moved v i j)
    ∙ ap (from_le_bytes w32) (sym (chain_part v b fs i (4 * j) 4 inside (entry_fits v j below)))

-- each entry has its sector and its place there
pub split : (v : Version) (n m : ℕ) → m < n * per v → (m / per v < n) × (m % per v < per v) × (m ≡ m / per v * per v + m % per v)
split V3 n m below = (omega (arith, below), omega arith, omega arith)
split V4 n m below = (omega (arith, below), omega arith, omega arith)

-- two entries stand apart
entries_apart : (v : Version) (a b i j : ℕ) → (a ≡ b → i ≢ j) → i < per v → j < per v → (entry_place v a i + 4 ≤ entry_place v b j) ⊎ (entry_place v b j + 4 ≤ entry_place v a i)
entries_apart V3 a b i j other i_below j_below = ⊎_elim
    (λ same. ⊎_elim (λ e. absurd (other same.1 e.1)) (λ e. ⊎_elim (λ le. inl (omega (arith, le.1, same.1, e.1))) (λ gt. inr (omega (arith, gt.1, same.1))) (leb_tells i j)) (eqb_tells i j))
    (λ differ. ⊎_elim (λ le. inl (omega (arith, le.1, differ.1))) (λ gt. inr (omega (arith, gt.1))) (leb_tells a b))
    (eqb_tells a b)
entries_apart V4 a b i j other i_below j_below = ⊎_elim
    (λ same. ⊎_elim (λ e. absurd (other same.1 e.1)) (λ e. ⊎_elim (λ le. inl (omega (arith, le.1, same.1, e.1))) (λ gt. inr (omega (arith, gt.1, same.1))) (leb_tells i j)) (eqb_tells i j))
    (λ differ. ⊎_elim (λ le. inl (omega (arith, le.1, differ.1))) (λ gt. inr (omega (arith, gt.1))) (leb_tells a b))
    (eqb_tells a b)

-- one entry is written: the FAT has it in its place, where no sector of it stands twice
pub entry_written : (v : Version) (b fs : List ℕ) (i j value : ℕ) → ((k l : ℕ) → k < length fs → l < length fs → get_or fs k 0 ≡ get_or fs l 0 → k ≡ l)
    → i < length fs → j < per v → value < 2 ^ 32
    → fat_in v (overwritten b (entry_place v (get_or fs i 0) j) (to_le_bytes w32 value)) fs ≡ set (fat_in v b fs) (i * per v + j) value
entry_written v b fs i j value once inside below small =
    let bytes = to_le_bytes w32 value in
    let place = entry_place v (get_or fs i 0) j in
    let after = overwritten b place bytes in
    let n = i * per v + j in
    let size = length-fat_in v after fs in
    ext_get_or 0 _ _ (size ∙ sym (length-fat_in v b fs) ∙ sym (length-set (fat_in v b fs) n value)) (λ m most.
    let parts = split v (length fs) m (subst (λ k. m < k) size most) in
    let i' = m / per v in
    let j' = m % per v in
    let id = get_or fs i' 0 in
    let new : get_or (fat_in v after fs) m 0 ≡ from_le_bytes w32 (filled_part after (entry_place v id j') 4) =
    ap (λ k. get_or (fat_in v after fs) k 0) parts.2 ∙ entry_is v after fs i' j' parts.0 parts.1 in
    let old : get_or (fat_in v b fs) m 0 ≡ from_le_bytes w32 (filled_part b (entry_place v id j') 4) =
    ap (λ k. get_or (fat_in v b fs) k 0) parts.2 ∙ entry_is v b fs i' j' parts.0 parts.1 in
    ⊎_elim
    (λ here. ap (λ k. get_or (fat_in v after fs) k 0) here.1 ∙ entry_is v after fs i j inside below
    ∙ ap (from_le_bytes w32) (written b bytes place) ∙ from_le_bytes-to_le_bytes_4 value small
    ∙ sym (ap (λ k. get_or (set (fat_in v b fs) n value) k 0) here.1 ∙ get_or-set_same (fat_in v b fs) n value 0 (subst (λ k. n < k) (sym (length-fat_in v b fs)) (index_fits v (length fs) i j inside below))))
    (λ elsewhere. new
    ∙ ap (from_le_bytes w32) (beside b bytes place (entry_place v id j') 4
    (entries_apart v id (get_or fs i 0) j' j (λ same equal. elsewhere.1 (parts.2 ∙ ap (λ k. k * per v + j') (once i' i parts.0 inside same) ∙ ap (λ k. i * per v + k) equal)) parts.1 below))
    ∙ sym old ∙ sym (get_or-set_other (fat_in v b fs) n m value 0 elsewhere.1))
    (eqb_tells m n))

-- something else is written: the FAT stays
pub entries_stay : (v : Version) (b fs xs : List ℕ) (at : ℕ)
    → ((k : ℕ) → k < length fs → (sector_start v (get_or fs k 0) + sector_len v ≤ at) ⊎ (at + length xs ≤ sector_start v (get_or fs k 0)))
    → fat_in v (overwritten b at xs) fs ≡ fat_in v b fs
entries_stay v b fs xs at apart = ext_get_or 0 _ _ (length-fat_in v (overwritten b at xs) fs ∙ sym (length-fat_in v b fs)) (λ m most.
    let parts = split v (length fs) m (subst (λ k. m < k) (length-fat_in v (overwritten b at xs) fs) most) in
    let i = m / per v in
    let j = m % per v in
    let id = get_or fs i 0 in
    let room = entry_fits v j parts.1 in
    ap (λ k. get_or (fat_in v (overwritten b at xs) fs) k 0) parts.2 ∙ entry_is v (overwritten b at xs) fs i j parts.0 parts.1
    ∙ ap (from_le_bytes w32) (beside b xs at (entry_place v id j) 4
    (⊎_elim (λ before. inl (omega (arith, before, room))) (λ behind. inr (omega (arith, behind))) (apart i parts.0)))
    ∙ sym (ap (λ k. get_or (fat_in v b fs) k 0) parts.2 ∙ entry_is v b fs i j parts.0 parts.1))
