-- The FAT with a sector more, and what growing calls do one after the other.
use Rattle.std.proofs.Common.{◌≡◌, ◌≢◌, ℕ, true, false, ◌+◌, ◌-◌, ◌*◌, ◌/◌, ◌<◌, ◌≤◌, ◌⊎◌, inr, List, [], ◌∷◌, ◌++◌, length, take, drop, map, replicate, get_or, zero, suc, refl, ap, sym, subst, ◌∙◌, arith, ⊎_elim, length-append, length-drop}
use Rattle.std.specs.Int.{w32, from_le_bytes}
use Rattle.std.proofs.Math.Seq.{get_or-append_right, take-append-add}
use Rattle.std.proofs.lemmas.Bool.Decides.{eqb_tells, leb_tells}
use Rattle.std.specs.Prelude.{nat_eq}
use Rattle.std.specs.List.{list_any}
use Rattle.std.proofs.lemmas.Grind.{common_steps, flat_map-append}
use Rattle.std.proofs.lemmas.Map.Keys.{IsDistinct-from_apart}
use Rattle.std.proofs.lemmas.Map.Steps.{length-le_from_distinct_below}
use Rattle.std.proofs.lemmas.List.{get_or_default, map-append, take-replicate, append-nil, drop-append-le, get_or_append_left, take-append-le, take_all}
use Rattle.cfb_medium.specs.Numbers.{pieces, all_pieces, numbers}
use Rattle.cfb_medium.specs.Versions.{sector_len}
use Rattle.cfb_medium.specs.declared.version.Version.{Version}
use Rattle.cfb_medium.specs.declared.version.Version.TheVariants.{V3, V4}
use Rattle.cfb_sectors.specs.Initial.{initial}
use Rattle.cfb_sectors.specs.Sectors.{fat_in, filled_part, free, joined, sector, sector_start}
use Rattle.cfb_sectors.specs.declared.initial.SectorInit.TheVariants.{Fat}
use Rattle.cfb_chains.specs.Changes.{SameExceptAt}
use Rattle.cfb_chains.specs.Changes.{AreDistinct, IsBeside}
use Rattle.cfb_fat.specs.Orderly.{AreBelow, IsBesideWords}
use Rattle.cfb_chains.proofs.ChainWriting.{length-joined}
use Rattle.cfb_fat.proofs.FatEntries.{per}
use Rattle.cfb_fat.proofs.Fresh.{fat_content, length-initial, whole}
use Rattle.cfb_fat.proofs.ListedStays.{behind_header, none_of_difat}
use Rattle.cfb_chains.proofs.Staying.{apart}

pieces_append : (k n : ℕ) (xs ys : List ℕ) → length xs ≡ 4 * k → pieces 4 (k + n) (xs ++ ys) ≡ pieces 4 k xs ++ pieces 4 n ys
unfolding pieces
pieces_append zero n [] ys size = let none : 0 + n ≡ n = omega arith in ap (λ m. pieces 4 m ys) none
pieces_append zero n (x ∷ xs) ys size = absurd (omega (arith, size))
pieces_append (suc k) n xs ys size =
    let room : 4 ≤ length xs = omega (arith, size) in
    let rest : length (drop 4 xs) ≡ 4 * k = let dropped = length-drop 4 xs in omega (arith, size, dropped) in
    let sum : suc k + n ≡ suc (k + n) = omega arith in
    ap (λ m. pieces 4 m (xs ++ ys)) sum ∙ ap (λ p. p ∷ pieces 4 (k + n) (drop 4 (xs ++ ys))) (take-append-le 4 xs ys room) ∙ ap (λ l. take 4 xs ∷ pieces 4 (k + n) l) (drop-append-le 4 xs ys room)
    ∙ ap (λ l. take 4 xs ∷ l) (pieces_append k n (drop 4 xs) ys rest)

pub numbers_append : (k n : ℕ) (xs ys : List ℕ) → length xs ≡ 4 * k → length ys ≡ 4 * n → numbers (xs ++ ys) ≡ numbers xs ++ numbers ys
unfolding numbers all_pieces
numbers_append k n xs ys size more =
    let sum = length-append xs ys in
    let all : length (xs ++ ys) / 4 ≡ k + n = omega (arith, sum, size, more) in
    let first : length xs / 4 ≡ k = omega (arith, size) in
    let second : length ys / 4 ≡ n = omega (arith, more) in
    ap (λ m. map (from_le_bytes w32) (pieces 4 m (xs ++ ys))) all ∙ ap (map (from_le_bytes w32)) (pieces_append k n xs ys size) ∙ map-append (from_le_bytes w32) (pieces 4 k xs) (pieces 4 n ys)
    ∙ ap (λ m. map (from_le_bytes w32) (pieces 4 m xs) ++ map (from_le_bytes w32) (pieces 4 n ys)) (sym first) ∙ ap (λ m. map (from_le_bytes w32) (pieces 4 (length xs / 4) xs) ++ map (from_le_bytes w32) (pieces 4 m ys)) (sym second)

in_fours : (v : Version) (n : ℕ) → n * sector_len v ≡ 4 * (n * per v)
in_fours V3 n = omega arith
in_fours V4 n = omega arith

joined_same : (v : Version) (old new ids : List ℕ) → ((k : ℕ) → k < length ids → sector v new (get_or ids k 0) ≡ sector v old (get_or ids k 0)) → joined v new ids ≡ joined v old ids
joined_same v old new [] same = refl
joined_same v old new (x ∷ ids) same =
    let first : sector v new x ≡ sector v old x = same 0 (omega arith) in
    ap (λ l. l ++ joined v new ids) first ∙ ap (λ l. sector v old x ++ l) (joined_same v old new ids (λ k below. same (suc k) (omega arith)))

-- a sector of "free" entries more
pub fat_longer : (v : Version) (old new fs : List ℕ) (n : ℕ) → ((k : ℕ) → k < length fs → sector v new (get_or fs k 0) ≡ sector v old (get_or fs k 0)) → sector v new n ≡ initial Fat (sector_len v)
    → fat_in v new (fs ++ n ∷ []) ≡ fat_in v old fs ++ replicate (per v) free
fat_longer v old new fs n same content =
    ap numbers (flat_map-append (sector v new) fs (n ∷ [])) ∙ ap (λ l. numbers (joined v new fs ++ l)) (append-nil (sector v new n) ∙ content)
    ∙ ap (λ l. numbers (l ++ initial Fat (sector_len v))) (joined_same v old new fs same)
    ∙ numbers_append (length fs * per v) (per v) (joined v old fs) (initial Fat (sector_len v)) (length-joined v old fs ∙ in_fours v (length fs)) (length-initial Fat v ∙ sym (whole v))
    ∙ ap (λ l. fat_in v old fs ++ l) (fat_content v)

-- the sectors of the FAT stay where what is beside the DIFAT does
pub fat_sectors_stay : (v : Version) (old new ds fs : List ℕ) (count : ℕ) → AreDistinct (ds ++ fs) → AreBelow count fs
    → ((p n : ℕ) → p + n ≤ sector_start v count → IsBeside v ds p n × IsBesideWords p n → filled_part new p n ≡ filled_part old p n) → (k : ℕ) → k < length fs → sector v new (get_or fs k 0) ≡ sector v old (get_or fs k 0)
fat_sectors_stay v old new ds fs count once below kept k inside =
    let id = get_or fs k 0 in
    let aside : IsBeside v ds (sector_start v id) (sector_len v) = apart v ds id (none_of_difat ds fs k id once inside refl) in
    let far = behind_header v id in
    kept (sector_start v id) (sector_len v) (whole_before v id count (below k inside)) (aside, inr (inr far))
  where
    whole_before : (v : Version) (n count : ℕ) → n < count → sector_start v n + sector_len v ≤ sector_start v count
    whole_before V3 n count less = omega arith
    whole_before V4 n count less = omega arith

-- "free" entries for new sectors
pub fat_covers : (fat all : List ℕ) (count each n more last : ℕ) → fat ≡ take count all → length all ≡ count → n ≡ count + more → more ≤ each → fat ++ replicate more free ≡ take n (all ++ replicate each free)
fat_covers fat all count each n more last is size sum fits =
    ap (λ l. l ++ replicate more free) (is ∙ take_all count all (omega (arith, size)))
    ∙ ap (λ l. all ++ l) (sym (take-replicate more each free fits)) ∙ sym (take-append-add all (replicate each free) more) ∙ ap (λ m. take m (all ++ replicate each free)) (let sums : length all + more ≡ n = omega (arith, size, sum) in sums)

-- a number that is none so far
pub once_more : (xs : List ℕ) (n : ℕ) → AreDistinct xs → AreBelow n xs → AreDistinct (xs ++ n ∷ [])
once_more xs n once below k l k_below l_below same =
    let size = length-append xs (n ∷ []) in
    ⊎_elim
    (λ k_last. ⊎_elim (λ l_last. omega (arith, size, k_below, l_below, k_last.1, l_last.1))
    (λ l_front. absurd (let less = below l l_front.1 in
    let value = sym (at_front l l_front.1) ∙ sym same ∙ at_last k k_last.1 k_below in omega (arith, less, value)))
    (leb_tells (length xs) l))
    (λ k_front. ⊎_elim (λ l_last. absurd (let less = below k k_front.1 in
    let value = sym (at_front k k_front.1) ∙ same ∙ at_last l l_last.1 l_below in omega (arith, less, value)))
    (λ l_front. once k l k_front.1 l_front.1 (sym (at_front k k_front.1) ∙ same ∙ at_front l l_front.1))
    (leb_tells (length xs) l))
    (leb_tells (length xs) k)
  where
    at_front : (m : ℕ) → m < length xs → get_or (xs ++ n ∷ []) m 0 ≡ get_or xs m 0
    at_front m less = get_or_append_left xs (n ∷ []) 0 m less

    at_last : (m : ℕ) → length xs ≤ m → m < length (xs ++ n ∷ []) → get_or (xs ++ n ∷ []) m 0 ≡ n
    at_last m past less =
        let size = length-append xs (n ∷ []) in
        let zero_left : m - length xs ≡ 0 = omega (arith, size, past, less) in
        get_or-append_right xs (n ∷ []) m 0 past ∙ ap (λ i. get_or (n ∷ []) i 0) zero_left

pub below_both : (n : ℕ) (xs ys : List ℕ) → AreBelow n xs → AreBelow n ys → AreBelow n (xs ++ ys)
below_both n xs ys first second k inside =
    let size = length-append xs ys in
    ⊎_elim (λ past. subst (λ m. m < n) (sym (get_or-append_right xs ys k 0 past.1)) (second (k - length xs) (omega (arith, size, inside, past.1))))
    (λ front. subst (λ m. m < n) (sym (get_or_append_left xs ys 0 k front.1)) (first k front.1))
    (leb_tells (length xs) k)

pub below_more : (n m : ℕ) (xs : List ℕ) → n ≤ m → AreBelow n xs → AreBelow m xs
below_more n m xs most below k inside = let less = below k inside in omega (arith, less, most)

-- a sector behind all others is beside what lies in these
pub beside_more : (v : Version) (xs : List ℕ) (p n id count : ℕ) → IsBeside v xs p n → p + n ≤ sector_start v count → count ≤ id → IsBeside v (xs ++ id ∷ []) p n
beside_more v xs p n id count apart fits behind k inside =
    let size = length-append xs (id ∷ []) in
    ⊎_elim
    (λ past. let last : k - length xs ≡ 0 = omega (arith, size, inside, past.1) in
    inr (subst (λ m. p + n ≤ sector_start v m) (sym (get_or-append_right xs (id ∷ []) k 0 past.1 ∙ ap (λ i. get_or (id ∷ []) i 0) last)) (later v p n id count fits behind)))
    (λ front. subst (λ m. (sector_start v m + sector_len v ≤ p) ⊎ (p + n ≤ sector_start v m)) (sym (get_or_append_left xs (id ∷ []) 0 k front.1)) (apart k front.1))
    (leb_tells (length xs) k)
  where
    later : (v : Version) (p n id count : ℕ) → p + n ≤ sector_start v count → count ≤ id → p + n ≤ sector_start v id
    later V3 p n id count fits behind = omega (arith, fits, behind)
    later V4 p n id count fits behind = omega (arith, fits, behind)

pub once_front : (xs ys : List ℕ) → AreDistinct (xs ++ ys) → AreDistinct xs
once_front xs ys once k l k_below l_below same =
    let size = length-append xs ys in
    once k l (omega (arith, size, k_below)) (omega (arith, size, l_below)) (get_or_append_left xs ys 0 k k_below ∙ same ∙ sym (get_or_append_left xs ys 0 l l_below))

-- entries behind the old
pub stays_in_front : (entries old more new : List ℕ) → new ≡ old ++ more → SameExceptAt entries old new
stays_in_front entries old more new is = record {
  size = let size = length-append old more in omega (arith, size, ap length is);
  others = λ n below none. ap (λ l. get_or l n 0) is ∙ get_or_append_left old more 0 n below;
}

-- a number that is none so far, between two lists
module _ (xs ys : List ℕ) (n : ℕ) where
  in_front : (k : ℕ) → k < length xs → get_or ((xs ++ n ∷ []) ++ ys) k 0 ≡ get_or (xs ++ ys) k 0
  in_front k below =
      let size = length-append xs (n ∷ []) in
      get_or_append_left (xs ++ n ∷ []) ys 0 k (omega (arith, size, below)) ∙ get_or_append_left xs (n ∷ []) 0 k below ∙ sym (get_or_append_left xs ys 0 k below)

  in_middle : get_or ((xs ++ n ∷ []) ++ ys) (length xs) 0 ≡ n
  in_middle =
      let size = length-append xs (n ∷ []) in
      let none : length xs - length xs ≡ 0 = omega arith in
      get_or_append_left (xs ++ n ∷ []) ys 0 (length xs) (omega (arith, size)) ∙ get_or-append_right xs (n ∷ []) (length xs) 0 (omega arith) ∙ ap (λ i. get_or (n ∷ []) i 0) none

  in_back : (k : ℕ) → length xs < k → get_or ((xs ++ n ∷ []) ++ ys) k 0 ≡ get_or (xs ++ ys) (k - 1) 0
  in_back k past =
      let size = length-append xs (n ∷ []) in
      let same : k - length (xs ++ n ∷ []) ≡ k - 1 - length xs = omega (arith, size, past) in
      get_or-append_right (xs ++ n ∷ []) ys k 0 (omega (arith, size, past)) ∙ ap (λ i. get_or ys i 0) same ∙ sym (get_or-append_right xs ys (k - 1) 0 (omega (arith, past)))

  size_middle : length ((xs ++ n ∷ []) ++ ys) ≡ length (xs ++ ys) + 1
  size_middle = let a = length-append (xs ++ n ∷ []) ys in let b = length-append xs (n ∷ []) in let c = length-append xs ys in omega (arith, a, b, c)

  pub once_middle : AreDistinct (xs ++ ys) → AreBelow n (xs ++ ys) → AreDistinct ((xs ++ n ∷ []) ++ ys)
  once_middle once below k l k_below l_below same =
      let both = length-append xs ys in
      ⊎_elim
      (λ k_at. ⊎_elim
      (λ l_at. k_at.1 ∙ sym l_at.1)
      (λ l_off. absurd (other l l_off.1 l_below (sym same ∙ ap (λ i. get_or ((xs ++ n ∷ []) ++ ys) i 0) k_at.1 ∙ in_middle)))
      (eqb_tells l (length xs)))
      (λ k_off. ⊎_elim
      (λ l_at. absurd (other k k_off.1 k_below (same ∙ ap (λ i. get_or ((xs ++ n ∷ []) ++ ys) i 0) l_at.1 ∙ in_middle)))
      (λ l_off. ⊎_elim
      (λ k_past. ⊎_elim
      (λ l_past. let e = once (k - 1) (l - 1) (omega (arith, size_middle, k_below, k_past.1, k_off.1)) (omega (arith, size_middle, l_below, l_past.1, l_off.1)) (sym (in_back k (omega (arith, k_past.1, k_off.1))) ∙ same ∙ in_back l (omega (arith, l_past.1, l_off.1))) in omega (arith, e, k_past.1, k_off.1, l_past.1, l_off.1))
      (λ l_front. let e = once (k - 1) l (omega (arith, size_middle, k_below, k_past.1, k_off.1)) (omega (arith, both, l_front.1)) (sym (in_back k (omega (arith, k_past.1, k_off.1))) ∙ same ∙ in_front l l_front.1) in absurd (omega (arith, e, k_past.1, k_off.1, l_front.1)))
      (leb_tells (length xs) l))
      (λ k_front. ⊎_elim
      (λ l_past. let e = once k (l - 1) (omega (arith, both, k_front.1)) (omega (arith, size_middle, l_below, l_past.1, l_off.1)) (sym (in_front k k_front.1) ∙ same ∙ in_back l (omega (arith, l_past.1, l_off.1))) in absurd (omega (arith, e, l_past.1, l_off.1, k_front.1)))
      (λ l_front. once k l (omega (arith, both, k_front.1)) (omega (arith, both, l_front.1)) (sym (in_front k k_front.1) ∙ same ∙ in_front l l_front.1))
      (leb_tells (length xs) l))
      (leb_tells (length xs) k))
      (eqb_tells l (length xs)))
      (eqb_tells k (length xs))
    where
      other : (m : ℕ) → m ≢ length xs → m < length ((xs ++ n ∷ []) ++ ys) → get_or ((xs ++ n ∷ []) ++ ys) m 0 ≡ n → ⊥
      other m off inside is = ⊎_elim
          (λ past. let less = below (m - 1) (omega (arith, size_middle, inside, past.1, off)) in let value = sym (in_back m (omega (arith, past.1, off))) ∙ is in omega (arith, less, value))
          (λ front. let both = length-append xs ys in let less = below m (omega (arith, both, front.1)) in let value = sym (in_front m front.1) ∙ is in omega (arith, less, value))
          (leb_tells (length xs) m)

-- numbers below a limit, none of which stands twice, are no more than that
pub once_few : (count : ℕ) (xs : List ℕ) → AreDistinct xs → AreBelow count xs → length xs ≤ count
once_few count xs once below = length-le_from_distinct_below xs count
    (IsDistinct-from_apart nat_eq xs (λ i j d less inside. differ (get_or xs i d) (get_or xs j d) (λ same.
    let apart = once i j (omega (arith, less, inside)) inside (sym (get_or_default xs i d 0 (omega (arith, less, inside))) ∙ same ∙ get_or_default xs j d 0 inside) in omega (arith, apart, less))))
    (λ q found. any_below xs below q found)
  where
    differ : (x y : ℕ) → (x ≡ y → ⊥) → nat_eq x y ≡ false
    differ x y h = grind arith

    any_below : (xs : List ℕ) → AreBelow count xs → (q : ℕ) → list_any (nat_eq q) xs ≡ true → q < count
    any_below [] below q found = absurd (cc)
    any_below (x ∷ xs) below q found =
        let here : x < count = below 0 (omega arith) in
        let later : list_any (nat_eq q) xs ≡ true → q < count = any_below xs (λ k inside. below (suc k) (omega (arith, inside))) q in
        grind (arith, common_steps, here, later)

pub below_one_more : (n m : ℕ) (xs : List ℕ) → n < m → AreBelow n xs → AreBelow m (xs ++ n ∷ [])
below_one_more n m xs less below = below_both m xs (n ∷ []) (below_more n m xs (omega (arith, less)) below) (λ k inside. let first : k ≡ 0 = omega (arith, inside) in subst (λ i. get_or (n ∷ []) i 0 < m) (sym first) less)

-- the FAT's numbers where its sectors stay
pub fat_same : (v : Version) (old new fs : List ℕ) → ((k : ℕ) → k < length fs → sector v new (get_or fs k 0) ≡ sector v old (get_or fs k 0)) → fat_in v new fs ≡ fat_in v old fs
fat_same v old new fs same = ap numbers (joined_same v old new fs same)

pub room_more : (v : Version) (fat_count difat_count more : ℕ) → more ≡ difat_count + 1 → fat_count ≤ 109 + difat_count * (per v - 1) → fat_count < 109 + more * (per v - 1)
room_more V3 fat_count difat_count more is named = omega (arith, is, named)
room_more V4 fat_count difat_count more is named = omega (arith, is, named)
