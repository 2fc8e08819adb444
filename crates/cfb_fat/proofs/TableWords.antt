-- Tables as the numbers at places of the file, counted in numbers.
use Rattle.std.proofs.Common.{◌≡◌, ◌≢◌, ℕ, ◌+◌, ◌-◌, ◌*◌, ◌/◌, ◌%◌, ◌<◌, ◌≤◌, ◌^◌, ◌⊎◌, inl, inr, List, [], ◌∷◌, ◌++◌, length, take, drop, get_or, zero, suc, refl, ap, sym, subst, ◌∙◌, arith, ⊎_elim, length-append}
use Rattle.std.specs.List.{flat_map}
use Rattle.std.specs.Int.{w32, from_le_bytes, to_le_bytes}
use Rattle.std.proofs.Math.ListN.{set}
use Rattle.std.proofs.Math.Seq.{get_or-append_right}
use Rattle.std.proofs.lemmas.Bool.Decides.{eqb_tells, leb_tells}
use Rattle.std.proofs.lemmas.List.{ext_get_or, get_or_append_left, length-set, get_or-set_same, get_or-set_other}
use Rattle.std.proofs.lemmas.Nat.{from_le_bytes-to_le_bytes_4}
use Rattle.cfb_medium.specs.Bytes.{overwritten}
use Rattle.cfb_medium.specs.Numbers.{numbers, u32_at}
use Rattle.cfb_medium.specs.Versions.{sector_len}
use Rattle.cfb_medium.specs.declared.version.Version.{Version}
use Rattle.cfb_medium.specs.declared.version.Version.TheVariants.{V3, V4}
use Rattle.cfb_sectors.specs.Header.{header_difat}
use Rattle.cfb_sectors.specs.Sectors.{difat, filled_part, sector, sector_start}
use Rattle.cfb_chains.specs.Changes.{AreDistinct}
use Rattle.cfb_fat.proofs.FatEntries.{get_number, length-numbers, per}
use Rattle.cfb_chains.proofs.Overwriting.{beside, length-filled, written}
use Rattle.cfb_fat.proofs.Words.{filled_in, filled_is}

-- the number at this place, counted in numbers
unfoldable pub word : List ℕ → ℕ → ℕ
word b q = from_le_bytes w32 (filled_part b (4 * q) 4)

pub word_written : (b : List ℕ) (q x : ℕ) → x < 2 ^ 32 → word (overwritten b (4 * q) (to_le_bytes w32 x)) q ≡ x
unfolding word
word_written b q x small = ap (from_le_bytes w32) (written b (to_le_bytes w32 x) (4 * q)) ∙ from_le_bytes-to_le_bytes_4 x small

pub word_other : (b : List ℕ) (q r x : ℕ) → q ≢ r → word (overwritten b (4 * q) (to_le_bytes w32 x)) r ≡ word b r
unfolding word
word_other b q r x differ = ap (from_le_bytes w32) (beside b (to_le_bytes w32 x) (4 * q) (4 * r) 4
    (⊎_elim (λ le. inr (omega (arith, le.1, differ))) (λ gt. inl (omega (arith, gt.1))) (leb_tells q r)))

pub word_same : (b c : List ℕ) (q : ℕ) → filled_part c (4 * q) 4 ≡ filled_part b (4 * q) 4 → word c q ≡ word b q
unfolding word
word_same b c q same = ap (from_le_bytes w32) same

-- a number of the header
pub header_word : (b : List ℕ) (p q : ℕ) → p ≡ 4 * q → p + 4 ≤ length b → u32_at b p ≡ word b q
unfolding word
header_word b p q is fits =
    let four : p + 4 - p ≡ 4 = omega arith in
    ap (λ k. from_le_bytes w32 (take k (drop p b))) four ∙ ap (from_le_bytes w32) (sym (filled_is b p 4 fits) ∙ ap (λ n. filled_part b n 4) is)

-- a number of a part
part_word : (b : List ℕ) (q n j : ℕ) → j < n → get_or (numbers (filled_part b (4 * q) (4 * n))) j 0 ≡ word b (q + j)
unfolding word
part_word b q n j below =
    let size = length-filled b (4 * q) (4 * n) in
    get_number (filled_part b (4 * q) (4 * n)) j (omega (arith, size, below))
    ∙ ap (from_le_bytes w32) (sym (filled_in b (4 * q) (4 * n) (j * 4) 4 (omega (arith, below))) ∙ ap (λ p. filled_part b p 4) (omega arith))

length-part : (b : List ℕ) (q n : ℕ) → length (numbers (filled_part b (4 * q) (4 * n))) ≡ n
length-part b q n = let size = length-filled b (4 * q) (4 * n) in length-numbers (filled_part b (4 * q) (4 * n)) ∙ omega (arith, size)

header_part : (b : List ℕ) → 512 ≤ length b → header_difat b ≡ numbers (filled_part b (4 * 19) (4 * 109))
header_part b whole = ap numbers (sym (filled_is b 76 436 (omega (arith, whole))))

pub start_is : (v : Version) (n : ℕ) → sector_start v n ≡ 4 * ((n + 1) * per v)
start_is V3 n = omega arith
start_is V4 n = omega arith

pub length_is : (v : Version) → sector_len v ≡ 4 * per v
length_is V3 = omega arith
length_is V4 = omega arith

fewer_is : (v : Version) → sector_len v - 4 ≡ 4 * (per v - 1)
fewer_is V3 = omega arith
fewer_is V4 = omega arith

-- the DIFAT's entries in one sector
abbrev pub entries_in : Version → List ℕ → ℕ → List ℕ
entries_in v b n = numbers (take (sector_len v - 4) (sector v b n))

entries_part : (v : Version) (b : List ℕ) (n : ℕ) → entries_in v b n ≡ numbers (filled_part b (4 * ((n + 1) * per v)) (4 * (per v - 1)))
entries_part v b n =
    let less : 0 + (sector_len v - 4) ≤ sector_len v = omega arith in
    let start : sector_start v n + 0 ≡ 4 * ((n + 1) * per v) = let is = start_is v n in omega (arith, is) in
    ap numbers (sym (filled_in b (sector_start v n) (sector_len v) 0 (sector_len v - 4) less) ∙ ap (λ p. filled_part b p (sector_len v - 4)) start ∙ ap (filled_part b (4 * ((n + 1) * per v))) (fewer_is v))

pub entry_in : (v : Version) (b : List ℕ) (n j : ℕ) → j < per v - 1 → get_or (entries_in v b n) j 0 ≡ word b ((n + 1) * per v + j)
entry_in v b n j below = ap (λ l. get_or l j 0) (entries_part v b n) ∙ part_word b ((n + 1) * per v) (per v - 1) j below

pub length-entries_in : (v : Version) (b : List ℕ) (n : ℕ) → length (entries_in v b n) ≡ per v - 1
length-entries_in v b n = ap length (entries_part v b n) ∙ length-part b ((n + 1) * per v) (per v - 1)

-- what a sector of the DIFAT names as the next
pub next_word : (v : Version) (b : List ℕ) (n : ℕ) → u32_at (sector v b n) (sector_len v - 4) ≡ word b ((n + 1) * per v + (per v - 1))
unfolding word
next_word v b n =
    let four : sector_len v - 4 + 4 - (sector_len v - 4) ≡ 4 = omega arith in
    let room : sector_len v - 4 + 4 ≤ sector_len v = let long = length_is v in let some = some_entries v in omega (arith, long, some) in
    let place : sector_start v n + (sector_len v - 4) ≡ 4 * ((n + 1) * per v + (per v - 1)) = let is = start_is v n in let less = fewer_is v in omega (arith, is, less) in
    ap (λ k. from_le_bytes w32 (take k (drop (sector_len v - 4) (sector v b n)))) four
    ∙ ap (from_le_bytes w32) (sym (filled_in b (sector_start v n) (sector_len v) (sector_len v - 4) 4 room) ∙ ap (λ p. filled_part b p 4) place)
  where
    some_entries : (v : Version) → 1 ≤ per v
    some_entries V3 = omega arith
    some_entries V4 = omega arith

length-many : (v : Version) (b ds : List ℕ) → length (flat_map (entries_in v b) ds) ≡ length ds * (per v - 1)
length-many v b [] = let none : 0 ≡ 0 * (per v - 1) = omega arith in none
length-many v b (x ∷ ds) =
    length-append (entries_in v b x) (flat_map (entries_in v b) ds) ∙ ap (λ n. n + length (flat_map (entries_in v b) ds)) (length-entries_in v b x)
    ∙ ap (λ n. per v - 1 + n) (length-many v b ds) ∙ more (per v - 1) (length ds)
  where
    more : (each n : ℕ) → each + n * each ≡ suc n * each
    more each n = omega arith

length-header : (b : List ℕ) → 512 ≤ length b → length (header_difat b) ≡ 109
length-header b whole = ap length (header_part b whole) ∙ length-part b 19 109

pub length-difat : (v : Version) (b ds : List ℕ) → 512 ≤ length b → length (difat v b ds) ≡ 109 + length ds * (per v - 1)
length-difat v b ds whole = length-append (header_difat b) (flat_map (entries_in v b) ds) ∙ ap (λ n. n + length (flat_map (entries_in v b) ds)) (length-header b whole) ∙ ap (λ n. 109 + n) (length-many v b ds)

-- the DIFAT's entry k stands at this place, in the header or in one of its sectors
abbrev pub StandsAt : Version → List ℕ → ℕ → ℕ → Type 0
StandsAt v ds k q = ((k < 109) × (q ≡ 19 + k)) ⊎ ((i : ℕ) × (j : ℕ) × (i < length ds) × (j < per v - 1) × (k ≡ 109 + (i * (per v - 1) + j)) × (q ≡ (get_or ds i 0 + 1) * per v + j))

many_at : (v : Version) (b ds : List ℕ) (i j : ℕ) → i < length ds → j < per v - 1 → get_or (flat_map (entries_in v b) ds) (i * (per v - 1) + j) 0 ≡ word b ((get_or ds i 0 + 1) * per v + j)
many_at v b [] i j below inside = absurd (omega arith)
many_at v b (x ∷ ds) zero j below inside =
    let first : 0 * (per v - 1) + j ≡ j = omega arith in
    let size = length-entries_in v b x in
    ap (λ k. get_or (entries_in v b x ++ flat_map (entries_in v b) ds) k 0) first
    ∙ get_or_append_left (entries_in v b x) (flat_map (entries_in v b) ds) 0 j (omega (arith, size, inside)) ∙ entry_in v b x j inside
many_at v b (x ∷ ds) (suc i) j below inside =
    let size = length-entries_in v b x in
    let past : length (entries_in v b x) ≤ suc i * (per v - 1) + j = behind (per v - 1) (length (entries_in v b x)) i j size in
    let rest : suc i * (per v - 1) + j - length (entries_in v b x) ≡ i * (per v - 1) + j = taken (per v - 1) (length (entries_in v b x)) i j size in
    get_or-append_right (entries_in v b x) (flat_map (entries_in v b) ds) (suc i * (per v - 1) + j) 0 past
    ∙ ap (λ k. get_or (flat_map (entries_in v b) ds) k 0) rest ∙ many_at v b ds i j (omega arith) inside
  where
    behind : (each size i j : ℕ) → size ≡ each → size ≤ suc i * each + j
    behind each size i j is = omega arith

    taken : (each size i j : ℕ) → size ≡ each → suc i * each + j - size ≡ i * each + j
    taken each size i j is = omega arith

pub entry_at : (v : Version) (b ds : List ℕ) (k q : ℕ) → 512 ≤ length b → StandsAt v ds k q → get_or (difat v b ds) k 0 ≡ word b q
entry_at v b ds k q whole at = ⊎_elim
    (λ front. let size = length-header b whole in
    get_or_append_left (header_difat b) (flat_map (entries_in v b) ds) 0 k (omega (arith, size, front.0)) ∙ ap (λ l. get_or l k 0) (header_part b whole) ∙ part_word b 19 109 k front.0
    ∙ ap (word b) (sym front.1))
    (λ rest. let size = length-header b whole in
    ap (λ n. get_or (difat v b ds) n 0) rest.4 ∙ get_or-append_right (header_difat b) (flat_map (entries_in v b) ds) (109 + (rest.0 * (per v - 1) + rest.1)) 0 (omega (arith, size))
    ∙ ap (λ n. get_or (flat_map (entries_in v b) ds) n 0) (less (length (header_difat b)) (rest.0 * (per v - 1) + rest.1) size) ∙ many_at v b ds rest.0 rest.1 rest.2 rest.3 ∙ ap (word b) (sym rest.5))
    at
  where
    less : (size n : ℕ) → size ≡ 109 → 109 + n - size ≡ n
    less size n is = omega arith

pub split_fewer : (v : Version) (n k : ℕ) → 109 ≤ k → k < 109 + n * (per v - 1) → ((k - 109) / (per v - 1) < n) × ((k - 109) % (per v - 1) < per v - 1) × (k ≡ 109 + ((k - 109) / (per v - 1) * (per v - 1) + (k - 109) % (per v - 1)))
split_fewer V3 n k past below = (omega (arith, past, below), omega arith, omega (arith, past))
split_fewer V4 n k past below = (omega (arith, past, below), omega arith, omega (arith, past))

-- each entry has its place
pub place_of : (v : Version) (ds : List ℕ) (k : ℕ) → k < 109 + length ds * (per v - 1) → (q : ℕ) × StandsAt v ds k q
place_of v ds k below = ⊎_elim
    (λ past. let i = (k - 109) / (per v - 1) in let j = (k - 109) % (per v - 1) in
    let parts = split_fewer v (length ds) k past.1 below in
    ((get_or ds i 0 + 1) * per v + j, inr (i, j, parts.0, parts.1, parts.2, refl)))
    (λ front. (19 + k, inl (front.1, refl)))
    (leb_tells 109 k)

-- numbers of sectors stand behind the header's, and one sector's apart from another's
in_sector : (v : Version) (n j m i : ℕ) → j < per v → i < per v → (n + 1) * per v + j ≡ (m + 1) * per v + i → (n ≡ m) × (j ≡ i)
in_sector V3 n j m i less fewer same = (omega (arith, less, fewer, same), omega (arith, less, fewer, same))
in_sector V4 n j m i less fewer same = (omega (arith, less, fewer, same), omega (arith, less, fewer, same))

pub behind_words : (v : Version) (n j : ℕ) → 128 ≤ (n + 1) * per v + j
behind_words V3 n j = omega arith
behind_words V4 n j = omega arith

less_one : (v : Version) (j : ℕ) → j < per v - 1 → j < per v
less_one v j below = omega (arith, below)

last_inside : (v : Version) → per v - 1 < per v
last_inside V3 = omega arith
last_inside V4 = omega arith

-- two entries don't stand at one place
pub places_apart : (v : Version) (ds : List ℕ) (k q m r : ℕ) → AreDistinct ds → StandsAt v ds k q → StandsAt v ds m r → k ≢ m → q ≢ r
places_apart v ds k q m r once at_k at_m differ same = ⊎_elim
    (λ a. ⊎_elim
    (λ b. differ (omega (arith, a.1, b.1, same)))
    (λ b. let far = behind_words v (get_or ds b.0 0) b.1 in omega (arith, a.0, a.1, b.5, same, far)) at_m)
    (λ a. ⊎_elim
    (λ b. let far = behind_words v (get_or ds a.0 0) a.1 in omega (arith, b.0, b.1, a.5, same, far))
    (λ b. let both = in_sector v (get_or ds a.0 0) a.1 (get_or ds b.0 0) b.1 (less_one v a.1 a.3) (less_one v b.1 b.3) (sym a.5 ∙ same ∙ b.5) in
    let one : a.0 ≡ b.0 = once a.0 b.0 a.2 b.2 both.0 in
    differ (a.4 ∙ ap (λ i. 109 + (i * (per v - 1) + a.1)) one ∙ ap (λ j. 109 + (b.0 * (per v - 1) + j)) both.1 ∙ sym b.4)) at_m)
    at_k

-- nor at that of a next sector's number, or of one of the header's words
pub entry_no_next : (v : Version) (ds : List ℕ) (k q n : ℕ) → StandsAt v ds k q → q ≢ (n + 1) * per v + (per v - 1)
entry_no_next v ds k q n at same = ⊎_elim
    (λ a. let far = behind_words v n (per v - 1) in omega (arith, a.0, a.1, same, far))
    (λ a. let both = in_sector v (get_or ds a.0 0) a.1 n (per v - 1) (less_one v a.1 a.3) (last_inside v) (sym a.5 ∙ same) in omega (arith, a.3, both.1))
    at

pub entry_behind : (v : Version) (ds : List ℕ) (k q : ℕ) → StandsAt v ds k q → 19 ≤ q
entry_behind v ds k q at = ⊎_elim (λ a. omega (arith, a.1)) (λ a. let far = behind_words v (get_or ds a.0 0) a.1 in omega (arith, a.5, far)) at

-- they stand in the sectors
before_end : (v : Version) (n count j : ℕ) → n < count → j < per v → (n + 1) * per v + j < (count + 1) * per v
before_end V3 n count j below less = omega arith
before_end V4 n count j below less = omega arith

pub entry_before : (v : Version) (ds : List ℕ) (k q count : ℕ) → 0 < count → ((i : ℕ) → i < length ds → get_or ds i 0 < count) → StandsAt v ds k q → q < (count + 1) * per v
entry_before v ds k q count some below at = ⊎_elim
    (λ a. let far = behind_words v count 0 in omega (arith, a.0, a.1, far))
    (λ a. subst (λ n. n < (count + 1) * per v) (sym a.5) (before_end v (get_or ds a.0 0) count a.1 (below a.0 a.2) (less_one v a.1 a.3)))
    at

pub next_before : (v : Version) (n count : ℕ) → n < count → (n + 1) * per v + (per v - 1) < (count + 1) * per v
next_before v n count below = before_end v n count (per v - 1) below (last_inside v)

split_same : (v : Version) (i j n m : ℕ) → j < per v - 1 → m < per v - 1 → i * (per v - 1) + j ≡ n * (per v - 1) + m → (i ≡ n) × (j ≡ m)
split_same V3 i j n m less fewer same = (omega (arith, less, fewer, same), omega (arith, less, fewer, same))
split_same V4 i j n m less fewer same = (omega (arith, less, fewer, same), omega (arith, less, fewer, same))

one_place : (v : Version) (ds : List ℕ) (k m q r : ℕ) → StandsAt v ds k q → StandsAt v ds m r → k ≡ m → q ≡ r
one_place v ds k m q r at_k at_m same = ⊎_elim
    (λ a. ⊎_elim (λ b. omega (arith, a.1, b.1, same)) (λ b. absurd (omega (arith, a.0, b.4, same))) at_m)
    (λ a. ⊎_elim (λ b. absurd (omega (arith, b.0, a.4, same)))
    (λ b. let both = split_same v a.0 a.1 b.0 b.1 a.3 b.3 (let sums : 109 + (a.0 * (per v - 1) + a.1) ≡ 109 + (b.0 * (per v - 1) + b.1) = sym a.4 ∙ same ∙ b.4 in omega (arith, sums)) in
    a.5 ∙ ap (λ i. (get_or ds i 0 + 1) * per v + a.1) both.0 ∙ ap (λ j. (get_or ds b.0 0 + 1) * per v + j) both.1 ∙ sym b.5) at_m)
    at_k

-- one entry is set
pub difat_set : (v : Version) (old new ds : List ℕ) (k q x : ℕ) → 512 ≤ length old → 512 ≤ length new → AreDistinct ds → k < 109 + length ds * (per v - 1) → StandsAt v ds k q → word new q ≡ x
    → ((m r : ℕ) → StandsAt v ds m r → q ≢ r → word new r ≡ word old r) → difat v new ds ≡ set (difat v old ds) k x
difat_set v old new ds k q x in_old in_new once below at here others =
    let size = length-difat v new ds in_new in
    let was = length-difat v old ds in_old in
    ext_get_or 0 _ _ (size ∙ sym was ∙ sym (length-set (difat v old ds) k x)) (λ m inside.
    let spot = place_of v ds m (subst (λ n. m < n) size inside) in
    entry_at v new ds m spot.0 in_new spot.1 ∙ ⊎_elim
    (λ same. ap (word new) (same_place m spot.0 spot.1 same.1) ∙ here
    ∙ sym (ap (λ n. get_or (set (difat v old ds) k x) n 0) same.1 ∙ get_or-set_same (difat v old ds) k x 0 (subst (λ n. k < n) (sym was) below)))
    (λ differ. others m spot.0 spot.1 (places_apart v ds k q m spot.0 once at spot.1 (λ e. differ.1 (sym e)))
    ∙ sym (entry_at v old ds m spot.0 in_old spot.1) ∙ sym (get_or-set_other (difat v old ds) k m x 0 differ.1))
    (eqb_tells m k))
  where
    same_place : (m r : ℕ) → StandsAt v ds m r → m ≡ k → r ≡ q
    same_place m r at_m same = one_place v ds m k r q at_m at same

-- none is
pub difat_stays : (v : Version) (old new ds : List ℕ) → 512 ≤ length old → 512 ≤ length new → ((m r : ℕ) → StandsAt v ds m r → word new r ≡ word old r) → difat v new ds ≡ difat v old ds
difat_stays v old new ds in_old in_new others =
    ext_get_or 0 _ _ (length-difat v new ds in_new ∙ sym (length-difat v old ds in_old)) (λ m inside.
    let spot = place_of v ds m (subst (λ n. m < n) (length-difat v new ds in_new) inside) in
    entry_at v new ds m spot.0 in_new spot.1 ∙ others m spot.0 spot.1 ∙ sym (entry_at v old ds m spot.0 in_old spot.1))
