-- Bytes and places of chains, told by index.
use Rattle.std.proofs.Common.{◌≡◌, ℕ, ◌+◌, ◌-◌, ◌*◌, ◌/◌, ◌%◌, ◌<◌, ◌≤◌, List, [], ◌∷◌, ◌++◌, zero, suc, length, drop, take, replicate, get_or, refl, ap, sym, subst, ◌∙◌, ⊎_elim, arith, length-take, length-append}
use Rattle.std.specs.Prelude.{min}
use Rattle.std.specs.List.{range_with_len, AllByRecursion}
use Rattle.std.proofs.lemmas.Bool.Decides.{leb_tells}
use Rattle.std.proofs.lemmas.List.{append-nil, drop_all, ext_get_or, get_or-append_right, get_or-take, get_or_append_left, get_or_past, length-replicate, length-take-le, take_all}
use Rattle.std.proofs.lemmas.List.FromFn.{get_or-range_with_len, length-range_with_len}
use Rattle.cfb_medium.specs.Bytes.{overwritten}
use Rattle.cfb_medium.proofs.Grown.{inside_written}
use Rattle.cfb_medium.specs.Versions.{sector_len}
use Rattle.cfb_medium.specs.declared.version.Version.{Version}
use Rattle.cfb_medium.specs.declared.version.Version.TheVariants.{V3, V4}
use Rattle.cfb_chains.proofs.ChainWriting.{length_within}
use Rattle.cfb_chains.proofs.Overwriting.{get_before, get_behind, get_written}
use Rattle.cfb_chain_io.specs.ChainEffects.{place_of}
use Rattle.cfb_chain_io.proofs.FrontWritten.{all_at}
use Rattle.cfb_sectors.specs.Sectors.{joined, places, sector, sector_start}
use Rattle.cfb_stream_writes.specs.Streams.{resized}
use Rattle.cfb_mini.proofs.Padded.{get_padded, zeros}

-- what holds of each element, by its index
pub all_by_index : (P : ℕ → Type 0) (xs : List ℕ) → ((k : ℕ) → k < length xs → P (get_or xs k 0)) → AllByRecursion P xs
all_by_index P [] each = tt
all_by_index P (x ∷ xs) each = (each 0 (omega arith), all_by_index P xs (λ k below. each (suc k) (omega (arith, below))))

pub get_taken : (xs : List ℕ) (n k : ℕ) → n ≤ k → get_or (take n xs) k 0 ≡ 0
get_taken xs n k past = get_or_past (take n xs) k 0 (let size = length-take n xs in omega (arith, size, past))

-- the bytes of a stream that got so many: those that stay, and zeros
pub resized_is : (all content : List ℕ) (len : ℕ) → len ≤ length all → ((k : ℕ) → k < len → get_or all k 0 ≡ get_or content k 0) → resized len content ≡ take len all
resized_is all content len fits same =
    ext_get_or 0 (resized len content) (take len all) (length_is ∙ sym (taken len all fits)) (λ k below.
    let few : k < len = subst (λ n. k < n) length_is below in
    get_padded (take len content) (len - length content) k ∙ get_or-take len content k 0 few ∙ sym (same k few) ∙ sym (get_or-take len all k 0 few))
  where
    length_is : length (resized len content) ≡ len
    length_is =
        let one = length-append (take len content) (zeros (len - length content)) in
        let two = length-take len content in
        let three = length-replicate {A = ℕ} (len - length content) 0 in omega (arith, one, two, three)

    taken : (n : ℕ) (xs : List ℕ) → n ≤ length xs → length (take n xs) ≡ n
    taken n xs few = let size = length-take n xs in omega (arith, size, few)

pub length-resized : (content : List ℕ) (len : ℕ) → length (resized len content) ≡ len
length-resized content len =
    let one = length-append (take len content) (zeros (len - length content)) in
    let two = length-take len content in
    let three = length-replicate {A = ℕ} (len - length content) 0 in omega (arith, one, two, three)

-- bytes that are written over in a front are so in the whole
pub take_over : (xs bytes : List ℕ) (at n : ℕ) → n ≤ length xs → at + length bytes ≤ n → overwritten (take n xs) at bytes ≡ take n (overwritten xs at bytes)
take_over xs bytes at n fits within =
    let size : length (take n xs) ≡ n = let l = length-take n xs in omega (arith, l, fits) in
    let one : length (overwritten (take n xs) at bytes) ≡ n = length_within (take n xs) bytes at (omega (arith, size, within)) ∙ size in
    let long : length (overwritten xs at bytes) ≡ length xs = length_within xs bytes at (omega (arith, fits, within)) in
    let two : length (take n (overwritten xs at bytes)) ≡ n = let l = length-take n (overwritten xs at bytes) in omega (arith, l, long, fits) in
    ext_get_or 0 (overwritten (take n xs) at bytes) (take n (overwritten xs at bytes)) (one ∙ sym two) (λ k below.
    let few : k < n = subst (λ m. k < m) one below in
    ⊎_elim
    (λ behind. ⊎_elim
    (λ past. get_behind (take n xs) at bytes k past.1 ∙ get_or-take n xs k 0 few ∙ sym (get_behind xs at bytes k past.1))
    (λ inside.
    let there : at + (k - at) ≡ k = let b = behind.1 in omega (arith, b) in
    let part : k - at < length bytes = let b = behind.1 in let i = inside.1 in omega (arith, b, i) in
    ap (λ i. get_or (overwritten (take n xs) at bytes) i 0) (sym there) ∙ get_written (take n xs) at bytes (k - at) part
    ∙ sym (ap (λ i. get_or (overwritten xs at bytes) i 0) (sym there) ∙ get_written xs at bytes (k - at) part))
    (leb_tells (at + length bytes) k))
    (λ before. get_before (take n xs) at bytes k before.1 ∙ get_or-take n xs k 0 few ∙ sym (get_before xs at bytes k before.1))
    (leb_tells at k)
    ∙ sym (get_or-take n (overwritten xs at bytes) k 0 few))

-- a chain that keeps a front and takes in zeros
pub get_grown : (old new : List ℕ) (n count k : ℕ) → new ≡ take n old ++ replicate count 0 → k < n → get_or new k 0 ≡ get_or old k 0
get_grown old new n count k is below = ap (λ l. get_or l k 0) is ∙ get_padded (take n old) count k ∙ get_or-take n old k 0 below

pub get_zeros : (old new : List ℕ) (n count k : ℕ) → new ≡ take n old ++ replicate count 0 → n ≤ k → get_or new k 0 ≡ 0
get_zeros old new n count k is past = ap (λ l. get_or l k 0) is ∙ get_padded (take n old) count k ∙ get_taken old n k past

-- the front of a chain has the front of its bytes
pub joined_front : (v : Version) (b ids : List ℕ) (n : ℕ) → joined v b (take n ids) ≡ take (n * sector_len v) (joined v b ids)
joined_front v b [] n = nothing n ∙ sym (none (n * sector_len v))
  where
    none : (k : ℕ) → take k (joined v b []) ≡ []
    none zero = refl
    none (suc k) = refl

    nothing : (k : ℕ) → joined v b (take k []) ≡ []
    nothing zero = refl
    nothing (suc k) = refl
joined_front v b (x ∷ ids) zero = ap (λ k. take k (joined v b (x ∷ ids))) (let nothing : 0 ≡ 0 * sector_len v = omega arith in nothing)
joined_front v b (x ∷ ids) (suc n) =
    let size : length (sector v b x) ≡ sector_len v = simp (length-take, length-append, length-replicate) (omega arith) in
    ap (λ l. sector v b x ++ l) (joined_front v b ids n) ∙ split_at (sector v b x) (joined v b ids) (sector_len v) (n * sector_len v) (suc n * sector_len v) size (omega arith)
  where
    split_at : (xs ys : List ℕ) (l m k : ℕ) → length xs ≡ l → k ≡ l + m → xs ++ take m ys ≡ take k (xs ++ ys)
    split_at [] ys l m k size is = ap (λ n. take n ys) (let same : m ≡ k = omega (arith, size, is) in same)
    split_at (y ∷ xs) ys l m zero size is = absurd (omega (arith, size, is))
    split_at (y ∷ xs) ys l m (suc k) size is = ap (λ zs. y ∷ zs) (split_at xs ys (length xs) m k refl (omega (arith, size, is)))

-- places of a chain's bytes
pub length-places : (v : Version) (ids : List ℕ) → length (places v ids) ≡ length ids * sector_len v
length-places v [] = omega arith
length-places v (x ∷ ids) =
    let one = length-append (range_with_len (sector_start v x) (sector_len v)) (places v ids) in
    let two = length-range_with_len (sector_start v x) (sector_len v) in
    sum (length (range_with_len (sector_start v x) (sector_len v))) (length (places v ids)) (length ids) (sector_len v) _ one two (length-places v ids)
  where
    sum : (r p n l all : ℕ) → all ≡ r + p → r ≡ l → p ≡ n * l → all ≡ suc n * l
    sum r p n l all e f h = omega (arith, e, f, h)

place_first : (v : Version) (x : ℕ) (ids : List ℕ) (k : ℕ) → k < sector_len v → sector_start v x + k ≡ place_of v (x ∷ ids) k
place_first V3 x ids k below = let none : k / 512 ≡ 0 = omega (arith, below) in let all : k % 512 ≡ k = omega (arith, below) in
    ap (λ n. sector_start V3 x + n) (sym all) ∙ ap (λ n. sector_start V3 (get_or (x ∷ ids) n 0) + k % 512) (sym none)
place_first V4 x ids k below = let none : k / 4096 ≡ 0 = omega (arith, below) in let all : k % 4096 ≡ k = omega (arith, below) in
    ap (λ n. sector_start V4 x + n) (sym all) ∙ ap (λ n. sector_start V4 (get_or (x ∷ ids) n 0) + k % 4096) (sym none)

place_later : (v : Version) (x : ℕ) (ids : List ℕ) (k : ℕ) → sector_len v ≤ k → place_of v ids (k - sector_len v) ≡ place_of v (x ∷ ids) k
place_later V3 x ids k past = let more : k / 512 ≡ suc ((k - 512) / 512) = omega (arith, past) in let same : (k - 512) % 512 ≡ k % 512 = omega (arith, past) in
    ap (λ n. sector_start V3 (get_or ids ((k - 512) / 512) 0) + n) same ∙ ap (λ n. sector_start V3 (get_or (x ∷ ids) n 0) + k % 512) (sym more)
place_later V4 x ids k past = let more : k / 4096 ≡ suc ((k - 4096) / 4096) = omega (arith, past) in let same : (k - 4096) % 4096 ≡ k % 4096 = omega (arith, past) in
    ap (λ n. sector_start V4 (get_or ids ((k - 4096) / 4096) 0) + n) same ∙ ap (λ n. sector_start V4 (get_or (x ∷ ids) n 0) + k % 4096) (sym more)

pub get_places : (v : Version) (ids : List ℕ) (k : ℕ) → k < length ids * sector_len v → get_or (places v ids) k 0 ≡ place_of v ids k
get_places v [] k below = absurd (omega (arith, below))
get_places v (x ∷ ids) k below =
    let size = length-range_with_len (sector_start v x) (sector_len v) in
    ⊎_elim
    (λ past. get_or-append_right (range_with_len (sector_start v x) (sector_len v)) (places v ids) (sector_len v) k 0 size past.1
    ∙ get_places v ids (k - sector_len v) (lower (length ids) (sector_len v) k below past.1) ∙ place_later v x ids k past.1)
    (λ first. get_or_append_left (range_with_len (sector_start v x) (sector_len v)) (places v ids) 0 k (subst (λ n. k < n) (sym size) first.1)
    ∙ get_or-range_with_len (sector_start v x) (sector_len v) k 0 first.1 ∙ place_first v x ids k first.1)
    (leb_tells (sector_len v) k)
  where
    lower : (n l j : ℕ) → j < suc n * l → l ≤ j → j - l < n * l
    lower n l j few past = omega (arith, few, past)

-- as many places lie in a file as lie there by index, and the other way round
pub places_there : (v : Version) (ids : List ℕ) (few len : ℕ) → len ≤ length ids * sector_len v → ((k : ℕ) → k < len → place_of v ids k < few) → AllByRecursion (λ p. p < few) (take len (places v ids))
places_there v ids few len fits each =
    all_by_index (λ p. p < few) (take len (places v ids)) (λ k below.
    let size = length-take len (places v ids) in
    let inside : k < len = omega (arith, below, size) in
    let within : k < length ids * sector_len v = less k len (length ids * sector_len v) inside fits in
    subst (λ p. p < few) (sym (get_or-take len (places v ids) k 0 inside ∙ get_places v ids k within)) (each k inside))
  where
    less : (k m n : ℕ) → k < m → m ≤ n → k < n
    less k m n below most = omega (arith, below, most)

pub place_there : (v : Version) (ids : List ℕ) (few len k : ℕ) → len ≤ length ids * sector_len v → AllByRecursion (λ p. p < few) (take len (places v ids)) → k < len → place_of v ids k < few
place_there v ids few len k fits all below =
    let all_places = length-places v ids in
    let size = length-take len (places v ids) in
    let whole : length (take len (places v ids)) ≡ len = exact (length (take len (places v ids))) len (length (places v ids)) (length ids * sector_len v) size all_places fits in
    subst (λ p. p < few) (get_or-take len (places v ids) k 0 below ∙ get_places v ids k (less k len (length ids * sector_len v) below fits)) (all_at (λ p. p < few) (take len (places v ids)) k all (subst (λ n. k < n) (sym whole) below))
  where
    less : (k m n : ℕ) → k < m → m ≤ n → k < n
    less k m n below most = omega (arith, below, most)

    exact : (t n p q : ℕ) → t ≡ min n p → p ≡ q → n ≤ q → t ≡ n
    exact t n p q size is few = omega (arith, size, is, few)

-- a place in what a chain kept, or in what it took in whole
pub place_kept : (v : Version) (old new more : List ℕ) (n k : ℕ) → new ≡ take n old ++ more → k / sector_len v < n → k / sector_len v < length old → place_of v old k ≡ place_of v new k
place_kept v old new more n k is below there =
    let i = k / sector_len v in
    let size = length-take n old in
    let inside : i < length (take n old) = within i n (length old) (length (take n old)) size below there in
    ap (λ x. sector_start v x + k % sector_len v) (sym (ap (λ l. get_or l i 0) is ∙ get_or_append_left (take n old) more 0 i inside ∙ get_or-take n old i 0 below))
  where
    within : (i n o t : ℕ) → t ≡ min n o → i < n → i < o → i < t
    within i n o t size below there = omega (arith, size, below, there)

-- bytes that are written from a place in others on to their end
pub resized_whole : (xs : List ℕ) (n : ℕ) → length xs ≡ n → resized n xs ≡ xs
resized_whole xs n size =
    let none : n - length xs ≡ 0 = omega (arith, size) in
    ap (λ k. take n xs ++ replicate k 0) none ∙ append-nil (take n xs) ∙ take_all n xs (omega (arith, size))

pub written_on : (x0 x1 zeros content bytes : List ℕ) (at size len : ℕ) → x1 ≡ overwritten (x0 ++ zeros) at bytes → content ≡ take size x0 → size ≤ length x0 → at ≤ size → size ≤ len → len ≡ at + length bytes
    → (k : ℕ) → k < len → get_or x1 k 0 ≡ get_or (overwritten (resized len content) at bytes) k 0
written_on x0 x1 zeros content bytes at size len is was fits from longer end k below =
    ap (λ l. get_or l k 0) is ∙ ⊎_elim
    (λ past.
    let same : at + (k - at) ≡ k = omega (arith, past.1) in
    let inside : k - at < length bytes = omega (arith, past.1, below, end) in
    ap (λ i. get_or (overwritten (x0 ++ zeros) at bytes) i 0) (sym same) ∙ get_written (x0 ++ zeros) at bytes (k - at) inside
    ∙ sym (get_written (resized len content) at bytes (k - at) inside) ∙ ap (λ i. get_or (overwritten (resized len content) at bytes) i 0) same)
    (λ front.
    let short : k < size = omega (arith, front.1, from) in
    let kept : length content ≡ size = ap length was ∙ length-take-le size x0 fits in
    let there : k < length (take len content) = let all = length-take len content in omega (arith, all, kept, short, below) in
    get_before (x0 ++ zeros) at bytes k front.1 ∙ get_or_append_left x0 zeros 0 k (omega (arith, short, fits))
    ∙ sym (get_or-take size x0 k 0 short) ∙ ap (λ l. get_or l k 0) (sym was) ∙ sym (get_or-take len content k 0 below)
    ∙ sym (get_or_append_left (take len content) (replicate (len - length content) 0) 0 k there) ∙ sym (get_before (resized len content) at bytes k front.1))
    (leb_tells at k)

-- bytes that are written over as many
pub over_whole : (old xs : List ℕ) → length old ≡ length xs → overwritten old 0 xs ≡ xs
over_whole old [] size = sym (take_all 0 old (omega (arith, size)))
over_whole old (x ∷ xs) size =
    let none : drop (0 + length (x ∷ xs)) old ≡ [] = drop_all (0 + length (x ∷ xs)) old (omega (arith, size)) in
    sym (inside_written old 0 (x ∷ xs) (omega arith) (omega (arith, size))) ∙ ap (λ l. (x ∷ xs) ++ l) none ∙ append-nil (x ∷ xs)
