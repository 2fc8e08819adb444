-- The bytes of mini sectors and their places, by index.
use Rattle.std.proofs.Common.{◌≡◌, ℕ, ◌+◌, ◌-◌, ◌*◌, ◌/◌, ◌%◌, ◌<◌, ◌≤◌, ◌⊎◌, inl, inr, List, [], ◌∷◌, ◌++◌, length, take, drop, get_or, suc, refl, ap, sym, subst, ◌∙◌, arith, append_assoc, append-nil, length-take, length-append, ⊎_elim}
use Rattle.std.specs.Prelude.{min, slice_range}
use Rattle.std.specs.List.{flat_map, range_with_len, AllByRecursion}
use Rattle.std.proofs.lemmas.Bool.Decides.{leb_tells}
use Rattle.std.proofs.lemmas.Grind.{flat_map-append}
use Rattle.std.proofs.lemmas.List.{ext_get_or, get_or-take, get_or_append_left, take_all}
use Rattle.cfb_medium.specs.Bytes.{overwritten}
use Rattle.cfb_medium.specs.Versions.{sector_len}
use Rattle.cfb_medium.specs.declared.version.Version.{Version}
use Rattle.cfb_chains.proofs.ChainWriting.{length_within, split_below}
use Rattle.cfb_chains.proofs.Overwriting.{get_filled, get_written, length-filled}
use Rattle.cfb_fat.proofs.Words.{filled_is}
use Rattle.cfb_mini.specs.Minis.{mini_joined, mini_place, mini_sector, AreInside}
use Rattle.cfb_mini.proofs.MiniParts.{get_mini, length-mini_joined}
use Rattle.cfb_mini.proofs.Parts.{parts_are}
use Rattle.cfb_chain_io.specs.ChainEffects.{place_of}
use Rattle.cfb_sectors.specs.Sectors.{places, sector_start}
use Rattle.cfb_stream_writes.specs.Streams.{resized}
use Rattle.cfb_stream_writes.proofs.LongBytes.{all_by_index, get_places, length-places, length-resized, place_kept}
use Rattle.cfb_chain_io.proofs.FrontWritten.{all_at}
use Rattle.cfb_mini.proofs.Padded.{joined_padded, zeros}

-- the parts of 64 bytes of a list, at these mini sectors
abbrev pub parts_of : List ℕ → List ℕ → List ℕ
parts_of xs minis = flat_map (λ n. slice_range xs (64 * n) (64 * n + 64)) minis

-- parts of a front
part_front : (xs ys : List ℕ) (n : ℕ) → 64 * n + 64 ≤ length xs → slice_range (xs ++ ys) (64 * n) (64 * n + 64) ≡ slice_range xs (64 * n) (64 * n + 64)
part_front xs ys n inside =
    let size : 64 ≡ 64 * n + 64 - 64 * n = omega arith in
    let long = length-append xs ys in
    let filled : mini_sector (xs ++ ys) n ≡ mini_sector xs n =
    ext_get_or 0 _ _ (length-filled (xs ++ ys) (64 * n) 64 ∙ sym (length-filled xs (64 * n) 64)) (λ i below.
    let within : i < 64 = let all = length-filled (xs ++ ys) (64 * n) 64 in omega (arith, below, all) in
    get_filled (xs ++ ys) (64 * n) 64 i within ∙ get_or_append_left xs ys 0 (64 * n + i) (omega (arith, within, inside)) ∙ sym (get_filled xs (64 * n) 64 i within)) in
    ap (λ k. take k (drop (64 * n) (xs ++ ys))) (sym size) ∙ sym (filled_is (xs ++ ys) (64 * n) 64 (omega (arith, inside, long))) ∙ filled ∙ filled_is xs (64 * n) 64 inside ∙ ap (λ k. take k (drop (64 * n) xs)) size

pub parts_front : (xs ys minis : List ℕ) → AreInside (length xs) minis → parts_of (xs ++ ys) minis ≡ parts_of xs minis
parts_front xs ys [] inside = refl
parts_front xs ys (n ∷ minis) inside =
    ap (λ l. l ++ parts_of (xs ++ ys) minis) (part_front xs ys n (inside 0 (omega arith)))
    ∙ ap (λ l. slice_range xs (64 * n) (64 * n + 64) ++ l) (parts_front xs ys minis (λ k below. inside (suc k) (omega (arith, below))))

pub places_both : (v : Version) (xs ys : List ℕ) → places v (xs ++ ys) ≡ places v xs ++ places v ys
places_both v [] ys = refl
places_both v (x ∷ xs) ys =
    ap (λ l. range_with_len (sector_start v x) (sector_len v) ++ l) (places_both v xs ys) ∙ sym (append_assoc (range_with_len (sector_start v x) (sector_len v)) (places v xs) (places v ys))

-- where a byte of a mini chain stands lies in the mini stream
pub place_below : (minis : List ℕ) (len k : ℕ) → AreInside len minis → k < 64 * length minis → mini_place minis k < len
place_below minis len k inside below =
    let one = inside (k / 64) (omega (arith, below)) in
    under (get_or minis (k / 64) 0) (k % 64) len (omega arith) one
  where
    under : (x r n : ℕ) → r < 64 → 64 * x + 64 ≤ n → 64 * x + r < n
    under x r n few below = omega (arith, few, below)

-- a place of mini sectors, by its index
part_place : (v : Version) (ids minis : List ℕ) (k : ℕ) → AreInside (length ids * sector_len v) minis → k < 64 * length minis → get_or (parts_of (places v ids) minis) k 0 ≡ place_of v ids (mini_place minis k)
part_place v ids minis k inside below =
    let all = places v ids in
    let is = parts_are all minis (subst (λ n. AreInside n minis) (sym (length-places v ids)) inside) in
    let split : 64 * (k / 64) + k % 64 ≡ k = omega arith in
    let there : k / 64 < length minis = omega (arith, below) in
    ap (λ l. get_or l k 0) (sym is) ∙ ap (λ i. get_or (mini_joined all minis) i 0) (sym split) ∙ get_mini all minis (k / 64) (k % 64) there (omega arith) ∙ get_places v ids (mini_place minis k) (place_below minis (length ids * sector_len v) k inside below)

-- as many places of mini sectors lie in a file as lie there by index, and the other way round
pub mini_places_there : (v : Version) (ids minis : List ℕ) (few len : ℕ) → AreInside (length ids * sector_len v) minis → len ≤ 64 * length minis → ((k : ℕ) → k < len → place_of v ids (mini_place minis k) < few)
    → AllByRecursion (λ p. p < few) (take len (parts_of (places v ids) minis))
mini_places_there v ids minis few len inside fits each =
    let all = parts_of (places v ids) minis in
    all_by_index (λ p. p < few) (take len all) (λ k below.
    let size = length-take len all in
    let early : k < len = omega (arith, below, size) in
    subst (λ p. p < few) (sym (get_or-take len all k 0 early ∙ part_place v ids minis k inside (omega (arith, early, fits)))) (each k early))

pub mini_place_there : (v : Version) (ids minis : List ℕ) (few len k : ℕ) → AreInside (length ids * sector_len v) minis → len ≤ 64 * length minis → AllByRecursion (λ p. p < few) (take len (parts_of (places v ids) minis)) → k < len
    → place_of v ids (mini_place minis k) < few
mini_place_there v ids minis few len k inside fits all below =
    let parts = parts_of (places v ids) minis in
    let is = parts_are (places v ids) minis (subst (λ n. AreInside n minis) (sym (length-places v ids)) inside) in
    let long = ap length (sym is) ∙ length-mini_joined (places v ids) minis in
    let size = length-take len parts in
    subst (λ p. p < few) (get_or-take len parts k 0 below ∙ part_place v ids minis k inside (omega (arith, below, fits))) (all_at (λ p. p < few) (take len parts) k all (omega (arith, size, long, fits, below)))

-- the front of a mini chain has its bytes, and zeros behind the mini stream leave them as they are
pub get_front : (s t front more all : List ℕ) (count k : ℕ) → t ≡ s ++ zeros count → all ≡ front ++ more → k < 64 * length front → get_or (mini_joined t all) k 0 ≡ get_or (mini_joined s front) k 0
get_front s t front more all count k stream is below =
    ap (λ l. get_or (mini_joined t l) k 0) is ∙ ap (λ l. get_or l k 0) (flat_map-append (mini_sector t) front more)
    ∙ get_or_append_left (mini_joined t front) (mini_joined t more) 0 k (let size = length-mini_joined t front in omega (arith, size, below))
    ∙ ap (λ u. get_or (mini_joined u front) k 0) stream ∙ ap (λ l. get_or l k 0) (joined_padded s count front)

-- and its places
pub place_front : (v : Version) (ids later more_ids front more all : List ℕ) (k : ℕ) → later ≡ ids ++ more_ids → all ≡ front ++ more → AreInside (length ids * sector_len v) front → k < 64 * length front
    → place_of v later (mini_place all k) ≡ place_of v ids (mini_place front k)
place_front v ids later more_ids front more all k stream is inside below =
    let p = mini_place front k in
    let one : mini_place all k ≡ p = ap (λ n. 64 * n + k % 64) (ap (λ l. get_or l (k / 64) 0) is ∙ get_or_append_left front more 0 (k / 64) (omega (arith, below))) in
    let there = split_below v p (length ids) (place_below front (length ids * sector_len v) k inside below) in
    ap (place_of v later) one ∙ sym (place_kept v ids later more_ids (length ids) p (stream ∙ ap (λ l. l ++ more_ids) (sym (take_all (length ids) ids (let same : length ids ≤ length ids = omega arith in same)))) there there)

-- bytes that lie over the front of others
pub over_front : (xs bytes : List ℕ) → length bytes ≤ length xs → take (length bytes) (overwritten xs 0 bytes) ≡ bytes
over_front xs bytes fits =
    let long : length (overwritten xs 0 bytes) ≡ length xs = length_within xs bytes 0 (omega (arith, fits)) in
    let size = length-take (length bytes) (overwritten xs 0 bytes) in
    ext_get_or 0 _ _ (omega (arith, size, long, fits)) (λ k below.
    let early : k < length bytes = omega (arith, below, size) in
    get_or-take (length bytes) (overwritten xs 0 bytes) k 0 early
    ∙ ap (λ i. get_or (overwritten xs 0 bytes) i 0) (let same : k ≡ 0 + k = omega arith in same) ∙ get_written xs 0 bytes k early)

-- bytes that are all there
pub resized_whole : (bytes : List ℕ) (len : ℕ) → length bytes ≡ len → resized len bytes ≡ bytes
resized_whole bytes len same =
    let none : len - length bytes ≡ 0 = omega (arith, same) in
    ap (λ n. take len bytes ++ zeros n) none ∙ append-nil (take len bytes) ∙ take_all len bytes (omega (arith, same))

-- what was resized to all of them, or to so many
pub resized_again : (content : List ℕ) (count len : ℕ) → (count ≡ len) ⊎ (count ≡ length content) → resized len (resized count content) ≡ resized len content
resized_again content count len (inl same) = ap (λ n. resized len (resized n content)) same ∙ resized_whole (resized len content) len (length-resized content len)
resized_again content count len (inr whole) = ap (resized len) (resized_whole content count (sym whole))

-- those at the front, padded
pub resized_front : (content : List ℕ) (size count : ℕ) → length content ≡ size → resized count (take (min size count) content) ≡ resized count content
resized_front content size count same = ⊎_elim
    (λ more.
    let is : min size count ≡ size = let m = more.1 in omega (arith, m) in
    ap (resized count) (ap (λ n. take n content) is ∙ take_all size content (omega (arith, same))))
    (λ fewer.
    let is : min size count ≡ count = let f = fewer.1 in omega (arith, f) in
    let none : count - length content ≡ 0 = let f = fewer.1 in omega (arith, f, same) in
    let size_is : length (take count content) ≡ count = let l = length-take count content in let f = fewer.1 in omega (arith, l, f, same) in
    ap (λ n. resized count (take n content)) is ∙ resized_whole (take count content) count size_is ∙ sym (ap (λ n. take count content ++ zeros n) none ∙ append-nil (take count content)))
    (leb_tells size count)
