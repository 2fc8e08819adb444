-- Reading a pool's two streams finds just the pools that they hold.
use Rattle.std.proofs.Common.{◌≡◌, ℕ, zero, suc, ◌+◌, ◌-◌, ◌*◌, ◌/◌, ◌%◌, ◌^◌, ◌<◌, ◌≤◌, inl, inr, Bool, true, false, cond, List, [], ◌∷◌, ◌++◌, map, length, take, drop, get_or, Option, Some, None, Result, Ok, Err, refl, ap, ap₂, sym, ◌∙◌, subst, arith, append_assoc}
use Rattle.std.specs.Prelude.{nat_lt, nat_le, ◌==◌, ◌&&◌}
use Rattle.std.specs.List.{flat_map}
use Rattle.std.proofs.lemmas.Bool.Decides.{nat_tests}
use Rattle.std.proofs.lemmas.List.{take-append-drop, length-take-le, length-map}
use Rattle.cfb_medium.specs.declared.error.Error.{Error}
use Rattle.cfb_medium.specs.declared.error.Error.TheVariants.{InvalidData, UnexpectedEof}
use Rattle.msi_texts.specs.declared.codepage.CodePage.{CodePage}
use Rattle.msi_texts.specs.Numbers.{le_bytes, le_number}
use Rattle.msi_texts.specs.Results.{◌>>=◌, unless_not, or_refused}
use Rattle.msi_texts.specs.Reading.{bytes_at, number_at}
use Rattle.msi_texts.specs.Page.{page_id}
use Rattle.msi_pool.specs.Pool.{Pool, PoolEntry, StoredText, IsHead, AreHeads, Pooled, width_bit}
use Rattle.msi_pool.specs.PoolReading.{Heads, Begun, length_at, head_at, heads_at, page_number, begun, texts_at, place_read, places_at, pool_of}
use Rattle.msi_pool.proofs.PoolHeads.{bind_cases, rest_of, head_at-rest}

-- each of these is a byte
abbrev pub AreBytes : List ℕ → Type 0
AreBytes [] = Unit {0}
AreBytes (b ∷ bs) = (b < 256) × AreBytes bs

pub bytes_by_index : (bs : List ℕ) → ((i : ℕ) → get_or bs i 0 < 256) → AreBytes bs
bytes_by_index [] h = tt
bytes_by_index (b ∷ bs) h = (h 0, bytes_by_index bs (λ i. h (suc i)))

take_bytes : (n : ℕ) (bs : List ℕ) → AreBytes bs → AreBytes (take n bs)
take_bytes zero bs h = tt
take_bytes (suc n) [] h = tt
take_bytes (suc n) (b ∷ bs) h = (h.0, take_bytes n bs h.1)

drop_bytes : (n : ℕ) (bs : List ℕ) → AreBytes bs → AreBytes (drop n bs)
drop_bytes zero bs h = h
drop_bytes (suc n) [] h = tt
drop_bytes (suc n) (b ∷ bs) h = drop_bytes n bs h.1

-- bytes are those of their number
le_number-back : (n : ℕ) (bs : List ℕ) → n ≤ length bs → AreBytes bs → le_bytes n (le_number (take n bs)) ≡ take n bs
le_number-back zero bs l h = refl
le_number-back (suc n) [] l h = absurd (omega arith)
le_number-back (suc n) (b ∷ bs) l h =
    let rest = le_number (take n bs) in
    let low : (b + 256 * rest) % 256 ≡ b = omega (arith, h.0) in
    let high : (b + 256 * rest) / 256 ≡ rest = omega (arith, h.0) in
    ap₂ (λ x xs. x ∷ xs) low (ap (le_bytes n) high ∙ le_number-back n bs (omega arith) h.1)

below_two : (bs : List ℕ) → AreBytes bs → le_number (take 2 bs) < 2 ^ 16
below_two [] h = omega arith
below_two (a ∷ []) h = omega (arith, h.0)
below_two (a ∷ b ∷ bs) h = omega (arith, h.0, h.1.0)

below_four : (bs : List ℕ) → AreBytes bs → le_number (take 4 bs) < 2 ^ 32
below_four [] h = omega arith
below_four (a ∷ []) h = omega (arith, h.0)
below_four (a ∷ b ∷ []) h = omega (arith, h.0, h.1.0)
below_four (a ∷ b ∷ c ∷ []) h = omega (arith, h.0, h.1.0, h.1.1.0)
below_four (a ∷ b ∷ c ∷ d ∷ bs) h = omega (arith, h.0, h.1.0, h.1.1.0, h.1.1.1.0)

-- what a number's reading tells
record Took (n m : ℕ) (bytes rest : List ℕ) : Type 0 where
  is : m ≡ le_number (take n bytes)
  cut : bytes ≡ le_bytes n m ++ rest
  are_bytes : AreBytes rest

abbrev pub pair_ok : {A : Type 0} → A → List ℕ → Result (A × List ℕ) Error
pair_ok x rest = Ok (x, rest)

took : (n m : ℕ) (bytes rest : List ℕ) → AreBytes bytes → number_at n bytes ≡ Ok (m, rest) → Took n m bytes rest
took n m bytes rest h e =
    let t = bind_cases (bytes_at n bytes) (λ b. pair_ok (le_number b.0) b.1) (m, rest) e in
    go (nat_lt (length bytes) n) refl t.0 t.1 (ap (number_of m) t.2) (ap rest_of t.2)
  where
    number_of : ℕ → Result (ℕ × List ℕ) Error → ℕ
    number_of d (Ok x) = x.0
    number_of d (Err e) = d

    front_of : Result (List ℕ × List ℕ) Error → List ℕ
    front_of (Ok x) = x.0
    front_of (Err e) = []

    go : (b : Bool) → nat_lt (length bytes) n ≡ b → (x : List ℕ × List ℕ) → cond b (Err UnexpectedEof) (pair_ok (take n bytes) (drop n bytes)) ≡ Ok x → le_number x.0 ≡ m → x.1 ≡ rest → Took n m bytes rest
    go true f x g num last = cc
    go false f x g num last =
        let long : n ≤ length bytes = grind (arith, nat_tests, f) in
        let front : take n bytes ≡ x.0 = ap front_of g in
        let back : drop n bytes ≡ rest = ap rest_of g ∙ last in
        let is : m ≡ le_number (take n bytes) = sym num ∙ ap le_number (sym front) in
        record {
          is = is;
          cut = sym (take-append-drop n bytes) ∙ ap₂ (λ x y. x ++ y) (sym (ap (le_bytes n) is ∙ le_number-back n bytes long h)) back;
          are_bytes = subst AreBytes back (drop_bytes n bytes h);
        }

-- a head that is read is one
record TookHead (head : ℕ × ℕ) (bytes rest : List ℕ) : Type 0 where
  front : List ℕ
  is : IsHead head.0 head.1 front
  cut : bytes ≡ front ++ rest
  are_bytes : AreBytes rest

head_taken : (len count own : ℕ) (bytes mid last rest : List ℕ) → bytes ≡ le_bytes 2 len ++ mid → mid ≡ le_bytes 2 count ++ last → AreBytes last → len < 2 ^ 16 → count < 2 ^ 16 →
    length_at len count last ≡ Ok (own, rest) → TookHead (own, count) bytes rest
head_taken len count own bytes mid last rest cut1 cut2 h small few e = go (len == 0) (nat_lt 0 count) refl refl e
  where
    number_of : Result (ℕ × List ℕ) Error → ℕ
    number_of (Ok x) = x.0
    number_of (Err e) = own

    short : len ≡ own → last ≡ rest → (len ≡ 0 → count ≡ 0) → TookHead (own, count) bytes rest
    short same end none = record {
      front = le_bytes 2 len ++ le_bytes 2 count;
      is = (omega (arith, same, small), few, inl (omega (arith, same, small), λ z. none (same ∙ z), ap (λ n. le_bytes 2 n ++ le_bytes 2 count) same));
      cut = cut1 ∙ ap (λ x. le_bytes 2 len ++ x) (cut2 ∙ ap (λ x. le_bytes 2 count ++ x) end);
      are_bytes = subst AreBytes end h;
    }

    go : (a b : Bool) → (len == 0) ≡ a → nat_lt 0 count ≡ b → cond (a && b) (number_at 4 last) (pair_ok len last) ≡ Ok (own, rest) → TookHead (own, count) bytes rest
    go true true f g k =
        let t = took 4 own last rest h k in
        let none : len ≡ 0 = grind (arith, nat_tests, f) in
        record {
          front = le_bytes 2 0 ++ le_bytes 2 count ++ le_bytes 4 own;
          is = (subst (λ n. n < 2 ^ 32) (sym t.is) (below_four last h), few, inr (grind (arith, nat_tests, g), refl));
          cut = cut1 ∙ ap₂ (λ n x. le_bytes 2 n ++ x) none (cut2 ∙ ap (λ x. le_bytes 2 count ++ x) t.cut);
          are_bytes = t.are_bytes;
        }
    go true false f g k = short (ap number_of k) (ap rest_of k) (λ z. grind (arith, nat_tests, g))
    go false b f g k = short (ap number_of k) (ap rest_of k) (λ z. absurd (grind (arith, nat_tests, f, z)))

took_head : (head : ℕ × ℕ) (bytes rest : List ℕ) → AreBytes bytes → head_at bytes ≡ Ok (head, rest) → TookHead head bytes rest
took_head head bytes rest h e =
    let len = bind_cases (number_at 2 bytes) (λ len. number_at 2 len.1 >>= λ count. length_at len.0 count.0 count.1 >>= λ own. head_ok own.0 count.0 own.1) (head, rest) e in
    let count = bind_cases (number_at 2 len.0.1) (λ count. length_at len.0.0 count.0 count.1 >>= λ own. head_ok own.0 count.0 own.1) (head, rest) len.2 in
    let own = bind_cases (length_at len.0.0 count.0.0 count.0.1) (λ own. head_ok own.0 count.0.0 own.1) (head, rest) count.2 in
    let t = took 2 len.0.0 bytes len.0.1 h len.1 in
    let u = took 2 count.0.0 len.0.1 count.0.1 t.are_bytes count.1 in
    let same_head : (own.0.0, count.0.0) ≡ head = ap (head_in head) own.2 in
    let same_rest : own.0.1 ≡ rest = ap rest_of own.2 in
    subst (λ x. TookHead x bytes rest) same_head (subst (TookHead (own.0.0, count.0.0) bytes) same_rest
    (head_taken len.0.0 count.0.0 own.0.0 bytes len.0.1 count.0.1 own.0.1 t.cut u.cut u.are_bytes (subst (λ n. n < 2 ^ 16) (sym t.is) (below_two bytes h)) (subst (λ n. n < 2 ^ 16) (sym u.is) (below_two len.0.1 t.are_bytes)) own.1))
  where
    head_ok : ℕ → ℕ → List ℕ → Result ((ℕ × ℕ) × List ℕ) Error
    head_ok own count rest = Ok ((own, count), rest)

    head_in : ℕ × ℕ → Result ((ℕ × ℕ) × List ℕ) Error → ℕ × ℕ
    head_in d (Ok x) = x.0
    head_in d (Err e) = d

-- the heads of a pool, by their numbers alone
abbrev HeadsAre : Heads → List ℕ → Type 0
HeadsAre [] bytes = length bytes < 2
HeadsAre (h ∷ hs) bytes = (head : List ℕ) × (rest : List ℕ) × IsHead h.0 h.1 head × HeadsAre hs rest × (bytes ≡ head ++ rest)

took_heads : (most : ℕ) (bytes : List ℕ) (hs : Heads) → AreBytes bytes → length bytes ≤ most → heads_at most bytes ≡ Ok hs → HeadsAre hs bytes
took_heads zero bytes hs h few e =
    let none : [] ≡ hs = ap heads_in e in
    subst (λ z. HeadsAre z bytes) none (omega arith)
  where
    heads_in : Result Heads Error → Heads
    heads_in (Ok x) = x
    heads_in (Err e) = hs
took_heads (suc most) bytes hs h few e = go (nat_lt (length bytes) 2) refl (λ rest more b l. took_heads most rest more b l) e
  where
    heads_in : Result Heads Error → Heads
    heads_in (Ok x) = x
    heads_in (Err e) = hs

    go : (b : Bool) → nat_lt (length bytes) 2 ≡ b → ((rest : List ℕ) (more : Heads) → AreBytes rest → length rest ≤ most → heads_at most rest ≡ Ok more → HeadsAre more rest) →
        cond b (Ok []) (head_at bytes >>= λ head. heads_at most head.1 >>= λ heads. Ok (head.0 ∷ heads)) ≡ Ok hs → HeadsAre hs bytes
    go true f ih k =
        let none : [] ≡ hs = ap heads_in k in
        let short : length bytes < 2 = grind (arith, nat_tests, f) in
        subst (λ z. HeadsAre z bytes) none short
    go false f ih k =
        let first = bind_cases (head_at bytes) (λ head. heads_at most head.1 >>= λ heads. Ok (head.0 ∷ heads)) hs k in
        let others = bind_cases (heads_at most first.0.1) (λ heads. Ok (first.0.0 ∷ heads)) hs first.2 in
        let t = took_head first.0.0 bytes first.0.1 h first.1 in
        let shorter = head_at-rest bytes first.0.1 first.0.0 first.1 in
        subst (λ z. HeadsAre z bytes) (ap heads_in others.2)
        (t.front, first.0.1, t.is, ih first.0.1 others.0 t.are_bytes (omega arith) others.1, t.cut)

-- the length and the count of what is stored
abbrev pub head_in_numbers : StoredText → ℕ × ℕ
head_in_numbers s = (length s.0, s.1)

heads_of_stored : (ss : List StoredText) (bytes : List ℕ) → HeadsAre (map head_in_numbers ss) bytes → AreHeads ss bytes
heads_of_stored [] bytes h = h
heads_of_stored (s ∷ ss) bytes h = (h.0, h.1, h.2, heads_of_stored ss h.1 h.3, h.4)

-- the texts that are read have these lengths and counts, and their bytes stand one after the other
record TookTexts (hs : Heads) (bytes : List ℕ) (ss : List StoredText) : Type 0 where
  numbers : map head_in_numbers ss ≡ hs
  unread : List ℕ
  cut : bytes ≡ flat_map (λ s. s.0) ss ++ unread

cut_bytes : (n : ℕ) (bytes : List ℕ) (x : List ℕ × List ℕ) → bytes_at n bytes ≡ Ok x → (length x.0 ≡ n) × (bytes ≡ x.0 ++ x.1)
cut_bytes n bytes x e = go (nat_lt (length bytes) n) refl e
  where
    front_of : Result (List ℕ × List ℕ) Error → List ℕ
    front_of (Ok x) = x.0
    front_of (Err e) = []

    go : (b : Bool) → nat_lt (length bytes) n ≡ b → cond b (Err UnexpectedEof) (pair_ok (take n bytes) (drop n bytes)) ≡ Ok x → (length x.0 ≡ n) × (bytes ≡ x.0 ++ x.1)
    go true f g = cc
    go false f g =
        let long : n ≤ length bytes = grind (arith, nat_tests, f) in
        (ap length (sym (ap front_of g)) ∙ length-take-le n bytes long, sym (take-append-drop n bytes) ∙ ap₂ (λ y z. y ++ z) (ap front_of g) (ap rest_of g))

abbrev pub one_more : List ℕ → ℕ → List StoredText → Result (List StoredText) Error
one_more text count ss = Ok ((text, count) ∷ ss)

took_texts : (hs : Heads) (bytes : List ℕ) (ss : List StoredText) → texts_at hs bytes ≡ Ok ss → TookTexts hs bytes ss
took_texts [] bytes ss e = subst (TookTexts [] bytes) (ap stored_in e) (record { numbers = refl; unread = bytes; cut = refl })
  where
    stored_in : Result (List StoredText) Error → List StoredText
    stored_in (Ok x) = x
    stored_in (Err e) = ss
took_texts (h ∷ hs) bytes ss e =
    let text = bind_cases (bytes_at h.0 bytes) (λ b. texts_at hs b.1 >>= λ stored. one_more b.0 h.1 stored) ss e in
    let more = bind_cases (texts_at hs text.0.1) (one_more text.0.0 h.1) ss text.2 in
    let cut = cut_bytes h.0 bytes text.0 text.1 in
    let rest = took_texts hs text.0.1 more.0 more.1 in
    subst (TookTexts (h ∷ hs) bytes) (ap stored_in more.2) (record {
      numbers = ap₂ (λ n ns. (n, h.1) ∷ ns) cut.0 rest.numbers;
      unread = rest.unread;
      cut = cut.1 ∙ ap (λ x. text.0.0 ++ x) rest.cut ∙ sym (append_assoc text.0.0 (flat_map (λ s. s.0) more.0) rest.unread);
    })
  where
    stored_in : Result (List StoredText) Error → List StoredText
    stored_in (Ok x) = x
    stored_in (Err e) = ss

page_found : (o : Option CodePage) (page : CodePage) → or_refused o InvalidData ≡ Ok page → o ≡ Some page
page_found None page e = cc
page_found (Some p) page e = cc

test_held : (b : Bool) (u : Unit {0}) → unless_not b InvalidData ≡ Ok u → b ≡ true
test_held true u e = refl
test_held false u e = cc

abbrev pub width_of : ℕ → Bool
width_of n = nat_le (2 ^ 31) n

page_and_width : (n : ℕ) → n ≡ page_number n + width_bit (width_of n)
page_and_width n = go (width_of n) refl
  where
    go : (b : Bool) → width_of n ≡ b → n ≡ cond b (n - 2 ^ 31) n + width_bit b
    go true e = grind (arith, nat_tests, e)
    go false e = omega arith

abbrev pub begun_with : CodePage → ℕ → Heads → Begun
begun_with page n heads = record { page = page; long = width_of n; heads = heads }

-- what is read is what the streams hold
pub read_pool_is_pooled : (pool_bytes data_bytes : List ℕ) (b : Begun) (pool : Pool) → AreBytes pool_bytes → begun pool_bytes ≡ Ok b → pool_of b data_bytes ≡ Ok pool → Pooled pool_bytes data_bytes pool
read_pool_is_pooled pool_bytes data_bytes b pool h e f =
    let id = bind_cases (number_at 4 pool_bytes) (λ id. or_refused (page_id (page_number id.0)) InvalidData >>= λ page. heads_at (length id.1) id.1 >>= λ heads. unless_not (nat_lt (length heads) (2 ^ 32)) InvalidData >>= λ _. begun_ok page id.0 heads) b e in
    let page = bind_cases (or_refused (page_id (page_number id.0.0)) InvalidData) (λ page. heads_at (length id.0.1) id.0.1 >>= λ heads. unless_not (nat_lt (length heads) (2 ^ 32)) InvalidData >>= λ _. begun_ok page id.0.0 heads) b id.2 in
    let heads = bind_cases (heads_at (length id.0.1) id.0.1) (λ heads. unless_not (nat_lt (length heads) (2 ^ 32)) InvalidData >>= λ _. begun_ok page.0 id.0.0 heads) b page.2 in
    let few = bind_cases (unless_not (nat_lt (length heads.0) (2 ^ 32)) InvalidData) (λ _. begun_ok page.0 id.0.0 heads.0) b heads.2 in
    let same : begun_with page.0 id.0.0 heads.0 ≡ b = ap (begun_in b) few.2 in
    let texts : pool_of (begun_with page.0 id.0.0 heads.0) data_bytes ≡ Ok pool = subst (λ z. pool_of z data_bytes ≡ Ok pool) (sym same) f in
    let places = bind_cases (places_at page.0 heads.0 data_bytes) (λ places. pool_ok page.0 id.0.0 places) pool texts in
    let stored = bind_cases (texts_at heads.0 data_bytes) (λ stored. places_ok page.0 stored) places.0 places.1 in
    let t = took 4 id.0.0 pool_bytes id.0.1 h id.1 in
    let read = took_texts heads.0 data_bytes stored.0 stored.1 in
    let number : length heads.0 < 2 ^ 32 = (let z = test_held (nat_lt (length heads.0) (2 ^ 32)) few.0 few.1 in grind (arith, nat_tests, z)) in
    let written = ap (places_in places.0) stored.2 in
    subst (Pooled pool_bytes data_bytes) (ap (pool_in pool) places.2) (record {
      id = page_number id.0.0;
      heads = id.0.1;
      stored = stored.0;
      unread = read.unread;
      page = page_found (page_id (page_number id.0.0)) page.0 page.1;
      begins = t.cut ∙ ap (λ n. le_bytes 4 n ++ id.0.1) (page_and_width id.0.0);
      heads_are = heads_of_stored stored.0 id.0.1 (subst (λ z. HeadsAre z id.0.1) (sym read.numbers) (took_heads (length id.0.1) id.0.1 heads.0 t.are_bytes (omega arith) heads.1));
      few = subst (λ n. n < 2 ^ 32) (ap length (sym read.numbers) ∙ length-map stored.0 head_in_numbers) number;
      joined = read.cut;
      texts = sym written;
    })
  where
    begun_ok : CodePage → ℕ → Heads → Result Begun Error
    begun_ok page n heads = Ok (begun_with page n heads)

    begun_in : Begun → Result Begun Error → Begun
    begun_in d (Ok x) = x
    begun_in d (Err e) = d

    pool_with : CodePage → ℕ → List PoolEntry → Pool
    pool_with page n places = record { page = page; long = width_of n; places = places }

    pool_ok : CodePage → ℕ → List PoolEntry → Result Pool Error
    pool_ok page n places = Ok (pool_with page n places)

    pool_in : Pool → Result Pool Error → Pool
    pool_in d (Ok x) = x
    pool_in d (Err e) = d

    places_ok : CodePage → List StoredText → Result (List PoolEntry) Error
    places_ok page stored = Ok (map (place_read page) stored)

    places_in : List PoolEntry → Result (List PoolEntry) Error → List PoolEntry
    places_in d (Ok x) = x
    places_in d (Err e) = d
