-- The pool that two streams hold is found in them.
use Rattle.std.proofs.Common.{◌≡◌, ℕ, zero, suc, ◌+◌, ◌^◌, ◌<◌, ◌≤◌, ◌⊎◌, inl, inr, Bool, true, false, cond, List, [], ◌∷◌, ◌++◌, map, length, take, drop, Option, Some, None, Result, Ok, Err, refl, ap, ap₂, sym, ◌∙◌, subst, arith, append_assoc}
use Rattle.std.specs.Prelude.{nat_lt, ◌==◌, ◌&&◌, find}
use Rattle.std.specs.List.{flat_map}
use Rattle.std.proofs.lemmas.Bool.Decides.{nat_tests}
use Rattle.std.proofs.lemmas.List.{length-append, length-map}
use Rattle.std.proofs.Math.Seq.{take-append_seam, drop-append_seam}
use Rattle.cfb_medium.specs.declared.error.Error.{Error}
use Rattle.cfb_medium.specs.declared.error.Error.TheVariants.{InvalidData, UnexpectedEof}
use Rattle.msi_texts.specs.declared.codepage.CodePage.{CodePage}
use Rattle.msi_texts.specs.Numbers.{le_bytes, le_number}
use Rattle.msi_texts.specs.Results.{◌>>=◌, unless_not, or_refused}
use Rattle.msi_texts.specs.Reading.{bytes_at, number_at}
use Rattle.msi_texts.specs.declared.codepage.CodePage.TheVariants as page
use Rattle.msi_texts.specs.Page.{page_id, id_of, all_pages}
use Rattle.msi_pool.specs.Pool.{Pool, PoolEntry, StoredText, IsHead, AreHeads, Pooled, width_bit}
use Rattle.msi_pool.specs.PoolReading.{Heads, Begun, length_at, head_at, heads_at, page_number, begun, texts_at, place_read, pool_of}
use Rattle.msi_pool.proofs.PoolReads.{head_in_numbers, one_more, pair_ok, begun_with, width_of}
use Rattle.msi_texts.proofs.NumberBytes.{le_back}

-- what stands in front is taken
taken : (xs rest : List ℕ) → bytes_at (length xs) (xs ++ rest) ≡ pair_ok xs rest
taken xs rest = go (nat_lt (length (xs ++ rest)) (length xs)) refl
  where
    go : (b : Bool) → nat_lt (length (xs ++ rest)) (length xs) ≡ b → cond b (Err UnexpectedEof) (pair_ok (take (length xs) (xs ++ rest)) (drop (length xs) (xs ++ rest))) ≡ pair_ok xs rest
    go true e = absurd (grind (arith, nat_tests, e, length-append xs rest))
    go false e = ap₂ pair_ok (take-append_seam xs rest) (drop-append_seam xs rest)

number_taken : (xs rest : List ℕ) → number_at (length xs) (xs ++ rest) ≡ pair_ok (le_number xs) rest
number_taken xs rest = ap (λ r. r >>= λ b. pair_ok (le_number b.0) b.1) (taken xs rest)

two_taken : (n : ℕ) (rest : List ℕ) → n < 2 ^ 16 → number_at 2 (le_bytes 2 n ++ rest) ≡ pair_ok n rest
two_taken n rest h = number_taken (le_bytes 2 n) rest ∙ ap (λ m. pair_ok m rest) (le_back 2 n h)

four_taken : (n : ℕ) (rest : List ℕ) → n < 2 ^ 32 → number_at 4 (le_bytes 4 n ++ rest) ≡ pair_ok n rest
four_taken n rest h = number_taken (le_bytes 4 n) rest ∙ ap (λ m. pair_ok m rest) (le_back 4 n h)

abbrev head_ok : ℕ → ℕ → List ℕ → Result ((ℕ × ℕ) × List ℕ) Error
head_ok len count rest = Ok ((len, count), rest)

-- the number of a length and of a count, and what follows
after_numbers : (len count : ℕ) (rest : List ℕ) → len < 2 ^ 16 → count < 2 ^ 16 →
    head_at (le_bytes 2 len ++ (le_bytes 2 count ++ rest)) ≡ (length_at len count rest >>= λ own. head_ok own.0 count own.1)
after_numbers len count rest small few =
    ap (λ r. r >>= λ len. number_at 2 len.1 >>= λ count. length_at len.0 count.0 count.1 >>= λ own. head_ok own.0 count.0 own.1) (two_taken len (le_bytes 2 count ++ rest) small)
    ∙ ap (λ r. r >>= λ count. length_at len count.0 count.1 >>= λ own. head_ok own.0 count.0 own.1) (two_taken count rest few)

own_length : (len count : ℕ) (rest : List ℕ) → (len ≡ 0 → count ≡ 0) → length_at len count rest ≡ pair_ok len rest
own_length len count rest none = go (len == 0) (nat_lt 0 count) refl refl
  where
    go : (a b : Bool) → (len == 0) ≡ a → nat_lt 0 count ≡ b → cond (a && b) (number_at 4 rest) (pair_ok len rest) ≡ pair_ok len rest
    go true true e f = absurd (let z : count ≡ 0 = none (grind (arith, nat_tests, e)) in grind (arith, nat_tests, f))
    go true false e f = refl
    go false b e f = refl

far_length : (count : ℕ) (bytes : List ℕ) → 0 < count → length_at 0 count bytes ≡ number_at 4 bytes
far_length count bytes some = let t : nat_lt 0 count ≡ true = grind (arith, nat_tests) in ap (λ b. cond b (number_at 4 bytes) (pair_ok 0 bytes)) t

-- a head is found
head_found : (len count : ℕ) (head rest : List ℕ) → IsHead len count head → head_at (head ++ rest) ≡ head_ok len count rest
head_found len count head rest h = go h.2
  where
    go : ((len < 2 ^ 16) × (len ≡ 0 → count ≡ 0) × (head ≡ le_bytes 2 len ++ le_bytes 2 count)) ⊎ ((0 < count) × (head ≡ le_bytes 2 0 ++ le_bytes 2 count ++ le_bytes 4 len)) → head_at (head ++ rest) ≡ head_ok len count rest
    go (inl x) =
        ap (λ z. head_at (z ++ rest)) x.2
        ∙ after_numbers len count rest x.0 h.1
        ∙ ap (λ r. r >>= λ own. head_ok own.0 count own.1) (own_length len count rest x.1)
    go (inr x) =
        ap (λ z. head_at (z ++ rest)) x.1
        ∙ after_numbers 0 count (le_bytes 4 len ++ rest) (omega arith) h.1
        ∙ ap (λ r. r >>= λ own. head_ok own.0 count own.1) (far_length count (le_bytes 4 len ++ rest) x.0 ∙ four_taken len rest h.0)

-- a head has four bytes or more
head_length : (len count : ℕ) (head : List ℕ) → IsHead len count head → 4 ≤ length head
head_length len count head h = go h.2
  where
    go : ((len < 2 ^ 16) × (len ≡ 0 → count ≡ 0) × (head ≡ le_bytes 2 len ++ le_bytes 2 count)) ⊎ ((0 < count) × (head ≡ le_bytes 2 0 ++ le_bytes 2 count ++ le_bytes 4 len)) → 4 ≤ length head
    go (inl x) = omega (arith, ap length x.2)
    go (inr x) = omega (arith, ap length x.1)

abbrev turn : ℕ → Bool → Result ((ℕ × ℕ) × List ℕ) Error → Result Heads Error
turn most none r = cond none (Ok []) (r >>= λ head. heads_at most head.1 >>= λ heads. Ok (head.0 ∷ heads))

heads_found : (most : ℕ) (ss : List StoredText) (bytes : List ℕ) → AreHeads ss bytes → length bytes ≤ most → heads_at most bytes ≡ Ok (map head_in_numbers ss)
heads_found zero [] bytes h few = refl
heads_found (suc most) [] bytes h few = let short : nat_lt (length bytes) 2 ≡ true = grind (arith, nat_tests) in ap (λ b. turn most b (head_at bytes)) short
heads_found zero (s ∷ ss) bytes h few = absurd (omega (arith, head_length (length s.0) s.1 h.0 h.2, ap length h.4, length-append h.0 h.1))
heads_found (suc most) (s ∷ ss) bytes h few =
    let long : nat_lt (length bytes) 2 ≡ false = grind (arith, nat_tests, head_length (length s.0) s.1 h.0 h.2, ap length h.4, length-append h.0 h.1) in
    let shorter : length h.1 ≤ most = omega (arith, head_length (length s.0) s.1 h.0 h.2, ap length h.4, length-append h.0 h.1) in
    ap (λ b. turn most b (head_at bytes)) long
    ∙ ap (turn most false) (ap head_at h.4 ∙ head_found (length s.0) s.1 h.0 h.1 h.2)
    ∙ ap (λ r. r >>= λ heads. heads_ok (head_in_numbers s ∷ heads)) (heads_found most ss h.1 h.3 shorter)
  where
    heads_ok : Heads → Result Heads Error
    heads_ok hs = Ok hs

texts_found : (ss : List StoredText) (unread : List ℕ) → texts_at (map head_in_numbers ss) (flat_map (λ s. s.0) ss ++ unread) ≡ Ok ss
texts_found [] unread = refl
texts_found (s ∷ ss) unread =
    ap (λ z. texts_at (map head_in_numbers (s ∷ ss)) z) (append_assoc s.0 (flat_map (λ s. s.0) ss) unread)
    ∙ ap (λ r. r >>= λ b. texts_at (map head_in_numbers ss) b.1 >>= λ stored. one_more b.0 s.1 stored) (taken s.0 (flat_map (λ s. s.0) ss ++ unread))
    ∙ ap (λ r. r >>= λ stored. one_more s.0 s.1 stored) (texts_found ss unread)

-- a page that is found has the number
found_passes : {A : Type 0} (test : A → Bool) (xs : List A) (x : A) → find test xs ≡ Some x → test x ≡ true
found_passes test [] x e = cc
found_passes {A = A} test (y ∷ ys) x e = go (test y) refl (found_passes test ys x) e
  where
    value_in : Option A → A
    value_in (Some z) = z
    value_in None = x

    go : (b : Bool) → test y ≡ b → (find test ys ≡ Some x → test x ≡ true) → cond b (Some y) (find test ys) ≡ Some x → test x ≡ true
    go true f ih g = ap test (sym (ap value_in g)) ∙ f
    go false f ih g = ih g

id_small : (page : CodePage) → id_of page < 2 ^ 31
id_small page.Windows932 = omega arith
id_small _ = omega arith

page_below : (n : ℕ) (found : CodePage) → page_id n ≡ Some found → n < 2 ^ 31
page_below n found e = go (n == 0) refl e
  where
    go : (b : Bool) → (n == 0) ≡ b → cond b (Some page.Utf8) (find (λ p. id_of p == n) all_pages) ≡ Some found → n < 2 ^ 31
    go true f g = let none : n ≡ 0 = grind (arith, nat_tests, f) in omega arith
    go false f g =
        let test = found_passes (λ p. id_of p == n) all_pages found g in
        let same : id_of found ≡ n = grind (arith, nat_tests, test) in
        omega (arith, id_small found, same)

abbrev begun_ok : CodePage → ℕ → Heads → Result Begun Error
begun_ok page n heads = Ok (begun_with page n heads)

abbrev heads_tested : CodePage → ℕ → Heads → Bool → Result Begun Error
heads_tested page n heads few = unless_not few InvalidData >>= λ _. begun_ok page n heads

abbrev heads_begun : CodePage → ℕ → Result Heads Error → Result Begun Error
heads_begun page n r = r >>= λ heads. heads_tested page n heads (nat_lt (length heads) (2 ^ 32))

abbrev page_begun : ℕ → List ℕ → Option CodePage → Result Begun Error
page_begun n rest o = or_refused o InvalidData >>= λ page. heads_begun page n (heads_at (length rest) rest)

abbrev number_begun : Result (ℕ × List ℕ) Error → Result Begun Error
number_begun r = r >>= λ id. page_begun id.0 id.1 (page_id (page_number id.0))

module _ (pool_bytes data_bytes : List ℕ) (pool : Pool) (h : Pooled pool_bytes data_bytes pool) where
  -- what the first stream tells
  abbrev pub told : Begun
  told = begun_with pool.page (h.id + width_bit pool.long) (map head_in_numbers h.stored)

  pub pool_is_begun : begun pool_bytes ≡ Ok told
  pool_is_begun =
      let n = h.id + width_bit pool.long in
      let low = page_below h.id pool.page h.page in
      let hs = map head_in_numbers h.stored in
      let few : nat_lt (length hs) (2 ^ 32) ≡ true = less_tested (length hs) (2 ^ 32) (subst (λ m. m < 2 ^ 32) (sym (length-map h.stored head_in_numbers)) h.few) in
      ap number_begun (ap (number_at 4) h.begins ∙ four_taken n h.heads (with_width h.id pool.long low))
      ∙ ap (page_begun n h.heads) (ap page_id (page_alone h.id pool.long low) ∙ h.page)
      ∙ ap (heads_begun pool.page n) (heads_found (length h.heads) h.stored h.heads h.heads_are (omega arith))
      ∙ ap (heads_tested pool.page n hs) few
    where
      less_tested : (a b : ℕ) → a < b → nat_lt a b ≡ true
      less_tested a b l = grind (arith, nat_tests)

      with_width : (id : ℕ) (long : Bool) → id < 2 ^ 31 → id + width_bit long < 2 ^ 32
      with_width id true l = omega arith
      with_width id false l = omega arith

      page_alone : (id : ℕ) (long : Bool) → id < 2 ^ 31 → page_number (id + width_bit long) ≡ id
      page_alone id true l = grind (arith, nat_tests)
      page_alone id false l = grind (arith, nat_tests)

  -- the texts are those that the second has
  pub texts_are_stored : texts_at (map head_in_numbers h.stored) data_bytes ≡ Ok h.stored
  texts_are_stored = ap (texts_at (map head_in_numbers h.stored)) h.joined ∙ texts_found h.stored h.unread

  pub pooled_pool_is_read : pool_of told data_bytes ≡ Ok pool
  pooled_pool_is_read =
      ap (λ r. (r >>= λ stored. places_ok stored) >>= λ places. pool_ok (width_of (h.id + width_bit pool.long)) places) texts_are_stored
      ∙ ap₂ pool_ok (width_alone h.id pool.long (page_below h.id pool.page h.page)) (sym h.texts)
    where
      width_alone : (id : ℕ) (long : Bool) → id < 2 ^ 31 → width_of (id + width_bit long) ≡ long
      width_alone id true l = grind (arith, nat_tests)
      width_alone id false l = grind (arith, nat_tests)

      places_ok : List StoredText → Result (List PoolEntry) Error
      places_ok stored = Ok (map (place_read pool.page) stored)

      pool_ok : Bool → List PoolEntry → Result Pool Error
      pool_ok long places = Ok (record { page = pool.page; long = long; places = places })
