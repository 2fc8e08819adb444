-- A pool that was read is read with other counts, once these are written.
use Rattle.std.proofs.Common.{◌≡◌, ◌∙◌, ℕ, suc, ◌+◌, ◌<◌, ◌≤◌, ◌^◌, ◌⊎◌, inl, inr, Bool, true, false, cond, List, [], ◌∷◌, ◌++◌, map, length, refl, ap, ap₂, sym, subst, arith}
use Rattle.std.specs.Prelude.{nat_le, ◌==◌, ◌&&◌, ◌||◌, All}
use Rattle.std.specs.List.{flat_map}
use Rattle.std.specs.Str.{chars}
use Rattle.std.proofs.lemmas.Bool.Decides.{nat_tests}
use Rattle.std.proofs.lemmas.List.Elements.{All-cons, All-head, All-tail}
use Rattle.msi_pool.proofs.PoolRoundTrip.{page_comes_back}
use Rattle.msi_pool.specs.Pool.{AreHeads, IsHead, PoolEntry, Pool, Pooled, StoredText, head_bytes, head_of, pool_stream, stored_of, stored_place, width_bit}
use Rattle.msi_pool.specs.PoolKept.{AreFreeEmpty}
use Rattle.msi_texts.specs.Numbers.{le_bytes}
use Rattle.msi_texts.specs.Page.{decoded, encoded, id_of}
use Rattle.msi_texts.specs.declared.codepage.CodePage.{CodePage}
use Rattle.msi_texts.specs.declared.codepage.CodePage.TheVariants as page
use Rattle.msi_recounted.specs.Counts.{pool_with, with_uses}

-- a head is written as one is read
head_numbers : (len count : ℕ) → len < 2 ^ 32 → count < 2 ^ 16 → (count ≡ 0 → len ≡ 0) → IsHead len count (head_bytes len count)
head_numbers len count size few free = (size, few, go (len == 0) (count == 0) (nat_le (2 ^ 16) len) refl refl refl)
  where
    go : (a b c : Bool) → (len == 0) ≡ a → (count == 0) ≡ b → nat_le (2 ^ 16) len ≡ c →
        let bytes = cond (a && b) (le_bytes 4 0) (cond (a || c) (le_bytes 2 0 ++ le_bytes 2 count ++ le_bytes 4 len) (le_bytes 2 len ++ le_bytes 2 count)) in
        ((len < 2 ^ 16) × (len ≡ 0 → count ≡ 0) × (bytes ≡ le_bytes 2 len ++ le_bytes 2 count))
        ⊎ ((0 < count) × (bytes ≡ le_bytes 2 0 ++ le_bytes 2 count ++ le_bytes 4 len))
    go true true c e f g =
        let none : len ≡ 0 = grind (arith, nat_tests, e) in
        let unused : count ≡ 0 = grind (arith, nat_tests, f) in
        inl (omega arith, λ _. unused, rw (none, unused) refl)
    go true false c e f g = inr (grind (arith, nat_tests, f), refl)
    go false b true e f g = inr (grind (arith, nat_tests, e, free), refl)
    go false b false e f g = inl (grind (arith, nat_tests, g), λ z. absurd (grind (arith, nat_tests, e, z)), refl)

empty_encoded : (page : CodePage) → encoded page [] ≡ []
unfolding chars
empty_encoded page.Utf8 = refl
empty_encoded _ = refl

-- a text that gives back its bytes
abbrev pub Gives : CodePage → StoredText → Type 0
Gives page s = encoded page (decoded page s.0) ≡ s.0

-- its bytes are not too many for their field
abbrev IsShort : StoredText → Type 0
IsShort s = length s.0 < 2 ^ 32

are_short : (ss : List StoredText) (heads : List ℕ) → AreHeads ss heads → All IsShort ss
are_short [] heads h = λ k d l. absurd (omega (arith, l))
are_short (s ∷ ss) heads h = All-cons IsShort s ss h.2.0 (are_short ss h.1 h.3)

module _ (page : CodePage) (uses : ℕ → ℕ) where
  -- a place as it was read
  abbrev as_read : StoredText → PoolEntry
  as_read s = record { text = decoded page s.0; count = s.1 }

  -- places with other counts, and how they are written
  abbrev again : ℕ → List StoredText → List PoolEntry
  again n ss = with_uses uses n (map as_read ss)

  abbrev kept : ℕ → List StoredText → List StoredText
  kept n ss = map (stored_place page) (again n ss)

  abbrev Empty : PoolEntry → Type 0
  Empty p = p.count ≡ 0 → p.text ≡ []

  place_again : ℕ → StoredText → PoolEntry
  place_again n s = record { text = decoded page s.0; count = uses n }

  heads_read : ((n : ℕ) → uses n ≤ 65535) → (ss : List StoredText) (n : ℕ) → All (Gives page) ss → All IsShort ss → AreFreeEmpty (again n ss) → AreHeads (kept n ss) (flat_map head_of (kept n ss))
  heads_read few [] n give short free = omega arith
  heads_read few (s ∷ ss) n give short free =
      let here : encoded page (decoded page s.0) ≡ s.0 = All-head (Gives page) s ss give in
      let size : length (encoded page (decoded page s.0)) < 2 ^ 32 = subst (λ b. length b < 2 ^ 32) (sym here) (All-head IsShort s ss short) in
      let count : uses n < 2 ^ 16 = let most = few n in omega (arith, most) in
      let none : uses n ≡ 0 → length (encoded page (decoded page s.0)) ≡ 0 =
      λ e. ap (λ t. length (encoded page t)) (All-head Empty (record { text = decoded page s.0; count = uses n }) (again (n + 1) ss) free e) ∙ ap length (empty_encoded page) in (
        head_of (stored_place page (record { text = decoded page s.0; count = uses n })),
        flat_map head_of (kept (n + 1) ss),
        head_numbers (length (encoded page (decoded page s.0))) (uses n) size count none,
        heads_read few ss (n + 1) (All-tail (Gives page) s ss give) (All-tail IsShort s ss short) (All-tail Empty (record { text = decoded page s.0; count = uses n }) (again (n + 1) ss) free),
        refl,
      )

  texts_read : (ss : List StoredText) (n : ℕ) → All (Gives page) ss → again n ss ≡ map as_read (kept n ss)
  texts_read [] n give = refl
  texts_read (s ∷ ss) n give =
      ap₂ (λ (t : List ℕ) (qs : List PoolEntry). record { text = t; count = uses n } ∷ qs) (ap (decoded page) (sym (All-head (Gives page) s ss give)))
      (texts_read ss (n + 1) (All-tail (Gives page) s ss give))

  -- the bytes of the texts are as they were
  bytes_same : (ss : List StoredText) (n : ℕ) → All (Gives page) ss → flat_map (λ s. s.0) (kept n ss) ≡ flat_map (λ s. s.0) ss
  bytes_same [] n give = refl
  bytes_same (s ∷ ss) n give = ap₂ (λ (b : List ℕ) (bs : List ℕ). b ++ bs) (All-head (Gives page) s ss give) (bytes_same ss (n + 1) (All-tail (Gives page) s ss give))

  give_again : (ss : List StoredText) (n : ℕ) → All (Gives page) ss → All (Gives page) (kept n ss)
  give_again [] n give = λ k d l. absurd (omega (arith, l))
  give_again (s ∷ ss) n give =
      All-cons (Gives page) (stored_place page (record { text = decoded page s.0; count = uses n })) (kept (n + 1) ss)
      (ap (λ b. encoded page (decoded page b)) (All-head (Gives page) s ss give))
      (give_again ss (n + 1) (All-tail (Gives page) s ss give))

  size_again : (ss : List StoredText) (n : ℕ) → length (kept n ss) ≡ length ss
  size_again [] n = refl
  size_again (s ∷ ss) n = ap (λ k. suc k) (size_again ss (n + 1))

-- the pool is held so by its first stream, written anew, and the second as it was; its texts give back their bytes
pub record HoldsAgain (uses : ℕ → ℕ) (data_bytes : List ℕ) (pool : Pool) : Type 0 where
  pub pooled : Pooled (pool_stream (pool_with uses pool)) data_bytes (pool_with uses pool)
  pub texts : All (Gives pool.page) pooled.stored

pub written_again : (uses : ℕ → ℕ) (pool_bytes data_bytes : List ℕ) (pool : Pool) (h : Pooled pool_bytes data_bytes pool) → All (Gives pool.page) h.stored
    → ((n : ℕ) → uses n ≤ 65535) → AreFreeEmpty (pool_with uses pool).places → HoldsAgain uses data_bytes pool
written_again uses pool_bytes data_bytes pool h give few free =
    let is : pool.places ≡ map (as_read pool.page uses) h.stored = h.texts in
    let alike : stored_of (pool_with uses pool) ≡ kept pool.page uses 1 h.stored = ap (λ ps. map (stored_place pool.page) (with_uses uses 1 ps)) is in
    let free_so : AreFreeEmpty (again pool.page uses 1 h.stored) = subst (λ ps. AreFreeEmpty (with_uses uses 1 ps)) is free in
    record {
      pooled = record {
        id = id_of pool.page;
        heads = flat_map head_of (kept pool.page uses 1 h.stored);
        stored = kept pool.page uses 1 h.stored;
        unread = h.unread;
        page = page_comes_back pool.page;
        begins = ap (λ ss. le_bytes 4 (id_of pool.page + width_bit pool.long) ++ flat_map head_of ss) alike;
        heads_are = heads_read pool.page uses few h.stored 1 give (are_short h.stored h.heads h.heads_are) free_so;
        few = subst (λ n. n < 2 ^ 32) (sym (size_again pool.page uses h.stored 1)) h.few;
        joined = h.joined ∙ ap (λ bs. bs ++ h.unread) (sym (bytes_same pool.page uses h.stored 1 give));
        texts = ap (with_uses uses 1) is ∙ texts_read pool.page uses h.stored 1 give;
      };
      texts = give_again pool.page uses h.stored 1 give;
    }
