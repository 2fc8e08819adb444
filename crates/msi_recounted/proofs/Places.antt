-- Places with other counts, one after the other.
use Rattle.std.proofs.Common.{◌≡◌, ◌∙◌, ℕ, zero, suc, ◌+◌, ◌<◌, ◌≤◌, Bool, true, false, List, [], ◌∷◌, ◌++◌, drop, length, get_or, map, refl, sym, ap, subst, arith}
use Rattle.std.specs.Prelude.{◌==◌, ◌↔◌, ◌&&◌, ◌||◌, not, nat_lt}
use Rattle.std.specs.List.{flat_map, list_all}
use Rattle.std.proofs.lemmas.Bool.Decides.{nat_tests}
use Rattle.std.proofs.lemmas.List.{append_assoc, drop_more}
use Rattle.std.proofs.lemmas.List.Elements.{All-cons, All-head, All-tail}
use Rattle.msi_pool.specs.Pool.{PoolEntry, pool_entry_at, head_of, empty_pool_entry, stored_place}
use Rattle.msi_pool.specs.PoolKept.{AreFreeEmpty}
use Rattle.msi_pool.specs.PoolState.{length_limit}
use Rattle.msi_texts.specs.Page.{encoded}
use Rattle.msi_texts.specs.declared.codepage.CodePage.{CodePage}
use Rattle.msi_recounted.specs.Counts.{with_uses}

-- the place behind i others, with as many uses
abbrev pub counted_at : (ℕ → ℕ) → List PoolEntry → ℕ → PoolEntry
counted_at uses ps i = record { text = (get_or ps i empty_pool_entry).text; count = uses (i + 1) }

pub at_next : (ps : List PoolEntry) (i : ℕ) → pool_entry_at ps (i + 1) ≡ get_or ps i empty_pool_entry
at_next ps i = ap (λ j. get_or ps j empty_pool_entry) (omega arith)

module _ (uses : ℕ → ℕ) (ps : List PoolEntry) where
  pub one_more : (i : ℕ) → i < length ps → with_uses uses (i + 1) (drop i ps) ≡ counted_at uses ps i ∷ with_uses uses (i + 1 + 1) (drop (i + 1) ps)
  one_more i below = ap (with_uses uses (i + 1)) (drop_more ps i empty_pool_entry below)

  -- those that were written, and those to come
  pub heads_more : (page : CodePage) (old new all : List ℕ) (i : ℕ) → i < length ps
      → old ++ flat_map head_of (map (stored_place page) (with_uses uses (i + 1) (drop i ps))) ≡ all
      → new ≡ old ++ head_of (stored_place page (counted_at uses ps i))
      → new ++ flat_map head_of (map (stored_place page) (with_uses uses (i + 1 + 1) (drop (i + 1) ps))) ≡ all
  heads_more page old new all i below so_far wrote =
      let rest = flat_map head_of (map (stored_place page) (with_uses uses (i + 1 + 1) (drop (i + 1) ps))) in
      ap (λ b. b ++ rest) wrote
      ∙ append_assoc old (head_of (stored_place page (counted_at uses ps i))) rest
      ∙ ap (λ qs. old ++ flat_map head_of (map (stored_place page) qs)) (sym (one_more i below))
      ∙ so_far

  abbrev Empty : PoolEntry → Type 0
  Empty p = p.count ≡ 0 → p.text ≡ []

  -- the next place is not free, or is empty
  pub used_more : (i : ℕ) → i < length ps → (uses (i + 1) ≡ 0 → (get_or ps i empty_pool_entry).text ≡ [])
      → AreFreeEmpty (with_uses uses (i + 1) (drop i ps)) ↔ AreFreeEmpty (with_uses uses (i + 1 + 1) (drop (i + 1) ps))
  used_more i below so = (
    λ all. All-tail Empty (counted_at uses ps i) (with_uses uses (i + 1 + 1) (drop (i + 1) ps)) (subst AreFreeEmpty (one_more i below) all),
    λ later. subst AreFreeEmpty (sym (one_more i below)) (All-cons Empty (counted_at uses ps i) (with_uses uses (i + 1 + 1) (drop (i + 1) ps)) so later),
  )

  -- it is free, and is not empty
  pub unused_text : (i : ℕ) → i < length ps → uses (i + 1) ≡ 0 → ((get_or ps i empty_pool_entry).text ≡ [] → ⊥)
      → AreFreeEmpty (with_uses uses (i + 1) (drop i ps)) → ⊥
  unused_text i below none text all = text (All-head Empty (counted_at uses ps i) (with_uses uses (i + 1 + 1) (drop (i + 1) ps)) (subst AreFreeEmpty (one_more i below) all) none)

-- a text that is too long
pub too_long : (page : CodePage) (ps : List PoolEntry) (i : ℕ) → length_limit ≤ length (encoded page (get_or ps i empty_pool_entry).text) → i < length ps
    → list_all (λ s. nat_lt (length s.0) length_limit) (map (stored_place page) ps) ≡ false
too_long page [] i long below = absurd (omega (arith, below))
too_long page (p ∷ ps) zero long below = here (length (encoded page p.text)) (list_all (λ s. nat_lt (length s.0) length_limit) (map (stored_place page) ps)) long
  where
    here : (n : ℕ) (b : Bool) → length_limit ≤ n → (nat_lt n length_limit && b) ≡ false
    here n b long = let is : nat_lt n length_limit ≡ false = grind (arith, nat_tests, long) in ap (λ x. x && b) is
too_long page (p ∷ ps) (suc i) long below =
    ap (λ b. nat_lt (length (encoded page p.text)) length_limit && b) (too_long page ps i long (omega (arith, below)))
    ∙ never (nat_lt (length (encoded page p.text)) length_limit)
  where
    never : (b : Bool) → (b && false) ≡ false
    never true = refl
    never false = refl

-- a place with a use, or no text, by a test
pub is_not_used : (n : ℕ) (t : List ℕ) → (not (n == 0) || (length t == 0)) ≡ false → (n ≡ 0) × (t ≡ [] → ⊥)
is_not_used n [] e = by (n == 0) e
  where
    by : (b : Bool) → (not b || true) ≡ false → (n ≡ 0) × (◌≡◌ {A = List ℕ} [] [] → ⊥)
    by true e = absurd (cc)
    by false e = absurd (cc)
is_not_used n (x ∷ xs) e = (by (n == 0) refl e, λ empty. absurd (cc))
  where
    by : (b : Bool) → (n == 0) ≡ b → (not b || (length (x ∷ xs) == 0)) ≡ false → n ≡ 0
    by true is e = grind (arith, nat_tests, is)
    by false is e = absurd (cc)

pub is_used : (n : ℕ) (t : List ℕ) → (not (n == 0) || (length t == 0)) ≡ true → n ≡ 0 → t ≡ []
is_used n [] e none = refl
is_used n (x ∷ xs) e none =
    let zero_is : (n == 0) ≡ true = grind (arith, nat_tests, none) in
    let some : (length (x ∷ xs) == 0) ≡ false = grind (arith, nat_tests) in
    let never : true ≡ false = sym e ∙ ap (λ b. not b || (length (x ∷ xs) == 0)) zero_is ∙ some in absurd (cc)
