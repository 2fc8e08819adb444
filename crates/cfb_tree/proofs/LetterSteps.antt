-- The letter table, one pair at a time.
use Rattle.std.proofs.Common.{◌⊎◌, inl, inr, ◌≡◌, ℕ, ◌+◌, ◌<◌, ◌==◌, Bool, true, false, cond, List, [], ◌∷◌, ◌++◌, map, length, take, drop, get_or, Option, Some, None, refl, ap, sym, ◌∙◌, subst, arith}
use Rattle.std.specs.Prelude.{◌||◌, unwrap_or, is_some, nat_eq}
use Rattle.std.specs.Ordering.{nat_cmp}
use Rattle.std.specs.Cmp.{unsigned_ties, nat_eq_equiv}
use Rattle.std.proofs.lemmas.Bool.Decides.{nat_tests}
use Rattle.std.proofs.lemmas.List.{map-append, at_drop_more, take-append-drop}
use Rattle.std.proofs.lemmas.Map.Keys.{IsDistinct-push, IsDistinct-head, IsDistinct-tail}
use Rattle.std.specs.List.{list_any, AllByRecursion, IsDistinct}
use Rattle.std.specs.Map.{lookup}
use Rattle.std.specs.BTreeMap.{is_at}
use Rattle.std.specs.Char.{IsScalar}
use Rattle.std.specs.Char.Escape.{encode_utf16}
use Rattle.cfb_tree.specs.Names.{letter, CaseTable}

-- what a pair that holds says of a list
abbrev pub IsAsLong : ℕ × ℕ → Type 0
IsAsLong pair = length (encode_utf16 pair.0) ≡ length (encode_utf16 pair.1)

unwrapped : (b : Bool) (v : ℕ) (o : Option ℕ) (c : ℕ) → unwrap_or (cond b (Some v) o) c ≡ cond b v (unwrap_or o c)
unwrapped true v o c = refl
unwrapped false v o c = refl

-- what is found at a character, or itself, is what it counts as
pub letter_found : (c : ℕ) (es : CaseTable) → unwrap_or (lookup (λ k. c == k) es) c ≡ letter es c
unfolding letter
letter_found c [] = refl
letter_found c (e ∷ es) = unwrapped (c == e.0) e.1 (lookup (λ k. c == k) es) c ∙ ap (cond (c == e.0) e.1) (letter_found c es)

pub by_tests : {X : Type 0} (p q : ℕ → Bool) → ((k : ℕ) → p k ≡ q k) → (es : List (ℕ × X)) → lookup p es ≡ lookup q es
by_tests p q same [] = refl
by_tests p q same (e ∷ es) = ap (λ b. cond b (Some e.1) (lookup p es)) (same e.0) ∙ ap (cond (q e.0) (Some e.1)) (by_tests p q same es)

pub letter_in : (c : ℕ) (es : CaseTable) → unwrap_or (lookup (is_at (nat_cmp c)) es) c ≡ letter es c
letter_in c es = ap (λ o. unwrap_or o c) (by_tests (is_at (nat_cmp c)) (λ k. c == k) (λ k. sym (unsigned_ties c k)) es) ∙ letter_found c es

choose : (b d : Bool) (v w : ℕ) (o : Option ℕ) → (b ≡ true → d ≡ true → ⊥) → cond b (Some w) (cond d (Some v) o) ≡ cond d (Some v) (cond b (Some w) o)
choose true true v w o h = absurd (h refl refl)
choose true false v w o h = refl
choose false true v w o h = refl
choose false false v w o h = refl

none_here : (b : Bool) (v : ℕ) (o : Option ℕ) → cond b (Some v) o ≡ None → (b ≡ false) × (o ≡ None)
none_here true v o h = absurd (cc)
none_here false v o h = (refl, h)

apart : (q k e : ℕ) → (k == e) ≡ false → (q == e) ≡ true → (q == k) ≡ true → ⊥
apart q k e h a b = grind (arith, nat_tests, h, a, b)

-- one more pair, whose left side no other has
pub found_more : (q : ℕ) (p : ℕ × ℕ) (es : CaseTable) → lookup (λ k. p.0 == k) es ≡ None → lookup (λ k. q == k) (es ++ p ∷ []) ≡ cond (q == p.0) (Some p.1) (lookup (λ k. q == k) es)
found_more q p [] h = refl
found_more q p (e ∷ es) h =
    let none = none_here (p.0 == e.0) e.1 (lookup (λ k. p.0 == k) es) h in
    ap (cond (q == e.0) (Some e.1)) (found_more q p es none.1) ∙ choose (q == e.0) (q == p.0) p.1 e.1 (lookup (λ k. q == k) es) (apart q p.0 e.0 none.0)

no_key : (k : ℕ) (es : CaseTable) → lookup (λ j. k == j) es ≡ None → list_any (nat_eq k) (map (λ pair. pair.0) es) ≡ false
no_key k [] h = refl
no_key k (e ∷ es) h =
    let none = none_here (k == e.0) e.1 (lookup (λ j. k == j) es) h in
    ap (λ b. b || list_any (nat_eq k) (map (λ pair. pair.0) es)) none.0 ∙ no_key k es none.1

pub once_more : (p : ℕ × ℕ) (es : CaseTable) → lookup (λ k. p.0 == k) es ≡ None → IsDistinct nat_eq (map (λ pair. pair.0) es) → IsDistinct nat_eq (map (λ pair. pair.0) (es ++ p ∷ []))
once_more p es none once =
    subst (IsDistinct nat_eq) (sym (map-append (λ pair. pair.0) es (p ∷ []))) (IsDistinct-push nat_eq_equiv (map (λ pair. pair.0) es) p.0 once (no_key p.0 es none))

-- a left side that stands before
tells : (b : Bool) → (b ≡ true) ⊎ (b ≡ false)
tells true = inl refl
tells false = inr refl

pub repeated : (p : ℕ × ℕ) (es rest : CaseTable) → is_some (lookup (λ k. p.0 == k) es) ≡ true → IsDistinct nat_eq (map (λ pair. pair.0) (es ++ p ∷ rest)) → ⊥
repeated p [] rest h once = absurd (cc)
repeated p (e ∷ es) rest h once = elim (tells (p.0 == e.0)) [
  | inl same ↦ not_both (map (λ pair. pair.0) es) (map (λ pair. pair.0) rest) e.0 p.0 same
      (subst (AllByRecursion (λ y. nat_eq e.0 y ≡ false)) (map-append (λ pair. pair.0) es (p ∷ rest)) (IsDistinct-head nat_eq e.0 _ once))
  | inr other ↦ repeated p es rest (sym (ap (λ b. is_some (cond b (Some e.1) (lookup (λ k. p.0 == k) es))) other) ∙ h) (IsDistinct-tail nat_eq e.0 _ once)
]
  where
    not_both : (xs ys : List ℕ) (e k : ℕ) → (k == e) ≡ true → AllByRecursion (λ y. nat_eq e y ≡ false) (xs ++ k ∷ ys) → ⊥
    not_both [] ys e k same all = grind (arith, nat_tests, same, all.0)
    not_both (x ∷ xs) ys e k same all = not_both xs ys e k same all.1

pub all_middle : (P : ℕ × ℕ → Type 0) (p : ℕ × ℕ) (es rest : CaseTable) → AllByRecursion P (es ++ p ∷ rest) → P p
all_middle P p [] rest h = h.0
all_middle P p (e ∷ es) rest h = all_middle P p es rest h.1

pub all_push : (P : ℕ × ℕ → Type 0) (p : ℕ × ℕ) (es : CaseTable) → AllByRecursion P es → P p → AllByRecursion P (es ++ p ∷ [])
all_push P p [] h k = (k, tt)
all_push P p (e ∷ es) h k = (h.0, all_push P p es h.1 k)

-- the pair at a place, and those before and behind it
pub around : (es : CaseTable) (i : ℕ) (d : ℕ × ℕ) → i < length es → es ≡ take i es ++ get_or es i d ∷ drop (i + 1) es
around es i d h = sym (take-append-drop i es) ∙ at_drop_more (λ z. take i es ++ z) es i d h

pub still_scalar : (b : Bool) (v c : ℕ) (o : Option ℕ) → IsScalar v → IsScalar (unwrap_or o c) → IsScalar (unwrap_or (cond b (Some v) o) c)
still_scalar true v c o h k = h
still_scalar false v c o h k = k

pub no_letters : (c : ℕ) (es : CaseTable) → es ≡ [] → letter es c ≡ c
no_letters c es e = sym (letter_found c es) ∙ ap (λ z. unwrap_or (lookup (λ k. c == k) z) c) e

pub none_found : (o : Option ℕ) → is_some o ≡ false → o ≡ None
none_found None h = refl
none_found (Some x) h = absurd (cc)

-- what is found after one more pair was put into the table
pub found_now : (q : ℕ) (p : ℕ × ℕ) (es : CaseTable) (before : Option ℕ) → before ≡ lookup (λ k. q == k) es → lookup (λ k. p.0 == k) es ≡ None →
    cond (is_at (nat_cmp p.0) q) (Some p.1) before ≡ lookup (λ k. q == k) (es ++ p ∷ [])
found_now q p es before is none =
    ap (λ b. cond b (Some p.1) before) (sym (unsigned_ties p.0 q) ∙ nat_eq_equiv.symm p.0 q) ∙ ap (cond (q == p.0) (Some p.1)) is ∙ sym (found_more q p es none)
