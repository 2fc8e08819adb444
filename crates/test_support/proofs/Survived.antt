-- What a stop may leave of a medium of the tests, along its calls.
use Rattle.std.proofs.Common.{inl, inr, ◌⊎◌, ⊎_elim, ◌≡◌, ℕ, ◌-◌, ◌<◌, List, [], ◌∷◌, ◌++◌, length, get_or, Option, Some, refl, ◌∙◌, ap, arith, length-append}
use Rattle.std.proofs.lemmas.Bool.{cases_lt}
use Rattle.std.proofs.lemmas.List.{get_or_append_left, get_or-append_right}
use Rattle.cfb_medium.specs.Crashes.{CrashLeavesOnly}
use Rattle.test_support.specs.declared.survivor.Survivor.{Survivor}
use Rattle.test_support.specs.Survivor.{lists_kept, AreLeftFrom, IsKeptAlone}

-- the one list that is left
pub alone_kept : (m : Survivor) (bytes : List ℕ) (before : List (List ℕ)) → lists_kept m ≡ before ++ bytes ∷ [] → m.first ≡ length before → IsKeptAlone m bytes
alone_kept m bytes before is first = λ x from.
    let k : from.0 ≡ length before = omega (arith, first, from.1, from.2, ap length is, length-append before (bytes ∷ [])) in
    let none : length before - length before ≡ 0 = omega arith in
    from.3 ∙ ap (λ (l : List (List ℕ)). Some (get_or l from.0 [])) is ∙ ap (λ (n : ℕ). Some (get_or (before ++ bytes ∷ []) n [])) k ∙ ap (λ (l : List ℕ). Some l) (get_or-append_right before (bytes ∷ []) (length before) (length before) [] refl (omega arith) ∙ ap (λ (n : ℕ). get_or (bytes ∷ []) n []) none)

-- a commit adds the bytes, and leaves them alone
pub commit_leaves : (a b : Survivor) (bytes : List ℕ) → a.first < length (lists_kept a) → lists_kept b ≡ lists_kept a ++ bytes ∷ [] → b.first ≡ length (lists_kept a)
    → CrashLeavesOnly (λ m. m.first) AreLeftFrom a b (λ left. AreLeftFrom a a.first left ⊎ (left ≡ Some bytes))
commit_leaves a b bytes within is first = record {
  later = omega (arith, within, first);
  each = λ x from. either a.first x from;
  before = λ t x earlier from. ⊎_elim (λ was. inl was) (λ new. inr (inr new)) (either t x from);
}
  where
    either : (t : ℕ) (x : Option (List ℕ)) → AreLeftFrom b t x → AreLeftFrom a t x ⊎ (x ≡ Some bytes)
    either t x from = elim (cases_lt from.0 (length (lists_kept a))) [
      | inl early ↦ inl (from.0, from.1, early, from.3 ∙ ap (λ (l : List (List ℕ)). Some (get_or l from.0 [])) is ∙ ap (λ (l : List ℕ). Some l) (get_or_append_left (lists_kept a) (bytes ∷ []) [] from.0 early))
      | inr late ↦ inr (alone_kept b bytes (lists_kept a) is first x (from.0, omega (arith, late, first), from.2, from.3))
    ]
