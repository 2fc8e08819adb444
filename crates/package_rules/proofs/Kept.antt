-- A set of keys that were put into it one after the other.
use Rattle.std.proofs.Common.{◌≡◌, ◌∙◌, Bool, true, false, cond, List, [], ◌∷◌, ◌++◌, refl, sym, ap₂}
use Rattle.std.specs.Prelude.{◌||◌}
use Rattle.std.specs.BTreeMap.{is_at}
use Rattle.std.specs.BTreeSet.{contains}
use Rattle.std.specs.List.{list_any}
use Rattle.std.specs.declared.alloc.Global.{Global}
use Rattle.std.specs.declared.cmp.Ordering.{Ordering}
use Rattle.std.specs.declared.collections.BTreeSet.{BTreeSet}

pub any_behind : {A : Type 0} (p : A → Bool) (xs : List A) (x : A) → list_any p (xs ++ x ∷ []) ≡ cond (p x) true (list_any p xs)
any_behind p [] x = on (p x)
  where
    on : (b : Bool) → (b || false) ≡ cond b true false
    on true = refl
    on false = refl
any_behind p (y ∷ ys) x = on (p y) (p x) (any_behind p ys x)
  where
    on : (b c : Bool) → list_any p (ys ++ x ∷ []) ≡ cond c true (list_any p ys) → (b || list_any p (ys ++ x ∷ [])) ≡ cond c true (b || list_any p ys)
    on true true h = refl
    on true false h = refl
    on false true h = h
    on false false h = h

-- the set has a key just where one of these elements is that key
abbrev pub AreKept : {K S : Type 0} → (K → K → Ordering) → (K → S → Bool) → List S → BTreeSet K Global → Type 0
AreKept {K} cmp same es s = (q : K) → contains cmp s q ≡ list_any (same q) es

pub one_more : {K S : Type 0} (cmp : K → K → Ordering) (same : K → S → Bool) (es : List S) (old new : BTreeSet K Global) (key : K) (e : S)
    → ((q : K) → is_at (cmp key) q ≡ same q e) → AreKept cmp same es old → ((q : K) → contains cmp new q ≡ cond (is_at (cmp key) q) true (contains cmp old q))
    → AreKept cmp same (es ++ e ∷ []) new
one_more cmp same es old new key e is kept put q =
    put q ∙ ap₂ (λ b c. cond b true c) (is q) (kept q) ∙ sym (any_behind (same q) es e)
