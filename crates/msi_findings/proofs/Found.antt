-- Places that are found, one after the other.
use Rattle.std.proofs.Common.{◌≡◌, ◌∙◌, ◌⊎◌, ℕ, zero, suc, ◌+◌, ◌-◌, ◌<◌, List, [], ◌∷◌, ◌++◌, inl, drop, length, get_or, refl, sym, ap, ap₂, subst, arith}
use Rattle.std.specs.Prelude.{Err, IfErr, IfOk, MatchResult, Ok, Result, Vec, slice_index_or}
use Rattle.std.specs.declared.alloc.Global.{Global}
use Rattle.std.proofs.lemmas.List.{append_assoc, drop_more}
use Rattle.cfb_medium.specs.Calls.{IsFaultOrInvalidInputIf}
use Rattle.cfb_medium.specs.declared.error.Error.{Error}
use Rattle.cfb_medium.specs.declared.error.Error.TheVariants.{Memory}
use Rattle.msi_findings.specs.Findings.{found_from, miscounted, miscounts}
use Rattle.msi_findings.specs.declared.miscount.Miscount.{Miscount}
use Rattle.msi_spec.specs.Uses.{left_at}
use Rattle.msi_pool.specs.Pool.{PoolEntry, empty_pool_entry}
use Rattle.msi_recounted.specs.Counts.{listed_uses}

-- what was found so far, and what is to come
pub found_more : {A : Type 0} (at : ℕ → PoolEntry → List A) (ps : List PoolEntry) (old new all : List A) (i : ℕ) → i < length ps
    → old ++ found_from at (i + 1) (drop i ps) ≡ all → new ≡ old ++ at (i + 1) (get_or ps i empty_pool_entry)
    → new ++ found_from at (i + 1 + 1) (drop (i + 1) ps) ≡ all
found_more at ps old new all i below so_far found =
    let rest = found_from at (i + 1 + 1) (drop (i + 1) ps) in
    ap (λ b. b ++ rest) found
    ∙ append_assoc old (at (i + 1) (get_or ps i empty_pool_entry)) rest
    ∙ ap (λ qs. old ++ found_from at (i + 1) qs) (sym (drop_more ps i empty_pool_entry below))
    ∙ so_far

-- the same is found by equal uses
pub same_found : (f g : ℕ → ℕ) → ((n : ℕ) → 0 < n → f n ≡ g n) → (ps : List PoolEntry) (n : ℕ) → 0 < n
    → found_from (miscounted f) n ps ≡ found_from (miscounted g) n ps
same_found f g same [] n above = refl
same_found f g same (p ∷ ps) n above =
    ap₂ (λ u rest. miscounted (λ k. u) n p ++ rest) (same n above) (same_found f g same ps (n + 1) (omega (arith, above)))

-- the uses that are listed place by place
pub listed_so : (listed : List ℕ) (uses : ℕ → ℕ) → ((k : ℕ) → left_at listed k ≡ uses (suc k)) → (n : ℕ) → 0 < n → listed_uses listed n ≡ uses n
listed_so listed uses each zero above = absurd (omega (arith, above))
listed_so listed uses each (suc k) above =
    let one : suc k - 1 ≡ k = omega arith in
    ap (λ j. slice_index_or listed j 0) one ∙ each k

-- what is found by the uses that were counted
pub found_so : (listed : List ℕ) (uses : ℕ → ℕ) (ps : List PoolEntry) (r : Result (Vec Miscount Global) Error) (Q : Error → Type 0)
    → ((k : ℕ) → left_at listed k ≡ uses (suc k)) → IfOk r (λ found. found.items ≡ miscounts (listed_uses listed) ps) → IfErr r (λ e. e ≡ Memory)
    → MatchResult r (λ found. found.items ≡ miscounts uses ps) (λ e. IsFaultOrInvalidInputIf ⊥ e ⊎ Q e)
found_so listed uses ps (Ok found) Q each is memory = is ∙ same_found (listed_uses listed) uses (listed_so listed uses each) ps 1 (omega arith)
found_so listed uses ps (Err e) Q each is memory = inl (subst (IsFaultOrInvalidInputIf ⊥) (sym memory) tt)
