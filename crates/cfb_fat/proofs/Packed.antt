-- No sector in front of a place can be taken into use.
use Rattle.std.proofs.Common.{◌≡◌, ℕ, ◌+◌, ◌-◌, ◌<◌, ◌≤◌, ◌⊎◌, inl, inr, List, [], ◌∷◌, ◌++◌, length, get_or, zero, suc, ap, sym, ◌∙◌, arith, ⊎_elim, length-append}
use Rattle.std.proofs.Math.ListN.{set}
use Rattle.std.proofs.Math.Seq.{get_or-append_right}
use Rattle.std.proofs.lemmas.Bool.Decides.{eqb_tells, leb_tells}
use Rattle.std.proofs.lemmas.List.{get_or_append_left, get_or-set_other, get_or-set_same}
use Rattle.cfb_sectors.specs.Sectors.{free}
use Rattle.cfb_chains.specs.Changes.{IsNotIn}

abbrev pub IsPacked : ℕ → List ℕ → List ℕ → List ℕ → Type 0
IsPacked first fat ds fs = (k : ℕ) → k < first → get_or fat k 0 ≡ free → IsNotIn ds k → IsNotIn fs k → ⊥

-- an entry was set
pub packed_set : (fat ds fs : List ℕ) (old new index entry : ℕ) → IsPacked old fat ds fs → new ≤ old → (entry ≡ free → new ≤ index) → index < length fat → IsPacked new (set fat index entry) ds fs
packed_set fat ds fs old new index entry was fewer freed inside k below is no_ds no_fs = ⊎_elim
    (λ same. let here = freed (sym (get_or-set_same fat index entry 0 inside) ∙ ap (λ n. get_or (set fat index entry) n 0) (sym same.1) ∙ is) in let at = same.1 in omega (arith, here, at, below))
    (λ differ. was k (omega (arith, below, fewer)) (sym (get_or-set_other fat index k entry 0 differ.1) ∙ is) no_ds no_fs)
    (eqb_tells k index)

-- entries were added, none of a sector that can be taken
pub packed_more : (fat more now ds fs later_ds later_fs : List ℕ) (first : ℕ) → now ≡ fat ++ more → IsPacked first fat ds fs → ((n : ℕ) → IsNotIn later_ds n → IsNotIn ds n) → ((n : ℕ) → IsNotIn later_fs n → IsNotIn fs n)
    → ((k : ℕ) → length fat ≤ k → get_or now k 0 ≡ free → IsNotIn later_ds k → IsNotIn later_fs k → ⊥) → IsPacked first now later_ds later_fs
packed_more fat more now ds fs later_ds later_fs first joined was in_ds in_fs behind k below is no_ds no_fs = ⊎_elim
    (λ past. behind k past.1 is no_ds no_fs)
    (λ front. was k below (sym (get_or_append_left fat more 0 k front.1) ∙ ap (λ l. get_or l k 0) (sym joined) ∙ is) (in_ds k no_ds) (in_fs k no_fs))
    (leb_tells (length fat) k)

-- what stands behind a list and one number more
pub behind_one : (fat now : List ℕ) (x k : ℕ) → now ≡ fat ++ x ∷ [] → length fat ≤ k → get_or now k 0 ≡ free → (k ≡ length fat) × (x ≡ free)
behind_one fat now x k joined past is = at (k - length fat) (omega (arith, past)) (sym (get_or-append_right fat (x ∷ []) k 0 past) ∙ ap (λ l. get_or l k 0) (sym joined) ∙ is)
  where
    at : (j : ℕ) → k ≡ length fat + j → get_or (x ∷ []) j 0 ≡ free → (k ≡ length fat) × (x ≡ free)
    at zero same found = (omega (arith, same), found)
    at (suc j) same found = absurd (omega (arith, found))

-- and two
pub behind_two : (fat now : List ℕ) (x y k : ℕ) → now ≡ fat ++ x ∷ y ∷ [] → length fat ≤ k → get_or now k 0 ≡ free → (k ≡ length fat) ⊎ (k ≡ length fat + 1)
behind_two fat now x y k joined past is = at (k - length fat) (omega (arith, past)) (sym (get_or-append_right fat (x ∷ y ∷ []) k 0 past) ∙ ap (λ l. get_or l k 0) (sym joined) ∙ is)
  where
    at : (j : ℕ) → k ≡ length fat + j → get_or (x ∷ y ∷ []) j 0 ≡ free → (k ≡ length fat) ⊎ (k ≡ length fat + 1)
    at zero same found = inl (omega (arith, same))
    at (suc zero) same found = inr (omega (arith, same))
    at (suc (suc j)) same found = absurd (omega (arith, found))

-- a number that stands last in a list is one of it
pub not_none : (xs : List ℕ) (n : ℕ) → IsNotIn (xs ++ n ∷ []) n → ⊥
not_none xs n none =
    let here : length xs - length xs ≡ 0 = omega arith in
    none (length xs) (let size = length-append xs (n ∷ []) in omega (arith, size)) (get_or-append_right xs (n ∷ []) (length xs) 0 (omega arith) ∙ ap (λ k. get_or (n ∷ []) k 0) here)
