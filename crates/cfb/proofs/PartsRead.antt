-- A part of a stream that was read, and why one isn't.
use Rattle.std.proofs.Common.{◌≡◌, ℕ, ◌⊎◌, List, ◌++◌, length, take, drop, ap, sym, subst, ◌∙◌, inl, inr, ⊎_elim}
use Rattle.std.proofs.Math.Seq.{take-append_seam}
use Rattle.cfb_chains.specs.ChainCalls.{IsInvalidPlace}
use Rattle.cfb_medium.specs.Calls.{IsFaultOrInvalidInputIf}
use Rattle.cfb_medium.specs.declared.error.Error.{Error}

-- what was read at the front of a buffer
pub part_read : (content buffer rest : List ℕ) (at n m : ℕ) → length buffer ≡ n → m ≡ n → buffer ≡ take m (drop at content) → take n (buffer ++ rest) ≡ take n (drop at content)
part_read content buffer rest at n m long same is =
    let front : take n (buffer ++ rest) ≡ buffer = ap (λ k. take k (buffer ++ rest)) (sym long) ∙ take-append_seam buffer rest in
    front ∙ is ∙ ap (λ k. take k (drop at content)) same

-- where each stream that there may be leaves faults alone, any other error says that there is none
pub fault_or_lost : (Has : List ℕ → Type 0) (e : Error) → IsFaultOrInvalidInputIf ⊥ e ⊎ IsInvalidPlace e → ((content : List ℕ) → Has content → IsFaultOrInvalidInputIf ⊥ e)
    → IsFaultOrInvalidInputIf ⊥ e ⊎ (IsInvalidPlace e × ((content : List ℕ) → Has content → ⊥))
fault_or_lost Has e told alone =
    ⊎_elim (λ fault. inl fault) (λ place. inr (place, λ content has. ⊎_elim (λ is. subst (IsFaultOrInvalidInputIf ⊥) is (alone content has)) (λ is. subst (IsFaultOrInvalidInputIf ⊥) is (alone content has)) place)) told
