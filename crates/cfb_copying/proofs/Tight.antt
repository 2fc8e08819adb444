-- No sector is spare after a change that gives all that it takes to one owner.
use Rattle.std.proofs.Common.{◌≡◌, ℕ, zero, suc, ◌⊎◌, inl, inr, List, [], ◌∷◌, length, sym, subst, arith, ⊎_elim}
use Rattle.std.proofs.lemmas.Bool.Decides.{eqb_tells, leb_tells}
use Rattle.cfb_chains.specs.Changes.{IsNotIn}
use Rattle.cfb_chains.specs.Owned.{ChangesAtMost, SectorLayer}
use Rattle.cfb_copying.specs.Making.{HasNoSpare, IsOneOf}

pub one_or_none : (xs : List ℕ) (n : ℕ) → IsOneOf xs n ⊎ IsNotIn xs n
one_or_none [] n = inr (λ k below same. absurd (omega (arith, below)))
one_or_none (x ∷ xs) n = ⊎_elim
    (λ same. inl (zero, omega arith, same.1))
    (λ other. ⊎_elim
    (λ one. inl (suc one.0, (let below = one.1 in omega (arith, below)), one.2))
    (λ none. inr (never (λ same. omega (arith, other.1, same)) none))
    (one_or_none xs n))
    (eqb_tells x n)
  where
    never : (x ≡ n → ⊥) → IsNotIn xs n → IsNotIn (x ∷ xs) n
    never other none zero below same = other same
    never other none (suc k) below same = none k (omega (arith, below)) same

pub not_none : (xs : List ℕ) (n : ℕ) → (IsNotIn xs n → ⊥) → IsOneOf xs n
not_none xs n wrong = ⊎_elim (λ one. one) (λ none. absurd (wrong none)) (one_or_none xs n)

pub one_is_not_none : (xs : List ℕ) (n : ℕ) → IsOneOf xs n → IsNotIn xs n → ⊥
one_is_not_none xs n one none = none one.0 one.1 one.2

-- what is touched comes to the owner, who keeps what he had
pub tight_then : (S : List ℕ → ℕ → List ℕ) (words touched : List ℕ) (key : ℕ) (a b : SectorLayer) (own later : ℕ → List ℕ) → HasNoSpare a own → ChangesAtMost S words touched a b
    → ((n : ℕ) → IsNotIn (later key) n → IsNotIn touched n) → ((n : ℕ) → IsNotIn (later key) n → IsNotIn (own key) n) → ((k : ℕ) → (k ≡ key → ⊥) → later k ≡ own k) → HasNoSpare b later
tight_then S words touched key a b own later tight leaves takes keeps others n below = ⊎_elim
    (λ past. ⊎_elim (λ one. inr (key, one)) (λ none. inl (not_none b.tables n (leaves.behind n past.1 below (takes n none)).0)) (one_or_none (later key) n))
    (λ before. ⊎_elim
    (λ table. inl (not_none b.tables n (λ none. one_is_not_none a.tables n table (leaves.still n none))))
    (λ owner. ⊎_elim
    (λ same. inr (key, not_none (later key) n (λ none. one_is_not_none (own key) n (subst (λ k. IsOneOf (own k) n) same.1 owner.1) (keeps n none))))
    (λ other. inr (owner.0, subst (λ l. IsOneOf l n) (sym (others owner.0 (λ same. omega (arith, other.1, same)))) owner.1))
    (eqb_tells owner.0 key))
    (tight n before.1))
    (leb_tells (length a.table) n)
