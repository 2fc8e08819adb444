-- Errors that are told as broken data, and results that a definition gives.
use Rattle.std.proofs.Common.{◌≡◌, ◌∙◌, ◌⊎◌, List, ℕ, inl, inr, subst, sym}
use Rattle.std.specs.Prelude.{Err, Ok, Result}
use Rattle.cfb_fat.specs.Keeping.{own_cause}
use Rattle.cfb_fat.specs.Tables.{IsJustifiedBySectors}
use Rattle.cfb_fat.specs.declared.allocator.Allocator.{Allocator}
use Rattle.cfb_medium.specs.Calls.{IsFaultOrInvalidInputIf}
use Rattle.cfb_medium.specs.declared.error.Error.{Error}
use Rattle.cfb_medium.specs.declared.error.Error.TheVariants.{Device, Failed, InvalidData, Memory}
use Rattle.cfb_medium.specs.declared.medium.ReadMedium.{Ghosts}
use Rattle.cfb_tree.specs.Names.{CaseTable}
use Rattle.msi_store.specs.Broken.{IsAsBroken}
use Rattle.msi_stored.specs.Shown.{FindsPart}

module _ (e r : Error) (told : IsAsBroken e r) where
  pub fault_as : IsFaultOrInvalidInputIf ⊥ e → IsFaultOrInvalidInputIf ⊥ r
  fault_as fault = elim told [ inl b ↦ subst (IsFaultOrInvalidInputIf ⊥) (sym b.1) b.0 | inr b ↦ absurd (b.0 fault) ]

  pub kind_as : IsFaultOrInvalidInputIf ⊥ r ⊎ (r ≡ InvalidData)
  kind_as = elim told [ inl b ↦ inl (subst (IsFaultOrInvalidInputIf ⊥) (sym b.1) b.0) | inr b ↦ inr b.1 ]

  pub cause_as : {F : Type 0} {g : Ghosts F} (a b : Allocator F g) → IsJustifiedBySectors a b e → IsJustifiedBySectors a b r
  cause_as a b cause = elim told [
    | inl same ↦ subst (IsJustifiedBySectors a b) (sym same.1) cause
    | inr other ↦ own_cause a b r (λ is. let no : Device ≡ InvalidData = sym is ∙ other.1 in absurd (cc)) (λ is. let no : Failed ≡ InvalidData = sym is ∙ other.1 in absurd (cc))
  ]

-- want of memory and broken data have no cause in the medium
module _ {F : Type 0} {g : Ghosts F} (a b : Allocator F g) (e : Error) where
  pub memory_cause : e ≡ Memory → IsJustifiedBySectors a b e
  memory_cause memory = own_cause a b e (λ is. let no : Device ≡ Memory = sym is ∙ memory in absurd (cc)) (λ is. let no : Failed ≡ Memory = sym is ∙ memory in absurd (cc))

  pub data_cause : e ≡ InvalidData → IsJustifiedBySectors a b e
  data_cause broken = own_cause a b e (λ is. let no : Device ≡ InvalidData = sym is ∙ broken in absurd (cc)) (λ is. let no : Failed ≡ InvalidData = sym is ∙ broken in absurd (cc))

-- what equals the definition's result is found by it
pub finds_of : (letters : CaseTable) (bytes : List ℕ) {A : Type 0} (r d : Result A Error) → r ≡ d → FindsPart letters bytes (λ x. d ≡ Ok x) d r
finds_of letters bytes (Ok x) d e = sym e
finds_of letters bytes (Err x) d e = inr (sym e)
