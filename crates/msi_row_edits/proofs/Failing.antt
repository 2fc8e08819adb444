-- Whether a file has failed, by what it answers of its root.
use Rattle.std.proofs.Common.{◌≡◌, ◌⊎◌, Bool, true, false, refl, sym, ◌∙◌, ⊎_elim, inl, inr, Err}
use Rattle.std.specs.Prelude.{IsErrOf}
use Rattle.cfb_medium.specs.declared.error.Error.{Error}
use Rattle.cfb_medium.specs.declared.error.Error.TheVariants.{Failed, InvalidData, InvalidInput, Memory, NotFound}

not_refused : (e : Error) → e ≡ Failed → (e ≡ InvalidData) ⊎ (e ≡ InvalidInput) ⊎ (e ≡ NotFound) → ⊥
not_refused e is refused = by e is refused
  where
    by : (e : Error) → e ≡ Failed → (e ≡ InvalidData) ⊎ (e ≡ InvalidInput) ⊎ (e ≡ NotFound) → ⊥
    by e is r = ⊎_elim (λ h. let never : Failed ≡ InvalidData = sym is ∙ h in cc) (λ h. other e is h) r
      where
        other : (e : Error) → e ≡ Failed → (e ≡ InvalidInput) ⊎ (e ≡ NotFound) → ⊥
        other e is r = ⊎_elim (λ h. let never : Failed ≡ InvalidInput = sym is ∙ h in cc) (λ h. let never : Failed ≡ NotFound = sym is ∙ h in cc) r

pub failed_told : {T : Type 0} (b r : Bool) (e : Error) → (b ≡ true → IsErrOf {T = T} (Err e) Failed) → ((e ≡ Memory) ⊎ ((e ≡ Failed) × (b ≡ true))) ⊎ ((e ≡ InvalidData) ⊎ (e ≡ InvalidInput) ⊎ (e ≡ NotFound))
    → (r ≡ true → e ≡ Failed) → (e ≡ Failed → r ≡ true) → r ≡ b
failed_told true r e failed cause told is = is (let h = failed refl in cc (h))
failed_told false false e failed cause told is = refl
failed_told false true e failed cause told is = absurd (elim cause [
  | inl want ↦ elim want [ inl memory ↦ (let h : Memory ≡ Failed = sym memory ∙ told refl in cc) | inr was ↦ (let h : false ≡ true = was.1 in cc) ]
  | inr refused ↦ (not_refused e (told refl) refused)
])
