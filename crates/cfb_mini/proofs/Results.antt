-- What calls answered, told of together.
use Rattle.std.proofs.Common.{◌≡◌, ◌⊎◌, Bool, false, true, refl, inl, inr, ⊎_elim}
use Rattle.std.specs.Prelude.{Result, Ok, Err, OnErr}

pub on_err : {T E : Type 0} (r : Result T E) (P Q : Type 0) → (P → Q) → OnErr r P → OnErr r Q
on_err (Ok x) P Q f p = tt
on_err (Err e) P Q f p = f p

-- after an error it has failed, or both hold
pub both_err : {T E : Type 0} (r : Result T E) (D P Q R : Type 0) → (P → Q → R) → OnErr r (D ⊎ P) → OnErr r (D ⊎ Q) → OnErr r (D ⊎ R)
both_err (Ok x) D P Q R f p q = tt
both_err (Err e) D P Q R f p q = ⊎_elim (λ failed. inl failed) (λ one. ⊎_elim (λ failed. inl failed) (λ other. inr (f one other)) q) p

-- after an error it has failed, or two things hold of which one is told of a live state
pub live_err : {T E : Type 0} (r : Result T E) (failed : Bool) (P Q R : Type 0) → (P → Q → R) → OnErr r ((failed ≡ true) ⊎ P) → OnErr r (failed ≡ false → Q) → OnErr r ((failed ≡ true) ⊎ R)
live_err (Ok x) failed P Q R f p q = tt
live_err (Err e) true P Q R f p q = inl refl
live_err (Err e) false P Q R f p q = ⊎_elim (λ wrong. absurd (let no : false ≡ true = wrong in cc)) (λ one. inr (f one (q refl))) p
