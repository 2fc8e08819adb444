use Rattle.std.proofs.Common.{◌≡◌, ◌<◌, ℕ, Bool, true, false, arith, inl, inr, length, refl}
use Rattle.std.specs.Prelude.{◌⊎◌, nat_le, Err, Ok, Result}
use Rattle.std.proofs.lemmas.Bool.Decides.{nat_tests}
use Rattle.cfb_medium.specs.declared.error.Error.{Error}
use Rattle.cfb_medium.specs.declared.error.Error.TheVariants.{InvalidInput}
use Rattle.msi_spec.specs.Package.{PackageContent}
use Rattle.msi_spec.specs.Streams.{stream_written}
use Rattle.msi_texts.specs.Results.{◌>>=◌, unless_not}
use Rattle.msi_streams.proofs.writing.streams_are_written_within.Goals as goal

abbrev within : Result PackageContent Error → Bool → Result PackageContent Error
within r short = r >>= λ Q. unless_not short InvalidInput >>= λ _. Ok Q

done_by : (r : Result PackageContent Error) (short : Bool) (Q : PackageContent) → within r short ≡ Ok Q → r ≡ Ok Q
done_by (Err x) short Q is = absurd (cc)
done_by (Ok R) true Q is = is
done_by (Ok R) false Q is = absurd (cc)

refused_by : (r : Result PackageContent Error) (short : Bool) (e : Error) → within r short ≡ Err e → (r ≡ Err e) ⊎ ((e ≡ InvalidInput) × (short ≡ false))
refused_by (Err x) short e is = inl is
refused_by (Ok R) true e is = absurd (cc)
refused_by (Ok R) false e is = let same : e ≡ InvalidInput = cc in inr (same, refl)

longer : (n most : ℕ) → nat_le n most ≡ false → most < n
longer n most is = grind (arith, nat_tests, is)

pub returns-clause-done : goal.returns-clause-done
returns-clause-done c letters most name bytes P Q is = done_by (stream_written letters P name bytes) (nat_le (length bytes) most) Q is

pub returns-clause-refused_only_if : goal.returns-clause-refused_only_if
returns-clause-refused_only_if c letters most name bytes P e is = elim (refused_by (stream_written letters P name bytes) (nat_le (length bytes) most) e is) [
  | inl told ↦ inl told
  | inr long ↦ inr (long.0, longer (length bytes) most long.1)
]
