-- What the calls on streams do, as steps.
use Rattle.std.proofs.Common.{◌≡◌, ◌⊎◌, ℕ, Bool, List, ap, arith, false, inl, inr, length, refl, true}
use Rattle.std.specs.Prelude.{Err, Ok, Result, nat_le}
use Rattle.std.proofs.lemmas.Bool.Decides.{nat_tests}
use Rattle.cfb_medium.specs.Versions.{stream_len_mask}
use Rattle.cfb_medium.specs.declared.error.Error.{Error}
use Rattle.cfb_medium.specs.declared.error.Error.TheVariants.{InvalidInput}
use Rattle.cfb_medium.specs.declared.version.Version.{Version}
use Rattle.cfb_tree.specs.Names.{CaseTable}
use Rattle.command_file.specs.Request as asked
use Rattle.msi_spec.specs.Calls.{EndsRefusedOrBy}
use Rattle.msi_spec.specs.Package.{PackageContent}
use Rattle.msi_spec.specs.Streams.{stream_written}
use Rattle.msi_streams.specs.Writing.{written_within, AppliesPackageRule}
use Rattle.msi_texts.specs.Results.{◌>>=◌, unless_not}
use Rattle.installer.proofs.Going.{StepOr}
use Rattle.installer.specs.SessionStates.{IsTooMuch}
use Rattle.installer.specs.Step.{PackageBecomes, told_of}

pub becomes : (made : Result PackageContent Error) (P Q : PackageContent) (answer : Result (Unit {0}) Error) → EndsRefusedOrBy made P Q answer (λ R. Q ≡ R) → PackageBecomes made P Q (told_of answer)
becomes (Ok R) P Q answer is = (is.1, ap told_of is.0)
becomes (Err e) P Q answer is = (is.0, ap told_of is.1)

module _ (letters : CaseTable) (v : Version) (name content : List ℕ) (P Q : PackageContent) (answer : Result (Unit {0}) Error) where
  within : (fits : Bool) (R : PackageContent) → nat_le (length content) (stream_len_mask v) ≡ fits
      → EndsRefusedOrBy (unless_not fits InvalidInput >>= λ _. Ok R) P Q answer (λ R. Q ≡ R)
      → PackageBecomes (Ok R) P Q (told_of answer) ⊎ ((answer ≡ Err InvalidInput) × IsTooMuch P (asked.write_stream name content))
  within true R fits is = inl (is.1, ap told_of is.0)
  within false R fits is = inr (is.1, (v, grind (arith, nat_tests, fits)))

  made : (written : Result PackageContent Error)
      → EndsRefusedOrBy (written >>= λ R. unless_not (nat_le (length content) (stream_len_mask v)) InvalidInput >>= λ _. Ok R) P Q answer (λ R. Q ≡ R)
      → PackageBecomes written P Q (told_of answer) ⊎ ((answer ≡ Err InvalidInput) × IsTooMuch P (asked.write_stream name content))
  made (Ok R) is = within (nat_le (length content) (stream_len_mask v)) R refl is
  made (Err e) is = inl (is.0, ap told_of is.1)

  pub written_so : AppliesPackageRule (written_within letters (stream_len_mask v) name content) P Q answer → StepOr letters P (asked.write_stream name content) answer Q
  written_so is = made (stream_written letters P name content) is
