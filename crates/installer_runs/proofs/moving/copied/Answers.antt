use Rattle.std.proofs.Common.{◌≡◌, arith, false, refl, subst, sym, true, ⊎_elim}
use Rattle.cfb.specs.Publishing.{medium_in}
use Rattle.cfb.specs.Views.{file_case_table}
use Rattle.cfb_medium.specs.Memory.{memory_bytes}
use Rattle.installer_runs.proofs.Copied.{never_copied, uncopied}
use Rattle.msi.specs.Committing.{BytesKeepPackage}
use Rattle.msi.specs.Opened.{file_in}
use Rattle.installer_runs.proofs.moving.copied.Goals as goal

pub returns-in-Ok-clause-keeps : goal.returns-in-Ok-clause-keeps
returns-in-Ok-clause-keeps c = λ P held sound.
    let letters = file_case_table (file_in c.args.source) in
    let kept : BytesKeepPackage letters (memory_bytes c.copy_to.new.target) P = (c.in-Ok.ensures.copies.beside P held sound refl, λ fit. ((c.in-Ok.ensures.copies.done P held sound fit).1 refl).holds) in
    subst (λ b. BytesKeepPackage letters b P) (sym c.into_bytes.ensures) kept

pub returns-in-Ok-clause-unsound : goal.returns-in-Ok-clause-unsound
returns-in-Ok-clause-unsound c = λ unsound. absurd (never_copied c.args.source c.copy_to.new.self _ _ _ c.in-Ok.ensures.copies unsound)

pub returns-clause-refused_only_if : goal.returns-clause-refused_only_if
returns-clause-refused_only_if c = λ P held. uncopied c.args.source _ _ c.in-Err.error c.copy_to.new.self P held c.in-Err.ensures.copies

pub returns-clause-cause : goal.returns-clause-cause
returns-clause-cause c =
    ⊎_elim
    (λ below. let own = below (medium_in (file_in c.args.source)) tt in (λ is. (let less = own.device is (omega arith) in omega (arith, less)), λ is. own.earlier is))
    (λ since. let own = since c.copy_to.new.target tt in (λ is. (let less = own.device is (omega arith) in omega (arith, less)), λ is. (let never : false ≡ true = own.earlier is in absurd (cc))))
    c.in-Err.ensures.cause
