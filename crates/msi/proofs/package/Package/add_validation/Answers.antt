use Rattle.std.proofs.Common.{◌∙◌, refl, sym}
use Rattle.cfb.specs.Views.{file_case_table}
use Rattle.msi_table_edits.specs.Validating.{Validates}
use Rattle.msi.specs.Changing.{failed_in}
use Rattle.msi.specs.Opened.{file_in, sound_in}
use Rattle.msi.proofs.Filled.{not_permitted_fills, rows_fill}
use Rattle.msi.proofs.Causes.{refused_cause, refused_change}
use Rattle.msi.proofs.Made.{made_changes, validated_keeps}
use Rattle.msi.proofs.Permitted.{not_permitted, permitted}
use Rattle.msi.proofs.package.Package.add_validation.Goals as goal

pub returns-in-Err-clause-changes : goal.returns-in-Err-clause-changes
returns-in-Err-clause-changes g c =
    not_permitted (λ P Q answer. Validates (file_case_table (file_in c.args.self.now)) P Q answer) c.args.self.now c.in-Err.error (sym c.may_change.ensures ∙ c.in-Err.is)

pub returns-clause-changes : goal.returns-clause-changes
returns-clause-changes g c =
    let it = c.args.self.now in
    let l = file_case_table (file_in it) in
    let may = permitted (failed_in it) (sound_in it) (sym c.may_change.ensures ∙ c.in_default.is) in
    let done = c.add_validation.ensures.makes in
    made_changes (λ P Q answer. Validates l P Q answer) (λ P Q told. validated_keeps l P Q told) it _ (record { letters = done.seen.0; kind = refl; summary = refl; sound = refl; written = refl }) may.0 may.1
    c.add_validation.result done

pub returns-in-Err-clause-cause : goal.returns-in-Err-clause-cause
returns-in-Err-clause-cause g c = refused_cause (λ m n from. (g.met.F.ReadMedium.continues_keeps m n from).as_failed) c.args.self.now c.in-Err.error (sym c.may_change.ensures ∙ c.in-Err.is)

pub returns-in-Err-clause-errors : goal.returns-in-Err-clause-errors
returns-in-Err-clause-errors g c = refused_change c.args.self.now c.in-Err.error (sym c.may_change.ensures ∙ c.in-Err.is)

pub returns-in-Err-clause-full_only_if : goal.returns-in-Err-clause-full_only_if
returns-in-Err-clause-full_only_if g c = not_permitted_fills (λ P Q answer. Validates (file_case_table (file_in c.args.self.now)) P Q answer) c.args.self.now c.in-Err.error (sym c.may_change.ensures ∙ c.in-Err.is)

pub returns-clause-full_only_if : goal.returns-clause-full_only_if
returns-clause-full_only_if g c = rows_fill (λ P Q answer. Validates (file_case_table (file_in c.args.self.now)) P Q answer) c.args.self.now (record c.args.self.now { store = c.add_validation.new.store; pool = c.add_validation.new.pool }) c.add_validation.result c.add_validation.ensures.full_only_if
