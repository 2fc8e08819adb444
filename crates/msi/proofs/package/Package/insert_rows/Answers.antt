use Rattle.std.proofs.Common.{◌∙◌, refl, sym}
use Rattle.msi_changes.specs.Said.{insert_name, insert_rows}
use Rattle.msi_spec.specs.Calls.{Inserts}
use Rattle.msi.specs.Changing.{failed_in}
use Rattle.msi.specs.Opened.{sound_in}
use Rattle.msi.proofs.Changed.{rows_changed}
use Rattle.msi.proofs.Leaving.{insert_keeps}
use Rattle.msi.proofs.Filled.{not_permitted_fills, rows_fill}
use Rattle.msi.proofs.Causes.{refused_cause, refused_change}
use Rattle.msi.proofs.Permitted.{not_permitted, permitted}
use Rattle.msi.proofs.package.Package.insert_rows.Goals as goal

pub returns-in-Err-clause-changes : goal.returns-in-Err-clause-changes
returns-in-Err-clause-changes g c = not_permitted (λ P Q answer. Inserts P (insert_name c.args.query.now) (insert_rows c.args.query.now) Q answer) c.args.self.now c.in-Err.error (sym c.may_change.ensures ∙ c.in-Err.is)

pub returns-clause-changes : goal.returns-clause-changes
returns-clause-changes g c =
    let it = c.args.self.now in
    let name = insert_name c.args.query.now in
    let rows = insert_rows c.args.query.now in
    let may = permitted (failed_in it) (sound_in it) (sym c.may_change.ensures ∙ c.in_default.is) in
    let done = c.insert_rows.ensures.edits in
    rows_changed (λ P Q answer. Inserts P (insert_name c.args.query.now) (insert_rows c.args.query.now) Q answer) (λ P Q told. (insert_keeps name rows P Q told).0) (λ P Q told. (insert_keeps name rows P Q told).1)
    it _ (record { letters = done.seen.0; tables = done.tables; kind = refl; summary = refl; sound = refl; written = refl }) may.0 may.1 c.insert_rows.result done

pub returns-in-Err-clause-cause : goal.returns-in-Err-clause-cause
returns-in-Err-clause-cause g c = refused_cause (λ m n from. (g.met.F.ReadMedium.continues_keeps m n from).as_failed) c.args.self.now c.in-Err.error (sym c.may_change.ensures ∙ c.in-Err.is)

pub returns-in-Err-clause-errors : goal.returns-in-Err-clause-errors
returns-in-Err-clause-errors g c = refused_change c.args.self.now c.in-Err.error (sym c.may_change.ensures ∙ c.in-Err.is)

pub returns-in-Err-clause-full_only_if : goal.returns-in-Err-clause-full_only_if
returns-in-Err-clause-full_only_if g c = not_permitted_fills (λ P Q answer. Inserts P (insert_name c.args.query.now) (insert_rows c.args.query.now) Q answer) c.args.self.now c.in-Err.error (sym c.may_change.ensures ∙ c.in-Err.is)

pub returns-clause-full_only_if : goal.returns-clause-full_only_if
returns-clause-full_only_if g c = rows_fill (λ P Q answer. Inserts P (insert_name c.args.query.now) (insert_rows c.args.query.now) Q answer) c.args.self.now (record c.args.self.now { store = c.insert_rows.new.store; pool = c.insert_rows.new.pool }) c.insert_rows.result c.insert_rows.ensures.full_only_if
