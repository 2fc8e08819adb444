use Rattle.std.proofs.Common.{◌∙◌, refl, sym}
use Rattle.cfb.specs.Views.{file_case_table}
use Rattle.msi_spec.specs.Streams.{stream_removed}
use Rattle.msi_streams.specs.Writing.{AppliesPackageRule}
use Rattle.msi.specs.Changing.{failed_in}
use Rattle.msi.specs.Opened.{file_in, sound_in}
use Rattle.msi.proofs.Changed.{streams_changed}
use Rattle.msi.proofs.Leaving.{removing_leaves}
use Rattle.msi.proofs.Causes.{refused_cause, refused_removal}
use Rattle.msi.proofs.Permitted.{not_permitted, permitted}
use Rattle.msi.proofs.package.Package.remove_stream.Goals as goal

pub returns-in-Err-clause-changes : goal.returns-in-Err-clause-changes
returns-in-Err-clause-changes g c = not_permitted (AppliesPackageRule (λ P. stream_removed (file_case_table (file_in c.args.self.now)) P c.args.name.now)) c.args.self.now c.in-Err.error (sym c.may_change.ensures ∙ c.in-Err.is)

pub returns-clause-changes : goal.returns-clause-changes
returns-clause-changes g c =
    let it = c.args.self.now in
    let may = permitted (failed_in it) (sound_in it) (sym c.may_change.ensures ∙ c.in_default.is) in
    let done = c.remove_stream.ensures.changes in
    streams_changed (AppliesPackageRule (λ P. stream_removed (file_case_table (file_in c.args.self.now)) P c.args.name.now)) (removing_leaves (file_case_table (file_in c.args.self.now)) c.args.name.now) it _ (record { letters = done.seen.0; tables = refl; kind = refl; summary = refl; sound = refl; written = refl }) refl may.0 may.1 c.remove_stream.result done

pub returns-in-Err-clause-cause : goal.returns-in-Err-clause-cause
returns-in-Err-clause-cause g c = refused_cause (λ m n from. (g.met.F.ReadMedium.continues_keeps m n from).as_failed) c.args.self.now c.in-Err.error (sym c.may_change.ensures ∙ c.in-Err.is)

pub returns-in-Err-clause-errors : goal.returns-in-Err-clause-errors
returns-in-Err-clause-errors g c = refused_removal c.args.self.now c.in-Err.error (sym c.may_change.ensures ∙ c.in-Err.is)

pub returns-clause-cause : goal.returns-clause-cause
returns-clause-cause g c = c.remove_stream.ensures.error_contract.cause

pub returns-clause-errors : goal.returns-clause-errors
returns-clause-errors g c = c.remove_stream.ensures.error_contract.fault
