use Rattle.std.proofs.Common.{◌∙◌, refl, sym}
use Rattle.cfb.specs.Views.{file_case_table}
use Rattle.msi_streams.specs.Writing.{AppliesPackageRule, most_bytes, written_within}
use Rattle.msi.specs.Changing.{failed_in}
use Rattle.msi.specs.Opened.{file_in, sound_in}
use Rattle.msi.proofs.Changed.{streams_changed}
use Rattle.msi.proofs.Leaving.{writing_leaves}
use Rattle.msi.proofs.Filled.{not_permitted_fills, streams_fill}
use Rattle.msi.proofs.Causes.{refused_cause, refused_change}
use Rattle.msi.proofs.Permitted.{not_permitted, permitted}
use Rattle.msi.proofs.package.Package.put_stream.Goals as goal

pub returns-in-Err-clause-changes : goal.returns-in-Err-clause-changes
returns-in-Err-clause-changes g c = not_permitted (AppliesPackageRule (written_within (file_case_table (file_in c.args.self.now)) (most_bytes (file_in c.args.self.now)) c.args.name.now c.args.bytes.now)) c.args.self.now c.in-Err.error (sym c.may_change.ensures ∙ c.in-Err.is)

pub returns-clause-changes : goal.returns-clause-changes
returns-clause-changes g c =
    let it = c.args.self.now in
    let may = permitted (failed_in it) (sound_in it) (sym c.may_change.ensures ∙ c.in_default.is) in
    let done = c.write_stream.ensures.changes in
    streams_changed (AppliesPackageRule (written_within (file_case_table (file_in c.args.self.now)) (most_bytes (file_in c.args.self.now)) c.args.name.now c.args.bytes.now)) (writing_leaves (file_case_table (file_in c.args.self.now)) (most_bytes (file_in c.args.self.now)) c.args.name.now c.args.bytes.now) it _ (record { letters = done.seen.0; tables = refl; kind = refl; summary = refl; sound = refl; written = refl }) refl may.0 may.1 c.write_stream.result done

pub returns-in-Err-clause-cause : goal.returns-in-Err-clause-cause
returns-in-Err-clause-cause g c = refused_cause (λ m n from. (g.met.F.ReadMedium.continues_keeps m n from).as_failed) c.args.self.now c.in-Err.error (sym c.may_change.ensures ∙ c.in-Err.is)

pub returns-in-Err-clause-errors : goal.returns-in-Err-clause-errors
returns-in-Err-clause-errors g c = refused_change c.args.self.now c.in-Err.error (sym c.may_change.ensures ∙ c.in-Err.is)

pub returns-clause-cause : goal.returns-clause-cause
returns-clause-cause g c = c.write_stream.ensures.error_contract.cause

pub returns-clause-errors : goal.returns-clause-errors
returns-clause-errors g c = c.write_stream.ensures.error_contract.fault

pub returns-in-Err-clause-full_only_if : goal.returns-in-Err-clause-full_only_if
returns-in-Err-clause-full_only_if g c = not_permitted_fills (AppliesPackageRule (written_within (file_case_table (file_in c.args.self.now)) (most_bytes (file_in c.args.self.now)) c.args.name.now c.args.bytes.now)) c.args.self.now c.in-Err.error (sym c.may_change.ensures ∙ c.in-Err.is)

pub returns-clause-full_only_if : goal.returns-clause-full_only_if
returns-clause-full_only_if g c = streams_fill (AppliesPackageRule (written_within (file_case_table (file_in c.args.self.now)) (most_bytes (file_in c.args.self.now)) c.args.name.now c.args.bytes.now)) c.args.self.now (record c.args.self.now { store = record c.args.self.now.store { file = c.write_stream.new.file } }) c.write_stream.result c.write_stream.ensures.full_only_if
