use Rattle.std.proofs.Common.{◌∙◌, inl, refl, sym}
use Rattle.cfb.proofs.Filling.{reads_refl}
use Rattle.cfb.specs.Views.{file_case_table}
use Rattle.msi_streams.specs.Writing.{AppliesPackageRule, most_bytes, written_within}
use Rattle.msi.specs.Changing.{failed_in}
use Rattle.msi.specs.Opened.{file_in, sound_in}
use Rattle.msi.proofs.Changed.{streams_changed}
use Rattle.msi.proofs.Leaving.{writing_leaves}
use Rattle.msi.proofs.Filled.{not_permitted_fills, streams_fill}
use Rattle.msi.proofs.Causes.{refused_cause, refused_change}
use Rattle.msi.proofs.Permitted.{not_permitted, permitted}
use Rattle.msi.proofs.package.Package.put_stream_from.Goals as goal

pub returns-in-Err-clause-puts : goal.returns-in-Err-clause-puts
returns-in-Err-clause-puts g c =
    let it = c.args.self.now in
    let bytes = g.S.ReadMedium.bytes c.args.source.now in
    let rule = AppliesPackageRule (written_within (file_case_table (file_in it)) (most_bytes (file_in it)) c.args.name.now bytes) in
    record {
      content = bytes;
      whole = λ honest. refl;
      changes = not_permitted rule it c.in-Err.error (sym c.may_change.ensures ∙ c.in-Err.is);
      full = not_permitted_fills rule it c.in-Err.error (sym c.may_change.ensures ∙ c.in-Err.is);
    }

pub returns-in-Err-clause-only_reads : goal.returns-in-Err-clause-only_reads
returns-in-Err-clause-only_reads g c = reads_refl g.S.ReadMedium c.args.source.now

pub returns-in-Err-clause-cause : goal.returns-in-Err-clause-cause
returns-in-Err-clause-cause g c = inl (refused_cause (λ m n from. (g.met.F.ReadMedium.continues_keeps m n from).as_failed) c.args.self.now c.in-Err.error (sym c.may_change.ensures ∙ c.in-Err.is))

pub returns-in-Err-clause-errors : goal.returns-in-Err-clause-errors
returns-in-Err-clause-errors g c = refused_change c.args.self.now c.in-Err.error (sym c.may_change.ensures ∙ c.in-Err.is)

pub returns-clause-puts : goal.returns-clause-puts
returns-clause-puts g c =
    let it = c.args.self.now in
    let may = permitted (failed_in it) (sound_in it) (sym c.may_change.ensures ∙ c.in_default.is) in
    let put = c.write_stream_from.ensures.changes in
    let letters = file_case_table (file_in it) in
    let rule = AppliesPackageRule (written_within letters (most_bytes (file_in it)) c.args.name.now put.content) in
    record {
      content = put.content;
      whole = put.whole;
      changes = streams_changed rule (writing_leaves letters (most_bytes (file_in it)) c.args.name.now put.content) it _
          (record { letters = put.changes.seen.0; tables = refl; kind = refl; summary = refl; sound = refl; written = refl }) refl may.0 may.1 c.write_stream_from.result put.changes;
      full = streams_fill rule it (record it { store = record it.store { file = c.write_stream_from.new.file } }) c.write_stream_from.result put.full;
    }

pub returns-clause-cause : goal.returns-clause-cause
returns-clause-cause g c = c.write_stream_from.ensures.error_contract.cause

pub returns-clause-errors : goal.returns-clause-errors
returns-clause-errors g c = c.write_stream_from.ensures.error_contract.fault
