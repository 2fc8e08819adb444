use Rattle.std.proofs.Common.{refl}
use Rattle.installer.proofs.Answering.{answers_changes, may_fill}
use Rattle.cfb.specs.Views.{mini_of}
use Rattle.cfb_fat.specs.Tables.{version_of}
use Rattle.cfb_mini.specs.Views.{allocator_of}
use Rattle.msi.specs.Opened.{file_in}
use Rattle.msi_streams.specs.Writing.{most_bytes, written_within, AppliesPackageRule}
use Rattle.installer.proofs.Streams.{written_so}
use Rattle.installer.specs.Sessions.{session_case_table, package_in}
use Rattle.installer.proofs.session.SessionOver.write_stream.Goals as goal

pub returns : goal.returns
returns g c =
    let G = g.met.F.ReadMedium in
    answers_changes G.continues_refl G.continues_keeps c.args.self.now _ c.requires refl (AppliesPackageRule (written_within (session_case_table c.args.self.now) (most_bytes (file_in (package_in c.args.self.now))) c.args.name.now c.args.bytes.now)) _ _ c.put_stream.result refl (λ P Q answer made. written_so (session_case_table c.args.self.now) (version_of (allocator_of (mini_of (file_in (package_in c.args.self.now))))) c.args.name.now c.args.bytes.now P Q answer made)
    c.put_stream.ensures.changes c.put_stream.ensures.invariants c.put_stream.ensures.cause (may_fill c.put_stream.result refl) c.answer_of.ensures
