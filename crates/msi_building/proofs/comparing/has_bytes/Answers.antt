use Rattle.std.proofs.Common.{◌≡◌, subst}
use Rattle.std.proofs.lemmas.List.{take_all}
use Rattle.std.proofs.lemmas.List.Elements.{All-from_recursion}
use Rattle.std.specs.List.{AllByRecursion}
use Rattle.std.specs.Prelude.{Ok, string_bytes}
use Rattle.cfb.specs.Views.{file_case_table}
use Rattle.cfb_tree.specs.Names.{CaseTable}
use Rattle.msi.specs.Opened.{file_in}
use Rattle.msi_copies.proofs.Resting.{keeps_rests}
use Rattle.msi_spec.specs.Package.{PackageContent}
use Rattle.msi_spec.specs.Streams.{stream_read}
use Rattle.msi_building.specs.declared.said.SaidStream.{SaidStream}
use Rattle.msi_building.proofs.Each.{all_more}
use Rattle.msi_building.proofs.Reading.{rests_then}
use Rattle.msi_building.proofs.comparing.has_bytes.Goals as goal

-- a stream has its bytes
abbrev HasBytes : CaseTable → PackageContent → SaidStream → Type 0
HasBytes letters P s = stream_read letters P (string_bytes s.name) ≡ Ok s.bytes.items

pub loop-stream-preserved : goal.loop-stream-preserved
loop-stream-preserved g c =
    let reads = c.loop-stream.invariant.reads in
    let letters = file_case_table (file_in c.args.built.now) in
    record {
      reads = rests_then c.args.built.now c.loop-stream.built c.has_stream.new.built reads c.has_stream.ensures.only_reads;
      said = λ P h.
          let held = (keeps_rests c.args.built.now c.loop-stream.built reads).holds P h in
          all_more (HasBytes letters P) c.args.said.now c.loop-stream.stream-index c.stream-item.result c.loop-stream-test.true c.stream-item.is (c.loop-stream.invariant.said P h)
          (subst (λ l. HasBytes l P c.stream-item.result) reads.file.letters (c.in_ok-has_stream.ensures.says P held c.if-not-branch.false));
    }

pub returns-clause-says : goal.returns-clause-says
returns-clause-says g c = λ P h yes.
    let letters = file_case_table (file_in c.args.built.now) in
    All-from_recursion (HasBytes letters P) c.args.said.now (subst (AllByRecursion (HasBytes letters P)) (take_all c.loop-stream.stream-index c.args.said.now c.loop-stream-test.false) (c.loop-stream.invariant.said P h))
