use Rattle.std.proofs.Common.{◌≡◌, refl, subst}
use Rattle.std.proofs.lemmas.Result.{IfOk-weaker}
use Rattle.std.specs.Prelude.{All, Ok, string_bytes}
use Rattle.cfb.specs.Views.{file_case_table}
use Rattle.cfb_tree.specs.Names.{CaseTable}
use Rattle.msi.specs.Opened.{file_in}
use Rattle.msi_copies.proofs.Resting.{keeps_rests}
use Rattle.msi_spec.specs.Package.{PackageContent}
use Rattle.msi_spec.specs.Streams.{stream_read}
use Rattle.msi_building.specs.Saying.{SaysTable}
use Rattle.msi_building.specs.declared.said.SaidStream.{SaidStream}
use Rattle.msi_building.proofs.Reading.{rests_then}
use Rattle.msi_building.proofs.comparing.says.Goals as goal

-- a stream has its bytes
abbrev HasBytes : CaseTable → PackageContent → SaidStream → Type 0
HasBytes letters P s = stream_read letters P (string_bytes s.name) ≡ Ok s.bytes.items

pub returns-clause-says : goal.returns-clause-says
returns-clause-says g c = λ P h.
    let letters = file_case_table (file_in c.args.built.now) in
    let reads = c.has_tables.ensures.only_reads in
    let facts = c.if-not-has_facts.ensures P h refl in
    let names = c.in_ok-has_names.ensures P h c.if-not-branch.false in
    let tables = c.in_ok-has_tables.ensures.says P h c.if-not-branch-2.false in
    let held = (keeps_rests c.args.built.now c.has_tables.new.built reads).holds P h in
    IfOk-weaker c.has_bytes.result _ _ (λ b each same. record {
      page = facts.0;
      names = names.0;
      tables = subst (All (SaysTable P)) c.deref.ensures.value tables;
      properties = facts.1;
      streams = names.1;
      bytes = subst (All (HasBytes letters P)) c.deref-2.ensures.value (subst (λ l. All (HasBytes l P) c.deref-2.result.now) reads.file.letters (each same));
    }) (c.has_bytes.ensures.says P held)

pub returns-clause-only_reads : goal.returns-clause-only_reads
returns-clause-only_reads g c = rests_then c.args.built.now c.has_tables.new.built c.has_bytes.new.built c.has_tables.ensures.only_reads c.has_bytes.ensures.only_reads
