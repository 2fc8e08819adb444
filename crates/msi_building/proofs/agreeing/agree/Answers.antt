use Rattle.std.proofs.Common.{◌≡◌, refl, subst}
use Rattle.std.proofs.lemmas.Result.{IfOk-weaker}
use Rattle.std.specs.Prelude.{All}
use Rattle.cfb.specs.Views.{file_case_table}
use Rattle.cfb_tree.specs.Names.{CaseTable}
use Rattle.msi.specs.Opened.{file_in}
use Rattle.msi_building.specs.Agreeing.{Agree}
use Rattle.msi_copies.proofs.Resting.{keeps_rests}
use Rattle.msi_spec.specs.Package.{PackageContent}
use Rattle.msi_spec.specs.Streams.{stream_names, stream_read}
use Rattle.msi_building.proofs.Reading.{rests_then}
use Rattle.msi_building.proofs.agreeing.agree.Goals as goal

-- the streams are the same
abbrev StreamsAgree : PackageContent → PackageContent → CaseTable → CaseTable → Type 0
StreamsAgree P Q letters others = (stream_names others Q ≡ stream_names letters P) × All (λ name. stream_read others Q name ≡ stream_read letters P name) (stream_names letters P)

pub returns-clause-same : goal.returns-clause-same
returns-clause-same c P Q h k =
    let reads = c.have_same_tables.ensures.reads in
    let others = c.have_same_tables.ensures.reads_other in
    let held = (keeps_rests c.args.one.now c.have_same_tables.new.one reads).holds P h in
    let there = (keeps_rests c.args.other.now c.have_same_tables.new.other others).holds Q k in
    let facts = c.if-not-have_same_facts.ensures P Q h k refl in
    let tables = c.in_ok-have_same_tables.ensures.same P Q h k c.if-not-branch.false in
    IfOk-weaker c.have_same_streams.result _ _ (λ b each same.
    let streams = subst (λ l. StreamsAgree P Q l (file_case_table (file_in c.args.other.now))) reads.file.letters (subst (λ o. StreamsAgree P Q (file_case_table (file_in c.have_same_tables.new.one)) o) others.file.letters (each same)) in
    record { page = facts.0; names = tables.0; tables = tables.1; properties = facts.1; streams = streams.0; bytes = streams.1 }) (c.have_same_streams.ensures.same P Q held there)

pub returns-clause-reads : goal.returns-clause-reads
returns-clause-reads c = rests_then c.args.one.now c.have_same_tables.new.one c.have_same_streams.new.one c.have_same_tables.ensures.reads c.have_same_streams.ensures.reads

pub returns-clause-reads_other : goal.returns-clause-reads_other
returns-clause-reads_other c = rests_then c.args.other.now c.have_same_tables.new.other c.have_same_streams.new.other c.have_same_tables.ensures.reads_other c.have_same_streams.ensures.reads_other
