use Rattle.std.proofs.Common.{◌≡◌, Global, List, String, map, subst, sym, ℕ}
use Rattle.std.proofs.lemmas.List.{take_all}
use Rattle.std.proofs.lemmas.List.Elements.{All-from_recursion, All-map}
use Rattle.std.specs.List.{AllByRecursion}
use Rattle.std.specs.Prelude.{string_bytes}
use Rattle.cfb.specs.Views.{file_case_table}
use Rattle.cfb_tree.specs.Names.{CaseTable}
use Rattle.msi.specs.Opened.{file_in}
use Rattle.msi_copies.proofs.Resting.{keeps_rests}
use Rattle.msi_spec.specs.Package.{PackageContent}
use Rattle.msi_spec.specs.Streams.{stream_read}
use Rattle.msi_building.proofs.Each.{all_more}
use Rattle.msi_building.proofs.Reading.{rests_then}
use Rattle.msi_building.proofs.agreeing.are_same_streams.Goals as goal

-- a stream has the same bytes in both
abbrev IsRead : CaseTable → PackageContent → CaseTable → PackageContent → List ℕ → Type 0
IsRead letters P others Q name = stream_read others Q name ≡ stream_read letters P name

abbrev Agrees : CaseTable → PackageContent → CaseTable → PackageContent → String Global → Type 0
Agrees letters P others Q name = IsRead letters P others Q (string_bytes name)

pub loop-name-preserved : goal.loop-name-preserved
loop-name-preserved c =
    let reads = c.loop-name.invariant.reads in
    let others = c.loop-name.invariant.reads_other in
    let first = file_case_table (file_in c.args.one.now) in
    let second = file_case_table (file_in c.args.other.now) in
    record {
      reads = rests_then c.args.one.now c.loop-name.one c.is_same_stream.new.one reads c.is_same_stream.ensures.reads;
      reads_other = rests_then c.args.other.now c.loop-name.other c.is_same_stream.new.other others c.is_same_stream.ensures.reads_other;
      same = λ P Q h k.
          let held = (keeps_rests c.args.one.now c.loop-name.one reads).holds P h in
          let there = (keeps_rests c.args.other.now c.loop-name.other others).holds Q k in
          let so = c.in_ok-is_same_stream.ensures.same P Q held there c.if-not-branch.false in
          all_more (Agrees first P second Q) c.args.names.now c.loop-name.name-index c.name-item.result c.loop-name-test.true c.name-item.is (c.loop-name.invariant.same P Q h k)
          (subst (IsRead first P second Q) c.deref.ensures (subst (λ l. IsRead l P second Q c.deref.result.now) reads.file.letters (subst (λ l. IsRead (file_case_table (file_in c.loop-name.one)) P l Q c.deref.result.now) others.file.letters so)));
    }

pub returns-clause-same : goal.returns-clause-same
returns-clause-same c = λ P Q h k yes.
    let first = file_case_table (file_in c.args.one.now) in
    let second = file_case_table (file_in c.args.other.now) in
    All-map (IsRead first P second Q) string_bytes c.args.names.now (All-from_recursion (Agrees first P second Q) c.args.names.now (subst (AllByRecursion (Agrees first P second Q)) (take_all c.loop-name.name-index c.args.names.now c.loop-name-test.false) (c.loop-name.invariant.same P Q h k)))

pub returns-in_err-is_same_stream-clause-reads : goal.returns-in_err-is_same_stream-clause-reads
returns-in_err-is_same_stream-clause-reads c = rests_then c.args.one.now c.loop-name.one c.is_same_stream.new.one c.loop-name.invariant.reads c.is_same_stream.ensures.reads

pub returns-in_err-is_same_stream-clause-reads_other : goal.returns-in_err-is_same_stream-clause-reads_other
returns-in_err-is_same_stream-clause-reads_other c = rests_then c.args.other.now c.loop-name.other c.is_same_stream.new.other c.loop-name.invariant.reads_other c.is_same_stream.ensures.reads_other

pub returns-then-not-branch-clause-reads : goal.returns-then-not-branch-clause-reads
returns-then-not-branch-clause-reads c = rests_then c.args.one.now c.loop-name.one c.is_same_stream.new.one c.loop-name.invariant.reads c.is_same_stream.ensures.reads

pub returns-then-not-branch-clause-reads_other : goal.returns-then-not-branch-clause-reads_other
returns-then-not-branch-clause-reads_other c = rests_then c.args.other.now c.loop-name.other c.is_same_stream.new.other c.loop-name.invariant.reads_other c.is_same_stream.ensures.reads_other
