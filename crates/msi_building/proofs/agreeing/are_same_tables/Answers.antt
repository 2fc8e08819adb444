use Rattle.std.proofs.Common.{Global, String, map, subst, sym}
use Rattle.std.proofs.lemmas.List.{take_all}
use Rattle.std.proofs.lemmas.List.Elements.{All-from_recursion, All-map}
use Rattle.std.specs.List.{AllByRecursion}
use Rattle.std.specs.Prelude.{string_bytes}
use Rattle.msi_building.specs.Agreeing.{TableAgrees}
use Rattle.msi_copies.proofs.Resting.{keeps_rests}
use Rattle.msi_spec.specs.Package.{PackageContent}
use Rattle.msi_building.proofs.Each.{all_more}
use Rattle.msi_building.proofs.Reading.{rests_then}
use Rattle.msi_building.proofs.agreeing.are_same_tables.Goals as goal

abbrev Agrees : PackageContent → PackageContent → String Global → Type 0
Agrees P Q name = TableAgrees P Q (string_bytes name)

pub loop-name-preserved : goal.loop-name-preserved
loop-name-preserved c =
    let reads = c.loop-name.invariant.reads in
    let others = c.loop-name.invariant.reads_other in
    record {
      reads = rests_then c.args.one.now c.loop-name.one c.is_same_table.new.one reads c.is_same_table.ensures.reads;
      reads_other = rests_then c.args.other.now c.loop-name.other c.is_same_table.new.other others c.is_same_table.ensures.reads_other;
      same = λ P Q h k.
          let held = (keeps_rests c.args.one.now c.loop-name.one reads).holds P h in
          let there = (keeps_rests c.args.other.now c.loop-name.other others).holds Q k in
          all_more (Agrees P Q) c.args.names.now c.loop-name.name-index c.name-item.result c.loop-name-test.true c.name-item.is (c.loop-name.invariant.same P Q h k)
          (subst (TableAgrees P Q) c.deref.ensures (c.in_ok-is_same_table.ensures.same P Q held there c.if-not-branch.false));
    }

pub returns-clause-same : goal.returns-clause-same
returns-clause-same c = λ P Q h k yes.
    All-map (TableAgrees P Q) string_bytes c.args.names.now (All-from_recursion (Agrees P Q) c.args.names.now (subst (AllByRecursion (Agrees P Q)) (take_all c.loop-name.name-index c.args.names.now c.loop-name-test.false) (c.loop-name.invariant.same P Q h k)))

pub returns-in_err-is_same_table-clause-reads : goal.returns-in_err-is_same_table-clause-reads
returns-in_err-is_same_table-clause-reads c = rests_then c.args.one.now c.loop-name.one c.is_same_table.new.one c.loop-name.invariant.reads c.is_same_table.ensures.reads

pub returns-in_err-is_same_table-clause-reads_other : goal.returns-in_err-is_same_table-clause-reads_other
returns-in_err-is_same_table-clause-reads_other c = rests_then c.args.other.now c.loop-name.other c.is_same_table.new.other c.loop-name.invariant.reads_other c.is_same_table.ensures.reads_other

pub returns-then-not-branch-clause-reads : goal.returns-then-not-branch-clause-reads
returns-then-not-branch-clause-reads c = rests_then c.args.one.now c.loop-name.one c.is_same_table.new.one c.loop-name.invariant.reads c.is_same_table.ensures.reads

pub returns-then-not-branch-clause-reads_other : goal.returns-then-not-branch-clause-reads_other
returns-then-not-branch-clause-reads_other c = rests_then c.args.other.now c.loop-name.other c.is_same_table.new.other c.loop-name.invariant.reads_other c.is_same_table.ensures.reads_other
