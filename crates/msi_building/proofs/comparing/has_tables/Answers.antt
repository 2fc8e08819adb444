use Rattle.std.proofs.Common.{subst}
use Rattle.std.proofs.lemmas.List.{take_all}
use Rattle.std.proofs.lemmas.List.Elements.{All-from_recursion}
use Rattle.std.specs.List.{AllByRecursion}
use Rattle.msi_building.specs.Saying.{SaysTable}
use Rattle.msi_copies.proofs.Resting.{keeps_rests}
use Rattle.msi_building.proofs.Each.{all_more}
use Rattle.msi_building.proofs.Reading.{rests_then}
use Rattle.msi_building.proofs.comparing.has_tables.Goals as goal

pub loop-table-preserved : goal.loop-table-preserved
loop-table-preserved g c =
    let reads = c.loop-table.invariant.reads in
    record {
      reads = rests_then c.args.built.now c.loop-table.built c.has_table.new.built reads c.has_table.ensures.only_reads;
      said = λ P h.
          let held = (keeps_rests c.args.built.now c.loop-table.built reads).holds P h in
          all_more (SaysTable P) c.args.said.now c.loop-table.table-index c.table-item.result c.loop-table-test.true c.table-item.is (c.loop-table.invariant.said P h)
          (c.in_ok-has_table.ensures.says P held c.if-not-branch.false);
    }

pub returns-clause-says : goal.returns-clause-says
returns-clause-says g c = λ P h yes.
    All-from_recursion (SaysTable P) c.args.said.now (subst (AllByRecursion (SaysTable P)) (take_all c.loop-table.table-index c.args.said.now c.loop-table-test.false) (c.loop-table.invariant.said P h))
