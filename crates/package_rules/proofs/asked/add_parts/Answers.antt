use Rattle.std.proofs.Common.{◌∙◌, Bor, ℕ, List, [], ap, get_or, sym}
use Rattle.std.specs.List.{list_all}
use Rattle.std.proofs.lemmas.List.Folds.{list_all-map}
use Rattle.package_rules.specs.Asked.{asks}
use Rattle.package_rules.specs.declared.asked.ColumnAt.{ColumnAt}
use Rattle.package_rules.proofs.AskedPut.{all_put, grows_on, put_grows, put_there}
use Rattle.package_rules.proofs.StreamNames.{take_whole}
use Rattle.package_rules.proofs.asked.add_parts.Goals as goal

pub loop-table-preserved : goal.loop-table-preserved
loop-table-preserved c =
    let tables = c.args.tables.now in
    let i = c.loop-table.table-index in
    let old = c.loop-table.asked in
    let new = c.insert.new.self in
    let key : ColumnAt = record { column = c.args.column; table = get_or tables i (record { ref_ptr = (0, 0); now = [] }) } in
    let put = c.in_ok-insert.ensures.updates.0 in
    let grown = put_grows old new key put in
    record {
      grows = grows_on c.args.asked.now old new c.loop-table.invariant.grows grown;
      there = all_put old new c.args.column tables i (record { ref_ptr = (0, 0); now = [] }) c.loop-table-test.true grown c.loop-table.invariant.there (put_there old new key put);
    }

pub returns : goal.returns
returns c = record {
  grows = c.loop-table.invariant.grows;
  has_them = list_all-map (λ table. asks c.loop-table.asked table c.args.column) (λ (t : Bor (List ℕ)). t.now) c.args.tables.now
      ∙ sym (ap (list_all (λ (t : Bor (List ℕ)). asks c.loop-table.asked t.now c.args.column)) (take_whole c.args.tables.now c.loop-table.table-index c.loop-table-test.false))
      ∙ c.loop-table.invariant.there;
}
