use Rattle.std.proofs.Common.{◌≡◌, ◌∙◌, List, ap, ap₂, length, map, subst, sym, take_all}
use Rattle.std.specs.Prelude.{All}
use Rattle.std.specs.Rc.{rc_value}
use Rattle.msi_tables.specs.Held.{heading_of, rows_held}
use Rattle.msi_tables.specs.Row.{ValueRow}
use Rattle.msi.specs.Rows.{value_row}
use Rattle.msi_parts.specs.Whole.{Wide}
use Rattle.msi.proofs.Told.{values_told, wide_at, wide_values}
use Rattle.msi.proofs.rows.rows_of_cells.Goals as goal

pub row_of_cells-requires : goal.row_of_cells-requires
row_of_cells-requires c =
    let n = length (heading_of (rc_value c.args.table)).columns in
    ap length c.deref.ensures.value
    ∙ ap (λ row. length row.items) c.row-item.is
    ∙ wide_at n c.deref-row-items.result.now (subst (λ rows. Wide n (rows_held rows)) (sym c.deref-row-items.ensures.value) c.requires) c.loop-row.row-index c.row-item.result c.loop-row-test.true
    ∙ ap (λ t. length (heading_of t).columns) (sym c.in_ok-clone.ensures.cases)

pub new-requires : goal.new-requires
new-requires c =
    let columns = (heading_of (rc_value c.args.table)).columns in
    let told : c.loop-row.told.items ≡ map (value_row columns c.args.pool.now.pool) (rows_held c.args.rows.items) =
    c.loop-row.invariant
    ∙ ap (λ rows. map (value_row columns c.args.pool.now.pool) (rows_held rows)) (take_all c.loop-row.row-index c.deref-row-items.result.now c.loop-row-test.false ∙ c.deref-row-items.ensures.value) in
    subst (λ (rows : List ValueRow). All (λ row. length row.values ≡ length columns) rows) (sym told) (wide_values columns c.args.pool.now.pool (rows_held c.args.rows.items) c.requires)

pub returns-clause-shown : goal.returns-clause-shown
returns-clause-shown c =
    let columns = (heading_of (rc_value c.args.table)).columns in
    let told : c.loop-row.told.items ≡ map (value_row columns c.args.pool.now.pool) (rows_held c.args.rows.items) =
    c.loop-row.invariant
    ∙ ap (λ rows. map (value_row columns c.args.pool.now.pool) (rows_held rows)) (take_all c.loop-row.row-index c.deref-row-items.result.now c.loop-row-test.false ∙ c.deref-row-items.ensures.value) in
    ap₂ (λ names rows. (names, rows)) (ap (map (λ c. c.name)) c.new.ensures.columns)
    (ap (map (λ row. row.values)) (c.new.ensures.left ∙ told) ∙ values_told columns c.args.pool.now.pool (rows_held c.args.rows.items))
