use Rattle.std.proofs.Common.{◌≡◌, ◌∙◌, ◌++◌, ◌∷◌, [], ap, ap₂}
use Rattle.std.specs.Borrow.{Bor}
use Rattle.std.proofs.lemmas.List.{map-append}
use Rattle.msi_tables.specs.Rows.{Row}
use Rattle.msi_values.specs.Borrowed.{borrowed_datum}
use Rattle.msi_query.specs.Grouped.{rows_lent, value_in}
use Rattle.msi_query.proofs.GroupedRows.{one_more}
use Rattle.msi_query.proofs.grouping.rows_by_value.Goals as goal

pub loop-row-preserved : goal.loop-row-preserved
loop-row-preserved c =
    let said : borrowed_datum c.value_at-value.result ≡ value_in c.args.pool.now.pool c.row-item.result.items c.args.place = c.value_at-value.ensures ∙ ap (λ row. value_in c.args.pool.now.pool row c.args.place) c.deref.ensures.value in
    let has : rows_lent c.push.new.self.items ≡ _ =
    ap rows_lent c.in_ok-push.ensures.items ∙ map-append (λ (row : Bor Row). row.now) c.take_group-group.result.items (c.as_slice.result ∷ [])
    ∙ ap₂ (λ rows row. rows ++ row ∷ []) c.take_group-group.ensures.rows c.as_slice.ensures.value in
    one_more c.args.pool.now.pool c.args.place c.args.rows.now c.loop-row.row-index c.row-item.result c.loop-row-test.true c.row-item.is c.value_at-value.result said c.loop-row.groups c.take_group-group.new.groups c.insert.new.self c.push.new.self
    c.take_group-group.ensures.gone c.in_ok-insert.ensures.updates.0 has c.loop-row.invariant
