use Rattle.msi_columns.specs.Held.{columns_of}
use Rattle.msi_row_edits.proofs.Listed.{listed_by_values, writable_stay}
use Rattle.msi_row_edits.proofs.listing.rows_in_order.Goals as goal

pub returns-clause-ok : goal.returns-clause-ok
returns-clause-ok c = λ pool said.
    listed_by_values (columns_of c.args.columns.now) pool c.args.values.items c.args.rows.items c.in_ok-rows_alone.field-0.items c.in_ok-pairs.pairs.items c.sort_by_keys.new.pairs.items said
    c.in_ok-pairs.ensures.ok c.in_ok-sort_by_keys.ensures.sorted c.in_ok-sort_by_keys.ensures.stable c.in_ok-rows_alone.ensures.ok

pub returns-clause-writable : goal.returns-clause-writable
returns-clause-writable c = λ long all are.
    writable_stay (columns_of c.args.columns.now) c.args.values.items c.args.rows.items c.in_ok-rows_alone.field-0.items c.in_ok-pairs.pairs.items c.sort_by_keys.new.pairs.items
    c.in_ok-pairs.ensures.ok c.in_ok-sort_by_keys.ensures.stable c.in_ok-rows_alone.ensures.ok long all are
