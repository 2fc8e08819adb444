use Rattle.std.proofs.Common.{◌≡◌, ◌∙◌, ◌++◌, ap, ap₂, inl, inr, subst, sym, Bool, List, Ok, ⊎_elim, Result}
use Rattle.std.specs.Rc.{rc_value}
use Rattle.cfb_medium.specs.Calls.{IsFaultOrInvalidInputIf}
use Rattle.cfb_medium.specs.declared.error.Error.{Error}
use Rattle.msi_changes.specs.Prepared.{pool_after}
use Rattle.msi_columns.specs.Column.{Column}
use Rattle.msi_spec.specs.Calls.{new_table, stored_rows}
use Rattle.msi_pool.specs.Pool.{Pool}
use Rattle.msi_tables.specs.Held.{heading_of, rows_held}
use Rattle.msi_tables.specs.Rows.{AreRowsWritable, Row}
use Rattle.msi_tables.specs.Schema.{columns_name, tables_name, validation_name}
use Rattle.msi_tables.specs.Table.{Heading}
use Rattle.msi_texts.specs.Results.{◌>>=◌}
use Rattle.msi_table_edits.specs.Describing.{rows_of_values}
use Rattle.msi_table_edits.specs.Listing.{two_counted}
use Rattle.msi_table_edits.specs.Making.{heading_put}
use Rattle.msi_table_edits.specs.Validating.{listed_columns}
use Rattle.msi_table_edits.proofs.Headings.{headings_put}
use Rattle.msi_table_edits.proofs.ListedReady.{listed_from}
use Rattle.msi_table_edits.proofs.ReadyFrom.{laid_as}
use Rattle.msi_table_edits.proofs.TwoCounted.{are_joined_two, two_full}
use Rattle.msi_table_edits.proofs.listing.listed_table.Goals as goal

pub bytes_with_new_rows-requires : goal.bytes_with_new_rows-requires
bytes_with_new_rows-requires c =
    let j = are_joined_two c.args.listing c.args.new_rows c.args.pool.now.pool c.requires.wide c.requires.taken ((rows_held c.in-Ok.counted.0.items, rows_held c.in-Ok.counted.1.items), pool_after c.args.pool.now c.in-Ok.counted.2) c.in-Ok.ensures.counts in
    subst (λ t. AreRowsWritable (heading_of t).long (heading_of t).columns (rows_held c.args.listing.columns_rows.items ++ rows_held c.in-Ok.counted.0.items)) (sym c.deref.ensures) j.columns

pub bytes_with_new_rows-requires-2 : goal.bytes_with_new_rows-requires-2
bytes_with_new_rows-requires-2 c =
    let j = are_joined_two c.args.listing c.args.new_rows c.args.pool.now.pool c.requires.wide c.requires.taken ((rows_held c.in-Ok.counted.0.items, rows_held c.in-Ok.counted.1.items), pool_after c.args.pool.now c.in-Ok.counted.2) c.in-Ok.ensures.counts in
    subst (λ t. AreRowsWritable (heading_of t).long (heading_of t).columns (rows_held c.args.listing.tables_rows.items ++ rows_held c.in-Ok.counted.1.items)) (sym c.deref-3.ensures) j.tables

pub returns-in-Err-clause-own : goal.returns-in-Err-clause-own
returns-in-Err-clause-own c =
    let new = c.args.new_rows in
    ⊎_elim (λ m. inl m) (λ is. inr (two_full c.args.pool.now.pool (rows_of_values new.columns.items) (rows_of_values new.tables.items) c.in-Err.error is)) c.in-Err.ensures.counts

pub returns-in-Err-clause-answer : goal.returns-in-Err-clause-answer
returns-in-Err-clause-answer c = λ letters tree P s same a memory r all.
    ⊎_elim (λ m. inl (inl (subst (IsFaultOrInvalidInputIf ⊥) (sym m) tt)))
    (λ is. inr (all ∙ ap (λ (r : Result ((List Row × List Row) × Pool) Error). r >>= λ x. Ok ((stored_rows P columns_name ++ x.0.0, stored_rows P tables_name ++ x.0.1), x.1))
    (sym (λ i. two_counted (same i) (r.columns_said i) (r.tables_said i)) ∙ is))) c.in-Err.ensures.counts

pub returns-clause-answer : goal.returns-clause-answer
returns-clause-answer c = λ letters tree P s same a memory r all.
    let y : (List Row × List Row) × Pool = ((rows_held c.in-Ok.counted.0.items, rows_held c.in-Ok.counted.1.items), pool_after c.args.pool.now c.in-Ok.counted.2) in
    let j = are_joined_two c.args.listing c.args.new_rows c.args.pool.now.pool c.requires.wide c.requires.taken y c.in-Ok.ensures.counts in
    let two = sym (λ i. two_counted (same i) (r.columns_said i) (r.tables_said i)) ∙ c.in-Ok.ensures.counts in
    let laid_c = laid_as same (ap heading_of c.deref.ensures ∙ a.columns) a.columns_rows (ap rows_of_values c.deref-2.ensures.value ∙ r.columns_said)
    (record { written = c.in_ok-columns_bytes.ensures.ok y.1; writable = subst (λ t. AreRowsWritable (heading_of t).long (heading_of t).columns (rows_held c.args.listing.columns_rows.items ++ rows_held c.in-Ok.counted.0.items)) (sym c.deref.ensures) j.columns; places = c.in_ok-columns_bytes.ensures.places }) in
    let laid_t = laid_as same (ap heading_of c.deref-3.ensures ∙ a.tables) a.tables_rows (ap rows_of_values c.deref-4.ensures.value ∙ r.tables_said)
    (record { written = c.in_ok-tables_bytes.ensures.ok y.1; writable = subst (λ t. AreRowsWritable (heading_of t).long (heading_of t).columns (rows_held c.args.listing.tables_rows.items ++ rows_held c.in-Ok.counted.1.items)) (sym c.deref-3.ensures) j.tables; places = c.in_ok-tables_bytes.ensures.places }) in
    let it = listed_from letters tree P s y two all c.in_ok-columns_bytes.columns_bytes.items c.in_ok-tables_bytes.tables_bytes.items (laid_c, laid_t) in
    let as_headed : List Column → Bool → Heading = λ cs l. record { name = validation_name; columns = cs; long = l } in
    let headed : heading_of (rc_value c.in_ok-table.table) ≡ record { name = validation_name; columns = listed_columns; long = P.pool.long } =
    c.in_ok-table.ensures.ok ∙ ap₂ as_headed c.requires.columns (c.long_string_refs.ensures ∙ ap (λ p. p.long) same) in
    record {
      c = it.0;
      t = it.1;
      accepted = it.2;
      read = it.3;
      written = it.4;
      tables = c.in_ok-tables.ensures.ok ∙ ap₂ heading_put headed memory ∙ sym (headings_put P.pool.long (new_table validation_name listed_columns) P.tables);
    }
