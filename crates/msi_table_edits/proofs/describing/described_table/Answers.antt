use Rattle.std.proofs.Common.{◌≡◌, ◌∙◌, ◌++◌, ap, ap₂, inl, inr, subst, sym, Bool, Ok, ⊎_elim, Result}
use Rattle.std.specs.Rc.{rc_value}
use Rattle.cfb_medium.specs.Calls.{IsFaultOrInvalidInputIf}
use Rattle.cfb_medium.specs.declared.error.Error.{Error}
use Rattle.msi_changes.specs.Prepared.{pool_after}
use Rattle.msi_columns.specs.Held.{columns_of}
use Rattle.msi_spec.specs.Calls.{new_table, stored_rows, Rows3}
use Rattle.msi_pool.specs.Pool.{Pool}
use Rattle.msi_tables.specs.Held.{heading_of, rows_held}
use Rattle.msi_tables.specs.Rows.{AreRowsWritable}
use Rattle.msi_tables.specs.Schema.{columns_name, tables_name, validation_name}
use Rattle.msi_tables.specs.Table.{Heading}
use Rattle.msi_texts.specs.Results.{◌>>=◌}
use Rattle.msi_table_edits.specs.Describing.{rows_of_values}
use Rattle.msi_table_edits.specs.Making.{heading_put}
use Rattle.msi_table_edits.specs.Testing.{three_counted}
use Rattle.msi_table_edits.proofs.Headings.{headings_put}
use Rattle.msi_table_edits.proofs.JoinedRows.{are_joined}
use Rattle.msi_table_edits.proofs.ReadyFrom.{laid_as, there_of, written_from}
use Rattle.msi_table_edits.proofs.ThreeCounted.{three_full}
use Rattle.msi_table_edits.proofs.describing.described_table.Goals as goal

pub bytes_with_new_rows-requires : goal.bytes_with_new_rows-requires
bytes_with_new_rows-requires c =
    let j = are_joined c.args.system c.args.new_rows c.args.pool.now.pool c.requires.wide c.requires.described ((rows_held c.in-Ok.counted.0.items, rows_held c.in-Ok.counted.1.items, rows_held c.in-Ok.counted.2.items), pool_after c.args.pool.now c.in-Ok.counted.3) c.in-Ok.ensures.counts in
    subst (λ t. AreRowsWritable (heading_of t).long (heading_of t).columns (rows_held c.args.system.columns_rows.items ++ rows_held c.in-Ok.counted.0.items)) (sym c.deref.ensures) j.columns

pub bytes_with_new_rows-requires-2 : goal.bytes_with_new_rows-requires-2
bytes_with_new_rows-requires-2 c =
    let j = are_joined c.args.system c.args.new_rows c.args.pool.now.pool c.requires.wide c.requires.described ((rows_held c.in-Ok.counted.0.items, rows_held c.in-Ok.counted.1.items, rows_held c.in-Ok.counted.2.items), pool_after c.args.pool.now c.in-Ok.counted.3) c.in-Ok.ensures.counts in
    subst (λ t. AreRowsWritable (heading_of t).long (heading_of t).columns (rows_held c.args.system.tables_rows.items ++ rows_held c.in-Ok.counted.1.items)) (sym c.deref-3.ensures) j.tables

pub bytes_with_new_rows-requires-3 : goal.bytes_with_new_rows-requires-3
bytes_with_new_rows-requires-3 c =
    let j = are_joined c.args.system c.args.new_rows c.args.pool.now.pool c.requires.wide c.requires.described ((rows_held c.in-Ok.counted.0.items, rows_held c.in-Ok.counted.1.items, rows_held c.in-Ok.counted.2.items), pool_after c.args.pool.now c.in-Ok.counted.3) c.in-Ok.ensures.counts in
    subst (λ t. AreRowsWritable (heading_of t).long (heading_of t).columns (rows_held c.args.system.validation_rows.items ++ rows_held c.in-Ok.counted.2.items)) (sym c.deref-5.ensures) j.validation

pub returns-in-Err-clause-own : goal.returns-in-Err-clause-own
returns-in-Err-clause-own c =
    let new = c.args.new_rows in
    ⊎_elim (λ m. inl m) (λ is. inr (three_full c.args.pool.now.pool (rows_of_values new.columns.items) (rows_of_values new.tables.items) (rows_of_values new.validation.items) c.in-Err.error is)) c.in-Err.ensures.counts

pub returns-in-Err-clause-answer : goal.returns-in-Err-clause-answer
returns-in-Err-clause-answer c = λ letters tree P s same a memory r.
    ⊎_elim (λ m. inl (inl (subst (IsFaultOrInvalidInputIf ⊥) (sym m) tt)))
    (λ is. inr (ap (λ (r : Result (Rows3 × Pool) Error). r >>= λ x. Ok ((stored_rows P columns_name ++ x.0.0, stored_rows P tables_name ++ x.0.1, stored_rows P validation_name ++ x.0.2), x.1))
    (sym (λ i. three_counted (same i) (r.columns_said i) (r.tables_said i) (r.validation_said i)) ∙ is))) c.in-Err.ensures.counts

pub returns-clause-answer : goal.returns-clause-answer
returns-clause-answer c = λ letters tree P s same a memory r all.
    let name = c.args.name.now in
    let cs = columns_of c.args.columns.items in
    let y : Rows3 × Pool = ((rows_held c.in-Ok.counted.0.items, rows_held c.in-Ok.counted.1.items, rows_held c.in-Ok.counted.2.items), pool_after c.args.pool.now c.in-Ok.counted.3) in
    let j = are_joined c.args.system c.args.new_rows c.args.pool.now.pool c.requires.wide c.requires.described ((rows_held c.in-Ok.counted.0.items, rows_held c.in-Ok.counted.1.items, rows_held c.in-Ok.counted.2.items), pool_after c.args.pool.now c.in-Ok.counted.3) c.in-Ok.ensures.counts in
    let three = sym (λ i. three_counted (same i) (r.columns_said i) (r.tables_said i) (r.validation_said i)) ∙ c.in-Ok.ensures.counts in
    let w = there_of _ a.there in
    let laid_c = laid_as same (ap heading_of c.deref.ensures ∙ a.columns) a.columns_rows (ap rows_of_values c.deref-2.ensures.value ∙ r.columns_said)
    (record { written = c.in_ok-columns_bytes.ensures.ok y.1; writable = subst (λ t. AreRowsWritable (heading_of t).long (heading_of t).columns (rows_held c.args.system.columns_rows.items ++ rows_held c.in-Ok.counted.0.items)) (sym c.deref.ensures) j.columns; places = c.in_ok-columns_bytes.ensures.places }) in
    let laid_t = laid_as same (ap heading_of c.deref-3.ensures ∙ a.tables) a.tables_rows (ap rows_of_values c.deref-4.ensures.value ∙ r.tables_said)
    (record { written = c.in_ok-tables_bytes.ensures.ok y.1; writable = subst (λ t. AreRowsWritable (heading_of t).long (heading_of t).columns (rows_held c.args.system.tables_rows.items ++ rows_held c.in-Ok.counted.1.items)) (sym c.deref-3.ensures) j.tables; places = c.in_ok-tables_bytes.ensures.places }) in
    let laid_v = laid_as same (ap heading_of c.deref-5.ensures ∙ a.validation) a.validation_rows (ap rows_of_values c.deref-6.ensures.value ∙ r.validation_said)
    (record { written = c.in_ok-validation_bytes.ensures.ok y.1; writable = subst (λ t. AreRowsWritable (heading_of t).long (heading_of t).columns (rows_held c.args.system.validation_rows.items ++ rows_held c.in-Ok.counted.2.items)) (sym c.deref-5.ensures) j.validation; places = c.in_ok-validation_bytes.ensures.places }) in
    let it = written_from letters tree P s name cs w.0 w.1 y three all c.in_ok-columns_bytes.columns_bytes.items c.in_ok-tables_bytes.tables_bytes.items c.in_ok-validation_bytes.validation_bytes.items (laid_c, laid_t, laid_v) in
    let as_headed : Bool → Heading = λ l. record { name = name; columns = cs; long = l } in
    let headed : heading_of (rc_value c.in_ok-table.table) ≡ record { name = name; columns = cs; long = P.pool.long } =
    c.in_ok-table.ensures.ok ∙ ap as_headed (c.long_string_refs.ensures ∙ ap (λ p. p.long) same) in
    record {
      c = it.0;
      t = it.1;
      v = it.2;
      accepted = it.3;
      read = it.4;
      written = it.5;
      tables = c.in_ok-tables.ensures.ok ∙ ap₂ heading_put headed memory ∙ sym (headings_put P.pool.long (new_table name cs) P.tables);
    }
