use Rattle.std.proofs.Common.{◌≡◌, ◌∙◌, ◌++◌, Bool, ap, subst, sym, inl, map, true}
use Rattle.std.specs.List.{list_all}
use Rattle.msi_spec.specs.Calls.{is_system}
use Rattle.std.specs.Prelude.{Ok}
use Rattle.msi_changes.specs.Applied.{with_rows}
use Rattle.msi_changes.specs.Changes.{inserted}
use Rattle.msi_changes.specs.Prepared.{pool_after}
use Rattle.msi_changes.specs.Said.{insert_rows}
use Rattle.msi_row_edits.specs.Asked.{IsUnwritten, IsWrittenAs}
use Rattle.msi_row_edits.specs.Valued.{rows_said}
use Rattle.msi_tables.specs.Held.{heading_of, rows_held}
use Rattle.msi_tables.specs.Rows.{has_place, AreRowsWritable, IsArranged}
use Rattle.msi_tables.specs.Table.{row_data, row_key_cmp}
use Rattle.msi_row_edits.proofs.Prepared.{insert_is, places_held, refused_so, unwritten}
use Rattle.msi_row_edits.proofs.writing.inserted_rows.Goals as goal

pub returns-in-Err-clause-answer : goal.returns-in-Err-clause-answer
returns-in-Err-clause-answer c =
    refused_so (heading_of c.args.table.now).name c.args.pool.now.pool (with_rows (heading_of c.args.table.now) (rows_held c.args.rows.items)) (insert_rows c.args.insert.now) c.in-Err.error
    (rw c.in_ok-stored.ensures.ok at c.in-Err.ensures.inserts)

pub bytes_of_table-requires : goal.bytes_of_table-requires
bytes_of_table-requires c =
    let h = heading_of c.args.table.now in
    let is : rows_held c.in_ok-all.all.items ≡ rows_held c.args.rows.items ++ rows_held c.in-Ok.prepared.0.items = rw c.in_ok-stored.ensures.ok at c.in_ok-all.ensures.ok in
    let are : AreRowsWritable c.args.pool.now.pool.long h.columns (rows_held c.in_ok-all.all.items) = subst (AreRowsWritable c.args.pool.now.pool.long h.columns) (sym is) ((rw c.in_ok-stored.ensures.ok at c.in-Ok.ensures.shape) c.requires.writable) in
    (c.in_ok-rows.ensures.writable c.args.pool.now.pool.long h.columns are).cells

pub returns-in-Err-bytes_of_table-clause-answer : goal.returns-in-Err-bytes_of_table-clause-answer
returns-in-Err-bytes_of_table-clause-answer c =
    let h = heading_of c.args.table.now in
    let long = c.args.pool.now.pool.long in
    let is : rows_held c.in_ok-all.all.items ≡ rows_held c.args.rows.items ++ rows_held c.in-Ok.prepared.0.items = rw c.in_ok-stored.ensures.ok at c.in_ok-all.ensures.ok in
    let are : AreRowsWritable long h.columns (rows_held c.in_ok-all.all.items) = subst (AreRowsWritable long h.columns) (sym is) ((rw c.in_ok-stored.ensures.ok at c.in-Ok.ensures.shape) c.requires.writable) in
    let listed : AreRowsWritable long h.columns (rows_held c.in_ok-rows.rows.items) = c.in_ok-rows.ensures.writable long h.columns are in
    inl (unwritten long h.columns (rows_held c.in_ok-rows.rows.items) c.in-Err-bytes_of_table.error listed
    (subst (λ (l : Bool). IsUnwritten l h.columns (rows_held c.in_ok-rows.rows.items) c.in-Err-bytes_of_table.error) (sym c.requires.wide) c.in-Err-bytes_of_table.ensures))

pub returns-in-Ok-bytes_of_table-clause-answer : goal.returns-in-Ok-bytes_of_table-clause-answer
returns-in-Ok-bytes_of_table-clause-answer c =
    let h = heading_of c.args.table.now in
    let long = c.args.pool.now.pool.long in
    let pool = c.args.pool.now.pool in
    let t = with_rows h (rows_held c.args.rows.items) in
    let news = insert_rows c.args.insert.now in
    let next = pool_after c.args.pool.now c.in-Ok.prepared.1 in
    let is : rows_held c.in_ok-all.all.items ≡ rows_held c.args.rows.items ++ rows_held c.in-Ok.prepared.0.items = rw c.in_ok-stored.ensures.ok at c.in_ok-all.ensures.ok in
    let are : AreRowsWritable long h.columns (rows_held c.in_ok-all.all.items) = subst (AreRowsWritable long h.columns) (sym is) ((rw c.in_ok-stored.ensures.ok at c.in-Ok.ensures.shape) c.requires.writable) in
    let accepted : inserted true pool t news ≡ Ok (rows_held c.in_ok-all.all.items, next) = subst (λ l. inserted true pool t news ≡ Ok (l, next)) (sym is) (rw c.in_ok-stored.ensures.ok at c.in-Ok.ensures.inserts) in
    let w : IsWrittenAs long h.columns (rows_held c.in_ok-rows.rows.items) c.in-Ok-bytes_of_table.bytes.items =
    subst (λ (l : Bool). IsWrittenAs l h.columns (rows_held c.in_ok-rows.rows.items) c.in-Ok-bytes_of_table.bytes.items) (sym c.requires.wide) c.in-Ok-bytes_of_table.ensures in
    insert_is h.name pool t news (rows_held c.in_ok-all.all.items) next accepted (ap is_system (sym c.name.ensures) ∙ sym c.is_system.ensures ∙ c.if-is_system.false)
    (rows_held c.in_ok-rows.rows.items) c.in-Ok-bytes_of_table.bytes.items (rows_said c.in_ok-values.values.items) (rows_said c.in_ok-values-2.values.items)
    (places_held c.in_ok-all.all.items (subst (λ rows. list_all (λ row. list_all has_place row.items) rows ≡ true) c.deref-2.ensures.value c.have_places.ensures)) are
    (c.in_ok-values.ensures.ok ∙ ap (λ rows. map (row_data pool) (rows_held rows)) c.deref.ensures.value)
    (c.in_ok-values-2.ensures.ok ∙ ap (λ n. rows_said c.in_ok-values.values.items ++ n) c.new_rows.ensures)
    (λ p said. subst (λ columns. IsArranged (row_key_cmp p columns) (rows_held c.in_ok-all.all.items) (rows_held c.in_ok-rows.rows.items)) c.columns.ensures (c.in_ok-rows.ensures.ok p said)) w
