use Rattle.std.proofs.Common.{◌≡◌, ◌∙◌, ◌++◌, All, ap, map, subst, sym, true, IsTrue}
use Rattle.std.specs.List.{list_all}
use Rattle.msi_row_edits.specs.Asked.{IsWrittenAs}
use Rattle.msi_row_edits.specs.Valued.{rows_said}
use Rattle.msi_tables.specs.Held.{heading_of, rows_held}
use Rattle.msi_tables.specs.Rows.{has_place, AreRowsWritable, IsArranged}
use Rattle.msi_tables.specs.Table.{row_data, row_key_cmp}
use Rattle.msi_values.specs.Datum.{data_of}
use Rattle.msi_row_edits.proofs.Joined.{joined_held}
use Rattle.msi_row_edits.proofs.Prepared.{places_held, unwritten}
use Rattle.msi_row_edits.proofs.system_rows.bytes_with_new_rows.Goals as goal

pub bytes_of_table-requires : goal.bytes_of_table-requires
bytes_of_table-requires c =
    let h = heading_of c.args.table.now in
    let held = joined_held c.args.rows.items c.args.cells.items c.append.new.self.items c.in_ok-append.ensures.items in
    (c.in_ok-listed.ensures.writable h.long h.columns (subst (AreRowsWritable h.long h.columns) (sym held) c.requires)).cells

pub returns-in-Err-clause-errors : goal.returns-in-Err-clause-errors
returns-in-Err-clause-errors c =
    let h = heading_of c.args.table.now in
    let held = joined_held c.args.rows.items c.args.cells.items c.append.new.self.items c.in_ok-append.ensures.items in
    let listed : AreRowsWritable h.long h.columns (rows_held c.in_ok-listed.listed.items) = c.in_ok-listed.ensures.writable h.long h.columns (subst (AreRowsWritable h.long h.columns) (sym held) c.requires) in
    unwritten h.long h.columns (rows_held c.in_ok-listed.listed.items) c.in-Err.error listed c.in-Err.ensures

pub returns-clause-ok : goal.returns-clause-ok
returns-clause-ok c = λ next said.
    let h = heading_of c.args.table.now in
    let pool = c.args.pool.now.pool in
    let news = map (λ row. data_of row.items) c.args.new_rows.now in
    let held = joined_held c.args.rows.items c.args.cells.items c.append.new.self.items c.in_ok-append.ensures.items in
    let values : rows_said c.in_ok-values.values.items ≡ map (row_data next) (rows_held c.append.new.self.items) =
    c.in_ok-values.ensures.ok
    ∙ ap (λ n. n ++ news) (c.in_ok-old_values.ensures.ok ∙ ap (λ rows. map (row_data pool) (rows_held rows)) c.deref.ensures.value)
    ∙ sym said
    ∙ sym (ap (map (row_data next)) held) in
    let w : IsWrittenAs h.long h.columns (rows_held c.in_ok-listed.listed.items) c.in-Ok.bytes.items = c.in-Ok.ensures in
    record {
      stored = w.stored;
      by_keys = (
        rows_held c.in_ok-listed.listed.items,
        subst (λ rows. IsArranged (row_key_cmp next h.columns) rows (rows_held c.in_ok-listed.listed.items)) held
            (subst (λ columns. IsArranged (row_key_cmp next columns) (rows_held c.append.new.self.items) (rows_held c.in_ok-listed.listed.items)) c.columns.ensures (c.in_ok-listed.ensures.ok next values)),
        w.is_stored,
      );
      written = w.written;
    }

pub returns-clause-places : goal.returns-clause-places
returns-clause-places c =
    let held = joined_held c.args.rows.items c.args.cells.items c.append.new.self.items c.in_ok-append.ensures.items in
    subst (λ rows. All (λ row. IsTrue (list_all has_place row)) rows) held
    (places_held c.append.new.self.items (subst (λ rows. list_all (λ row. list_all has_place row.items) rows ≡ true) c.deref-2.ensures.value c.have_places.ensures))
