use Rattle.std.proofs.Common.{◌≡◌, subst, true}
use Rattle.std.specs.List.{list_all}
use Rattle.msi_row_edits.proofs.Prepared.{places_held, unwritten}
use Rattle.msi_tables.specs.Held.{heading_of, rows_held}
use Rattle.msi_tables.specs.Rows.{has_place}
use Rattle.msi_table_edits.proofs.remaining.laid_bytes.Goals as goal

pub bytes_of_rows-requires : goal.bytes_of_rows-requires
bytes_of_rows-requires c = c.requires.writable.cells

pub returns-in-Err : goal.returns-in-Err
returns-in-Err c = (let h = heading_of c.args.table.now in unwritten h.long h.columns (rows_held c.args.rows.items) c.in-Err.error c.requires.writable c.in-Err.ensures)

pub returns-in-Ok : goal.returns-in-Ok
returns-in-Ok c = record {
  can = c.requires;
  places = places_held c.args.rows.items (subst (λ rows. list_all (λ row. list_all has_place row.items) rows ≡ true) c.deref.ensures.value c.have_places.ensures);
  stored = c.in-Ok.ensures.stored;
  is_stored = c.in-Ok.ensures.is_stored;
  written = c.in-Ok.ensures.written;
}
