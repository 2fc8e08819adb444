-- New rows behind those of the three tables can be written.
use Rattle.std.proofs.Common.{◌≡◌, ◌++◌, Bool, List, sym, subst, Ok}
use Rattle.std.specs.Rc.{rc_value}
use Rattle.msi_spec.specs.Calls.{Rows3}
use Rattle.msi_pool.specs.Pool.{Pool}
use Rattle.msi_tables.specs.Held.{heading_of, rows_held}
use Rattle.msi_tables.specs.Rows.{AreRowsWritable, Row}
use Rattle.msi_tables.specs.Table.{Heading}
use Rattle.msi_table_edits.specs.Describing.{rows_of_values, AreDescribed, AreWide}
use Rattle.msi_table_edits.specs.Testing.{three_counted}
use Rattle.msi_table_edits.specs.declared.describing.NewRows.{NewRows}
use Rattle.msi_table_edits.specs.declared.describing.SystemTables.{SystemTables}
use Rattle.msi_table_edits.proofs.Shaped.{writable_joined}
use Rattle.msi_table_edits.proofs.ThreeCounted.{can_write_three}

pub with_new : (long : Bool) (h : Heading) (old cells : List Row) → AreRowsWritable h.long h.columns old → h.long ≡ long → AreRowsWritable long h.columns cells → AreRowsWritable h.long h.columns (old ++ cells)
with_new long h old cells wide same new = writable_joined h.long h.columns old cells wide (subst (λ (l : Bool). AreRowsWritable l h.columns cells) (sym same) new)

module _ (it : SystemTables) (new : NewRows) (p : Pool) (wide : AreWide it) (d : AreDescribed p.long it new) (x : Rows3 × Pool) where
  abbrev Counted : Type 0
  Counted = three_counted p (rows_of_values new.columns.items) (rows_of_values new.tables.items) (rows_of_values new.validation.items) ≡ Ok x

  abbrev hc : Heading
  hc = heading_of (rc_value it.columns)

  abbrev ht : Heading
  ht = heading_of (rc_value it.tables)

  abbrev hv : Heading
  hv = heading_of (rc_value it.validation)

  pub record AreJoined : Type 0 where
    pub columns : AreRowsWritable hc.long hc.columns (rows_held it.columns_rows.items ++ x.0.0)
    pub tables : AreRowsWritable ht.long ht.columns (rows_held it.tables_rows.items ++ x.0.1)
    pub validation : AreRowsWritable hv.long hv.columns (rows_held it.validation_rows.items ++ x.0.2)

  pub are_joined : Counted → AreJoined
  are_joined is =
      let can = can_write_three p (rows_of_values new.columns.items) (rows_of_values new.tables.items) (rows_of_values new.validation.items) hc.columns ht.columns hv.columns d.columns d.tables d.validation x is in
      record {
        columns = with_new p.long hc (rows_held it.columns_rows.items) x.0.0 wide.columns d.columns_wide can.c;
        tables = with_new p.long ht (rows_held it.tables_rows.items) x.0.1 wide.tables d.tables_wide can.t;
        validation = with_new p.long hv (rows_held it.validation_rows.items) x.0.2 wide.validation d.validation_wide can.v;
      }
