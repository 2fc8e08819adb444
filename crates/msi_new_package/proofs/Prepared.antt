-- The parts of a new package, out of what is counted and written.
use Rattle.std.proofs.Common.{◌≡◌, ◌∙◌, ℕ, Bool, false, List, ap, subst, sym}
use Rattle.msi_columns.specs.Column.{Column}
use Rattle.msi_pool.specs.Pool.{Pool}
use Rattle.msi_tables.specs.Rows.{AreRowsWritable, Row}
use Rattle.msi_tables.specs.Schema.{columns_columns, tables_columns, validation_columns}
use Rattle.msi_row_edits.specs.Asked.{IsWrittenByKeys}
use Rattle.msi_spec.specs.Calls.{Rows3}
use Rattle.msi_spec.specs.declared.kind.PackageType.TheVariants.{Installer}
use Rattle.msi_new_package.specs.New.{AreNewBytes, AreTextsCounted}
use Rattle.msi_new_package.proofs.Made.{columns_storable, made, made_is, tables_storable, validation_storable}

module _ (pool : Pool) (c t v : List Row) (counted : AreTextsCounted pool c t v) where
  made_these : made ≡ ((c, t, v), pool)
  made_these = made_is Installer ((c, t, v), pool) (counted Installer)

  -- rows that can be written in a table with such columns
  writable_as : (long : Bool) (columns own : List Column) (rows stored : List Row) → long ≡ false → columns ≡ own → rows ≡ stored → AreRowsWritable false own rows → AreRowsWritable long columns stored
  writable_as long columns own rows stored e f h are = subst (λ l. AreRowsWritable l columns stored) (sym e) (subst (λ cs. AreRowsWritable false cs stored) (sym f) (subst (AreRowsWritable false own) h are))

  pub columns_writable : (long : Bool) (columns : List Column) → long ≡ false → columns ≡ columns_columns → AreRowsWritable long columns c
  columns_writable long columns e f = writable_as long columns columns_columns made.0.0 c e f (ap (λ (x : Rows3 × Pool). x.0.0) made_these) columns_storable.writable

  pub tables_writable : (long : Bool) (columns : List Column) → long ≡ false → columns ≡ tables_columns → AreRowsWritable long columns t
  tables_writable long columns e f = writable_as long columns tables_columns made.0.1 t e f (ap (λ (x : Rows3 × Pool). x.0.1) made_these) tables_storable.writable

  pub validation_writable : (long : Bool) (columns : List Column) → long ≡ false → columns ≡ validation_columns → AreRowsWritable long columns v
  validation_writable long columns e f = writable_as long columns validation_columns made.0.2 v e f (ap (λ (x : Rows3 × Pool). x.0.2) made_these) validation_storable.writable

  -- what is written of a table with such columns
  told : (long : Bool) (columns own : List Column) (rows : List Row) (bytes : List ℕ) → long ≡ false → columns ≡ own → IsWrittenByKeys pool long columns rows bytes → IsWrittenByKeys pool false own rows bytes
  told long columns own rows bytes e f w = subst (λ l. IsWrittenByKeys pool l own rows bytes) e (subst (λ cs. IsWrittenByKeys pool long cs rows bytes) f w)

  pub new_bytes : (lc lt lv : Bool) (kc kt kv : List Column) (bc bt bv : List ℕ) → lc ≡ false → lt ≡ false → lv ≡ false → kc ≡ columns_columns → kt ≡ tables_columns → kv ≡ validation_columns
      → IsWrittenByKeys pool lc kc c bc → IsWrittenByKeys pool lt kt t bt → IsWrittenByKeys pool lv kv v bv → AreNewBytes pool bc bt bv
  new_bytes lc lt lv kc kt kv bc bt bv ec et ev fc ft fv wc wt wv =
      let a = told lc kc columns_columns c bc ec fc wc in
      let b = told lt kt tables_columns t bt et ft wt in
      let d = told lv kv validation_columns v bv ev fv wv in record {
        rows = (c, t, v);
        told = counted;
        columns = a.stored;
        tables = b.stored;
        validation = d.stored;
        columns_stored = a.by_keys;
        tables_stored = b.by_keys;
        validation_stored = d.by_keys;
        columns_written = a.written;
        tables_written = b.written;
        validation_written = d.written;
      }
