-- The texts of the rows of two tables, counted as those of three of which the last has none.
use Rattle.std.proofs.Common.{◌≡◌, ◌∙◌, ◌++◌, List, [], refl, ap, Result, Ok, Err}
use Rattle.std.specs.Rc.{rc_value}
use Rattle.cfb_medium.specs.declared.error.Error.{Error}
use Rattle.cfb_medium.specs.declared.error.Error.TheVariants.{InvalidInput}
use Rattle.msi_changes.specs.Changes.{rows_counted}
use Rattle.msi_spec.specs.Calls.{Rows3}
use Rattle.msi_pool.specs.Pool.{Pool}
use Rattle.msi_tables.specs.Held.{heading_of, rows_held}
use Rattle.msi_tables.specs.Rows.{AreRowsWritable, Row}
use Rattle.msi_tables.specs.Table.{Heading}
use Rattle.msi_texts.specs.Results.{◌>>=◌}
use Rattle.msi_values.specs.Datum.{Datum}
use Rattle.msi_table_edits.specs.Describing.{rows_of_values}
use Rattle.msi_table_edits.specs.Listing.{two_counted, AreWideTwo, TakeRows}
use Rattle.msi_table_edits.specs.Testing.{three_counted}
use Rattle.msi_table_edits.specs.declared.listing.ListingRows.{ListingRows}
use Rattle.msi_table_edits.specs.declared.listing.ListingTables.{ListingTables}
use Rattle.msi_table_edits.proofs.JoinedRows.{with_new}
use Rattle.msi_table_edits.proofs.ThreeCounted.{can_write_three, three_full}

abbrev Two : Type 0
Two = Result ((List Row × List Row) × Pool) Error

abbrev Three : Type 0
Three = Result (Rows3 × Pool) Error

abbrev pub with_none : Two → Three
with_none r = r >>= λ x. Ok ((x.0.0, x.0.1, []), x.1)

module _ (p : Pool) (cs ts : List (List Datum)) where
  as_three : three_counted p cs ts [] ≡ with_none (two_counted p cs ts)
  as_three = on (rows_counted p cs)
    where
      then_on : (c : List Row × Pool) (r : Result (List Row × Pool) Error)
          → ◌≡◌ {A = Three} (r >>= λ t. rows_counted t.1 [] >>= λ v. Ok ((c.0, t.0, v.0), v.1)) (with_none (r >>= λ t. Ok ((c.0, t.0), t.1)))
      then_on c (Ok t) = refl
      then_on c (Err e) = refl

      on : (r : Result (List Row × Pool) Error)
          → ◌≡◌ {A = Three} (r >>= λ c. rows_counted c.1 ts >>= λ t. rows_counted t.1 [] >>= λ v. Ok ((c.0, t.0, v.0), v.1)) (with_none (r >>= λ c. rows_counted c.1 ts >>= λ t. Ok ((c.0, t.0), t.1)))
      on (Ok c) = then_on c (rows_counted c.1 ts)
      on (Err e) = refl

  pub three_of : (r : Two) → two_counted p cs ts ≡ r → three_counted p cs ts [] ≡ with_none r
  three_of r is = as_three ∙ ap (λ (r : Two). with_none r) is

  pub two_full : (e : Error) → two_counted p cs ts ≡ Err e → e ≡ InvalidInput
  two_full e is = three_full p cs ts [] e (three_of (Err e) is)

-- ---- new rows behind those of the two can be written

module _ (it : ListingTables) (new : ListingRows) (p : Pool) (wide : AreWideTwo it) (d : TakeRows p.long it new) (x : (List Row × List Row) × Pool) where
  abbrev hc : Heading
  hc = heading_of (rc_value it.columns)

  abbrev ht : Heading
  ht = heading_of (rc_value it.tables)

  pub record AreJoinedTwo : Type 0 where
    pub columns : AreRowsWritable hc.long hc.columns (rows_held it.columns_rows.items ++ x.0.0)
    pub tables : AreRowsWritable ht.long ht.columns (rows_held it.tables_rows.items ++ x.0.1)

  pub are_joined_two : two_counted p (rows_of_values new.columns.items) (rows_of_values new.tables.items) ≡ Ok x → AreJoinedTwo
  are_joined_two is =
      let cs = rows_of_values new.columns.items in
      let ts = rows_of_values new.tables.items in
      let can = can_write_three p cs ts [] hc.columns ht.columns [] d.columns d.tables refl ((x.0.0, x.0.1, []), x.1) (three_of p cs ts (Ok x) is) in
      record {
        columns = with_new p.long hc (rows_held it.columns_rows.items) x.0.0 wide.columns d.columns_wide can.c;
        tables = with_new p.long ht (rows_held it.tables_rows.items) x.0.1 wide.tables d.tables_wide can.t;
      }
