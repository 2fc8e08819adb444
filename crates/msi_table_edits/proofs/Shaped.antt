-- New rows that are valid can be written, and the pool keeps its places.
use Rattle.std.proofs.Common.{◌≡◌, Bool, true, false, List, [], ◌∷◌, ◌++◌, length, refl, subst, Result, Ok, Err}
use Rattle.std.specs.Prelude.{◌&&◌, IfOk, IsTrue}
use Rattle.std.specs.List.{list_all}
use Rattle.std.proofs.lemmas.Bool.{and_parts}
use Rattle.std.proofs.lemmas.List.Elements.{All-append, All-nil}
use Rattle.cfb_medium.specs.declared.error.Error.{Error}
use Rattle.cfb_medium.specs.declared.error.Error.TheVariants.{InvalidInput}
use Rattle.msi_changes.specs.Changes.{in_turn, row_counted, rows_counted}
use Rattle.msi_changes.specs.Laws.{KeepsPlaces, KeepsShape}
use Rattle.msi_changes.proofs.CellUses.{after_ok}
use Rattle.msi_changes.proofs.Shapes.{insert_shape, kept_then}
use Rattle.msi_columns.specs.Column.{are_valid, Column}
use Rattle.msi_pool.specs.Pool.{Pool}
use Rattle.msi_tables.specs.Rows.{can_write, kinds_of, AreRowsWritable, Row}
use Rattle.msi_tables.specs.Table.{Table}
use Rattle.msi_texts.specs.Results.{◌>>=◌, unless_not}
use Rattle.msi_values.specs.Datum.{Datum}
use Rattle.msi_table_edits.proofs.Holding.{holding}

pub writable_joined : (long : Bool) (columns : List Column) (xs ys : List Row) → AreRowsWritable long columns xs → AreRowsWritable long columns ys → AreRowsWritable long columns (xs ++ ys)
writable_joined long columns xs ys a b = record {
  cells = All-append (λ row. length row ≡ length columns) xs ys a.cells b.cells;
  numbers = All-append (λ row. IsTrue (can_write long (kinds_of columns) row)) xs ys a.numbers b.numbers;
}

module _ (columns : List Column) where
  none_to_write : (long : Bool) → AreRowsWritable long columns []
  none_to_write long = record { cells = All-nil (λ row. length row ≡ length columns); numbers = All-nil (λ row. IsTrue (can_write long (kinds_of columns) row)) }

  -- a table that has no row yet
  abbrev bare : Table
  bare = holding [] columns []

  abbrev OneFits : Pool → Row × Pool → Type 0
  OneFits p r = AreRowsWritable p.long columns (r.0 ∷ []) × KeepsPlaces p r.1

  one_fits : (p : Pool) (ds : List Datum) → are_valid columns ds ≡ true → IfOk (row_counted p ds) (OneFits p)
  one_fits p ds valid = on (are_valid columns ds) valid (row_counted p ds) (insert_shape true p bare (ds ∷ []))
    where
      alone : Row × Pool → Result (List Row × Pool) Error
      alone y = Ok (y.0 ∷ [], y.1)

      behind : List Row × Pool → Result (List Row × Pool) Error
      behind z = Ok (z.0, z.1)

      on : (b : Bool) → b ≡ true → (r : Result (Row × Pool) Error) → IfOk (unless_not (b && true) InvalidInput >>= λ _. (r >>= alone) >>= behind) (KeepsShape p bare) → IfOk r (OneFits p)
      on true is (Ok r) shape = (shape.writable (none_to_write p.long), shape.kept)
      on true is (Err e) shape = tt
      on false is r shape = absurd (cc)

  pub rows_fit : (p : Pool) (rs : List (List Datum)) → list_all (are_valid columns) rs ≡ true → IfOk (rows_counted p rs) (λ r. AreRowsWritable p.long columns r.0 × KeepsPlaces p r.1)
  rows_fit p [] valid = (none_to_write p.long, record { page = refl; long = refl; empty = λ h. h })
  rows_fit p (ds ∷ rs) valid =
      let are = and_parts (are_valid columns ds) (list_all (are_valid columns) rs) valid in
      after_ok _ _ (row_counted p ds) (λ y. in_turn row_counted y.1 rs >>= λ ys. Ok (y.0 ∷ ys.0, ys.1)) (one_fits p ds are.0)
      (λ y first. after_ok _ _ (in_turn row_counted y.1 rs) (λ ys. Ok (y.0 ∷ ys.0, ys.1)) (rows_fit y.1 rs are.1)
      (λ ys rest. (
        writable_joined p.long columns (y.0 ∷ []) ys.0 first.0 (subst (λ (long : Bool). AreRowsWritable long columns ys.0) first.1.long rest.0),
        kept_then p y.1 ys.1 first.1 rest.1,
      )))
