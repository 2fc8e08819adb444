-- Rows of cells as rows of values.
use Rattle.std.proofs.Common.{◌≡◌, ◌∙◌, ◌<◌, ℕ, zero, suc, List, [], ◌∷◌, length, map, refl, ap, arith, get_or}
use Rattle.std.specs.Prelude.{All, Vec}
use Rattle.std.proofs.lemmas.List.{length-map}
use Rattle.std.proofs.lemmas.List.Elements.{All-cons}
use Rattle.std.specs.declared.alloc.Global.{Global}
use Rattle.msi_columns.specs.Column.{Column}
use Rattle.msi_pool.specs.Pool.{Pool}
use Rattle.msi_pool.specs.Refs.{value_at}
use Rattle.msi_pool.specs.declared.stringref.ValueRef.{ValueRef}
use Rattle.msi_pool.specs.declared.stringref.ValueRef.TheVariants as cell
use Rattle.msi_tables.specs.Held.{rows_held}
use Rattle.msi_tables.specs.Rows.{Row}
use Rattle.msi_tables.specs.Table.{row_data}
use Rattle.msi.specs.Rows.{value_row}
use Rattle.msi_parts.specs.Whole.{Wide}

-- a row is as wide as all are
pub wide_at : (n : ℕ) (rows : List (Vec ValueRef Global)) → Wide n (rows_held rows) → (i : ℕ) (d : Vec ValueRef Global) → i < length rows → length (get_or rows i d).items ≡ n
wide_at n [] all i d below = absurd (omega (arith, below))
wide_at n (row ∷ rows) all zero d below = all.0
wide_at n (row ∷ rows) all (suc i) d below = wide_at n rows all.1 i d (omega (arith, below))

-- the values of rows
pub values_told : (columns : List Column) (pool : Pool) (rows : List Row) → map (λ row. row.values) (map (value_row columns pool) rows) ≡ map (row_data pool) rows
values_told columns pool [] = refl
values_told columns pool (row ∷ rows) = ap (λ rs. row_data pool row ∷ rs) (values_told columns pool rows)

-- each row has a value for each column
pub wide_values : (columns : List Column) (pool : Pool) (rows : List Row) → Wide (length columns) rows → All (λ row. length row.values ≡ length columns) (map (value_row columns pool) rows)
wide_values columns pool [] wide = λ k d l. absurd (omega (arith, l))
wide_values columns pool (row ∷ rows) wide =
    All-cons (λ row. length row.values ≡ length columns) (value_row columns pool row) (map (value_row columns pool) rows) (length-map row (value_at pool) ∙ wide.0) (wide_values columns pool rows wide.1)
