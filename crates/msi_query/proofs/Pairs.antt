-- A row and its pairs.
use Rattle.std.proofs.Common.{◌≡◌, ◌∙◌, sym, ap, ℕ, ◌<◌, List, [], ◌∷◌, ◌++◌, length, map, refl, true, arith}
use Rattle.std.specs.Prelude.{replicate, Ok}
use Rattle.std.specs.List.{flat_map}
use Rattle.msi_pool.specs.declared.stringref.ValueRef.TheVariants as cell
use Rattle.msi_query.specs.Query.{inner_joined, left_joined, nulls, or_once, pairs_with, side_columns}
use Rattle.msi_expr.specs.Conditions.{has_named_columns}
use Rattle.msi_expr.specs.Formula.{Formula}
use Rattle.msi_pool.specs.Pool.{Pool}
use Rattle.msi_columns.specs.Column.{Column, but_null}
use Rattle.msi_tables.specs.Rows.{Row}
use Rattle.msi_tables.specs.Table.{Table}

-- a row without pairs
pub once_alone : (row : Row) (pairs : List Row) → length pairs ≡ 0 → or_once row pairs ≡ row ∷ []
once_alone row [] none = refl
once_alone row (p ∷ ps) none = absurd (cc none)

-- a row with pairs
pub once_paired : (row : Row) (pairs : List Row) → 0 < length pairs → or_once row pairs ≡ pairs
once_paired row [] some = absurd (omega (arith, some))
once_paired row (p ∷ ps) some = refl

-- as many nulls
pub nulls_many : {X : Type 0} (xs : List X) → replicate (length xs) cell.Null ≡ nulls xs
nulls_many [] = refl
nulls_many (x ∷ xs) = ap (λ r. cell.Null ∷ r) (nulls_many xs)

-- a left join of these columns and rows
pub left_done : (pool : Pool) (on : Formula) (l r : Table) (name : List ℕ) (columns : List Column) (width : ℕ) (rows : List Row) → name ≡ [] →
    columns ≡ side_columns l ++ map but_null (side_columns r) → has_named_columns columns on ≡ true → width ≡ length r.columns →
    rows ≡ flat_map (λ row. or_once (row ++ replicate width cell.Null) (pairs_with pool columns on r.rows row)) l.rows →
    left_joined pool on l r ≡ Ok (record { name = name; columns = columns; rows = rows })
left_done pool on l r name columns width rows nameless are known many made =
    let same : has_named_columns (side_columns l ++ map but_null (side_columns r)) on ≡ true = ap (λ cs. has_named_columns cs on) (sym are) ∙ known in
    let pairs : rows ≡ flat_map (λ row. or_once (row ++ nulls r.columns) (pairs_with pool (side_columns l ++ map but_null (side_columns r)) on r.rows row)) l.rows =
    made ∙ ap (λ ns. flat_map (λ row. or_once (row ++ ns) (pairs_with pool columns on r.rows row)) l.rows) (ap (λ n. replicate n cell.Null) many ∙ nulls_many r.columns)
    ∙ ap (λ cs. flat_map (λ row. or_once (row ++ nulls r.columns) (pairs_with pool cs on r.rows row)) l.rows) are in
    rw same (rw nameless (rw are (rw pairs refl)))

-- an inner join of these columns and rows
pub inner_done : (pool : Pool) (on : Formula) (l r : Table) (name : List ℕ) (columns : List Column) (rows : List Row) → name ≡ [] →
    columns ≡ side_columns l ++ side_columns r → has_named_columns columns on ≡ true → rows ≡ flat_map (pairs_with pool columns on r.rows) l.rows →
    inner_joined pool on l r ≡ Ok (record { name = name; columns = columns; rows = rows })
inner_done pool on l r name columns rows nameless are known made =
    let same : has_named_columns (side_columns l ++ side_columns r) on ≡ true = ap (λ cs. has_named_columns cs on) (sym are) ∙ known in
    let pairs : rows ≡ flat_map (pairs_with pool (side_columns l ++ side_columns r) on r.rows) l.rows = made ∙ ap (λ cs. flat_map (pairs_with pool cs on r.rows) l.rows) are in
    rw same (rw nameless (rw are (rw pairs refl)))
