-- Rows and tables in memory, tested where they stand.
use Rattle.std.proofs.Common.{◌≡◌, ℕ, Bool, true, false, cond, List, [], ◌∷◌, map, refl, ap, Some}
use Rattle.std.specs.Prelude.{◌||◌, Vec, bytes_eq, find, option_map}
use Rattle.std.specs.List.{list_any}
use Rattle.std.specs.Rc.{rc_value}
use Rattle.std.specs.declared.alloc.Global.{Global}
use Rattle.std.specs.declared.rc.Rc.{Rc}
use Rattle.msi_parts.specs.Judged.{heading_named, list_system}
use Rattle.msi_pool.specs.Pool.{Pool}
use Rattle.msi_pool.specs.declared.stringref.ValueRef.{ValueRef}
use Rattle.msi_tables.specs.Held.{heading_of, rows_held}
use Rattle.msi_tables.specs.Schema.{begins_with, columns_name, tables_name}
use Rattle.msi_tables.specs.Table.{row_data}
use Rattle.msi_tables.specs.declared.table.Table.{Table as HeldTable}

pub listed_where : (pool : Pool) (rows : List (Vec ValueRef Global)) → list_any (λ row. begins_with tables_name (row_data pool row.items) || begins_with columns_name (row_data pool row.items)) rows
    ≡ list_system pool (rows_held rows)
listed_where pool [] = refl
listed_where pool (row ∷ rows) = ap (λ b. (begins_with tables_name (row_data pool row.items) || begins_with columns_name (row_data pool row.items)) || b) (listed_where pool rows)

-- the first table of a name, without its rows
pub found_where : (ts : List (Rc HeldTable Global)) (name : List ℕ) → option_map (λ t. heading_of (rc_value t)) (find (λ t. bytes_eq (heading_of (rc_value t)).name name) ts)
    ≡ heading_named (map (λ t. heading_of (rc_value t)) ts) name
found_where [] name = refl
found_where (t ∷ ts) name = by (bytes_eq (heading_of (rc_value t)).name name) (found_where ts name)
  where
    by : (b : Bool) → option_map (λ t. heading_of (rc_value t)) (find (λ t. bytes_eq (heading_of (rc_value t)).name name) ts) ≡ heading_named (map (λ t. heading_of (rc_value t)) ts) name
        → option_map (λ t. heading_of (rc_value t)) (cond b (Some t) (find (λ t. bytes_eq (heading_of (rc_value t)).name name) ts))
        ≡ cond b (Some (heading_of (rc_value t))) (heading_named (map (λ t. heading_of (rc_value t)) ts) name)
    by true later = refl
    by false later = later
