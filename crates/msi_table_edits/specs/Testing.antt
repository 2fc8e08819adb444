-- What is tested of a new table, and how its rows are counted.
use Rattle.std.specs.Prelude.{ℕ, Bool, not, ◌&&◌, ◌==◌, List, length, nat_le, bytes_eq, Ok, Result, Vec}
use Rattle.std.specs.declared.alloc.Global.{Global}
use Rattle.std.specs.List.{list_all, list_any}
use Rattle.cfb_medium.specs.declared.error.Error.{Error}
use Rattle.msi_changes.specs.Changes.{rows_counted}
use Rattle.msi_columns.specs.Column.{Column}
use Rattle.msi_spec.specs.Calls.{is_kept, names_distinct, Rows3}
use Rattle.msi_spec.specs.Package.{data_name, pool_name}
use Rattle.msi_pool.specs.Pool.{Pool}
use Rattle.msi_pool.specs.declared.stringref.ValueRef.{ValueRef}
use Rattle.msi_tables.specs.Schema.{is_for}
use Rattle.msi_tables.specs.Table.{is_valid_table_name, row_data}
use Rattle.msi_texts.specs.Category.{is_identifier}
use Rattle.msi_texts.specs.Results.{◌>>=◌}
use Rattle.msi_values.specs.Datum.{Datum}

-- a table can have the name and the columns
abbrev pub may_have_columns : List ℕ → List Column → Bool
may_have_columns name columns =
    is_valid_table_name name && not (length columns == 0) && nat_le (length columns) 32
    && list_any (λ c. c.key) columns && list_all (λ c. is_identifier c.name) columns && names_distinct columns

-- it isn't one of the pool's streams, and its columns come back as they were
abbrev pub can_be_kept : List ℕ → List Column → Bool
can_be_kept name columns = not (bytes_eq name pool_name) && not (bytes_eq name data_name) && list_all is_kept columns

-- the rows of three tables as cells, with their texts counted one table after the other
abbrev pub three_counted : Pool → List (List Datum) → List (List Datum) → List (List Datum) → Result (Rows3 × Pool) Error
three_counted pool columns tables validation =
    rows_counted pool columns >>= λ c.
    rows_counted c.1 tables >>= λ t.
    rows_counted t.1 validation >>= λ v. Ok ((c.0, t.0, v.0), v.1)

-- one of these rows of _Validation speaks of a column of a table
unfoldable pub has_limits : Pool → List (Vec ValueRef Global) → List ℕ → List ℕ → Bool
has_limits pool rows name column = list_any (λ row. is_for name column (row_data pool row.items)) rows
