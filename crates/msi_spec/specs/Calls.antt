-- What each call on tables answers, and what it makes of a sound package.
use Rattle.std.specs.Prelude.{◌≡◌, ℕ, ◌+◌, Bool, true, false, not, ◌&&◌, ◌||◌, List, [], ◌∷◌, ◌++◌, map, length, filter, nat_lt, nat_le, ◌==◌, if◌then◌else◌, Option, Some, None, option_map, unwrap_or, Result, Ok, Err, bytes_eq, codes, is_some, is_none}
use Rattle.std.specs.List.{list_all, list_any, flat_map}
use Rattle.std.specs.Ordering.{is_lt}
use Rattle.msi_texts.specs.Results.{◌>>=◌, unless_not, or_refused}
use Rattle.msi_values.specs.Datum.{Datum, text}
use Rattle.msi_texts.specs.Category.{is_identifier}
use Rattle.msi_pool.specs.Pool.{Pool}
use Rattle.msi_texts.specs.declared.codepage.CodePage.TheVariants as page
use Rattle.msi_columns.specs.Column.{Column, column_place, is_binary, are_valid, length_kept}
use Rattle.msi_tables.specs.Rows.{Row, IsStored, max_rows}
use Rattle.msi_tables.specs.Table.{Table, is_valid_table_name, table_named, row_data, has_key, keys_of, IsStoredByKeys}
use Rattle.msi_tables.specs.Schema.{tables_name, columns_name, validation_name, tables_columns, columns_columns, validation_columns, columns_rows, validation_row, begins_with}
use Rattle.msi_expr.specs.Formula.{Formula}
use Rattle.msi_query.specs.Query.{Query, selected}
use Rattle.msi_changes.specs.Changes.{inserted, updated, deleted, rows_counted, all_taken_back}
use Rattle.msi_summary.specs.Summary.{new_summary, edited, set_text}
use Rattle.cfb_tree.specs.Names.{CaseTable}
use Rattle.msi_spec.specs.Package.{PackageContent, at_name, table_name_cmp, stream_name, pool_name, data_name}
use Rattle.msi_spec.specs.declared.kind.PackageType.{PackageType}
use Rattle.msi_spec.specs.declared.kind.PackageType.TheVariants.{Installer, Patch, Transform}
use Rattle.cfb_medium.specs.declared.error.Error.{Error}
use Rattle.cfb_medium.specs.declared.error.Error.TheVariants.{InvalidInput, NotFound, AlreadyExists}

-- a refusal leaves the package; else what is accepted tells the rest
abbrev pub EndsRefusedOrBy : {A : Type 0} → Result A Error → PackageContent → PackageContent → Result (Unit {0}) Error → (A → Type 0) → Type 0
EndsRefusedOrBy (Err e) P Q answer Accepted = (Q ≡ P) × (answer ≡ Err e)
EndsRefusedOrBy (Ok x) P Q answer Accepted = (answer ≡ Ok tt) × Accepted x

-- ---- tables

-- the three tables that describe the others
abbrev pub is_system : List ℕ → Bool
is_system name = bytes_eq name tables_name || bytes_eq name columns_name || bytes_eq name validation_name

-- there is a table of the name
abbrev pub has_table : PackageContent → List ℕ → Bool
has_table P name = is_some (table_named P.tables name)

-- the table of the name gets other rows
abbrev pub with_rows : List ℕ → List Row → Table → Table
with_rows name stored t = if bytes_eq t.name name then record t { rows = stored } else t

-- the same among all tables
abbrev pub rows_put : List ℕ → List Row → List Table → List Table
rows_put name stored ts = map (with_rows name stored) ts

-- a new table among those that rise by name
abbrev pub table_put : Table → List Table → List Table
table_put t [] = t ∷ []
table_put t (u ∷ us) = if is_lt (table_name_cmp t.name u.name) then t ∷ u ∷ us else u ∷ table_put t us

-- the rows of a table; a table that isn't there has none
abbrev pub stored_rows : PackageContent → List ℕ → List Row
stored_rows P name = unwrap_or (option_map (λ t. t.rows) (table_named P.tables name)) []

-- ---- insert, update, delete

-- the table of the name
abbrev pub found_table : PackageContent → List ℕ → Result Table Error
found_table P name = or_refused (table_named P.tables name) NotFound

-- what a query makes of a table: its rows before they are arranged, and the pool
pub record Change : Type 0 where
  pub table : Table
  pub rows : List Row
  pub pool : Pool

-- what a query makes of a table, or its refusal
abbrev pub changed : Table → Result (List Row × Pool) Error → Result Change Error
changed t (Err e) = Err e
changed t (Ok r) = Ok (record { table = t; rows = r.0; pool = r.1 })

-- the same of the table of a name
abbrev pub change : PackageContent → List ℕ → (Table → Result (List Row × Pool) Error) → Result Change Error
change P name query = found_table P name >>= λ t. changed t (query t)

-- these rows stand in the table, and the pool counts them
abbrev pub PackagePuts : PackageContent → List ℕ → Change → List Row → PackageContent → Type 0
PackagePuts P name x stored Q = Q ≡ record P { pool = x.pool; tables = rows_put name stored P.tables }

-- the rules of a query on the rows come before that on system tables; a full pool and too many rows come last
abbrev pub may_insert : List ℕ → Bool
may_insert name = not (is_system name)

-- an insert: rows of values for a table
abbrev pub Inserts : PackageContent → List ℕ → List (List Datum) → PackageContent → Result (Unit {0}) Error → Type 0
Inserts P name new_rows Q answer =
    EndsRefusedOrBy (change P name (λ t. inserted (may_insert name) P.pool t new_rows)) P Q answer
    (λ x. (stored : List Row) × IsStoredByKeys x.pool x.table.columns x.rows stored × PackagePuts P name x stored Q)

-- the column of a name has this place
abbrev pub is_column_at : ℕ → Option ℕ → Bool
is_column_at place None = false
is_column_at place (Some n) = n == place

-- _Validation takes a change of its tenth column alone, by which nothing is read: that of descriptions, whatever its name is
abbrev pub may_update : List ℕ → List Column → List (List ℕ × Datum) → Bool
may_update name columns sets = not (is_system name) || (bytes_eq name validation_name && list_all (λ s. is_column_at 9 (column_place columns s.0)) sets)

-- an update: values for columns, in the rows that the condition takes
abbrev pub Updates : PackageContent → List ℕ → List (List ℕ × Datum) → Option Formula → PackageContent → Result (Unit {0}) Error → Type 0
Updates P name sets condition Q answer =
    EndsRefusedOrBy (change P name (λ t. updated (may_update name t.columns sets) P.pool t sets condition)) P Q answer
    (λ x. (stored : List Row) × IsStored x.table.columns x.rows stored × PackagePuts P name x stored Q)

-- a delete of the rows that the condition takes
abbrev pub Deletes : PackageContent → List ℕ → Option Formula → PackageContent → Result (Unit {0}) Error → Type 0
Deletes P name condition Q answer =
    EndsRefusedOrBy (change P name (λ t. deleted (may_insert name) P.pool t condition)) P Q answer
    (λ x. (stored : List Row) × IsStored x.table.columns x.rows stored × PackagePuts P name x stored Q)

-- ---- create and drop

-- no two columns have one name
abbrev pub names_distinct : List Column → Bool
names_distinct [] = true
names_distinct (c ∷ cs) = not (list_any (λ d. bytes_eq d.name c.name) cs) && names_distinct cs

-- a column that comes back as it was
abbrev pub is_kept : Column → Bool
is_kept c = length_kept c.kind && not (list_any (list_any (λ b. b == 59)) c.choices) && not (is_binary c.kind && (c.key || c.localizable))

-- the rows of _Columns, _Tables and _Validation
abbrev pub Rows3 : Type 0
Rows3 = List Row × List Row × List Row

-- the rows of the three system tables with the new ones behind, and the pool
abbrev pub described : PackageContent → List ℕ → List Column → Result (Rows3 × Pool) Error
described P name columns =
    unless_not (nat_le (length (stored_rows P columns_name) + length columns) max_rows
    && nat_lt (length (stored_rows P tables_name)) max_rows
    && nat_le (length (stored_rows P validation_name) + length columns) max_rows) InvalidInput >>= λ _.
    rows_counted P.pool (columns_rows name 1 columns) >>= λ c.
    rows_counted c.1 ((text name ∷ []) ∷ []) >>= λ t.
    rows_counted t.1 (map (validation_row name) columns) >>= λ v.
    Ok ((stored_rows P columns_name ++ c.0, stored_rows P tables_name ++ t.0, stored_rows P validation_name ++ v.0), v.1)

-- the rows and the pool of a new table, or the first refusal, where at_free_name tells that no root storage stands at the encoded name
abbrev pub created : Bool → PackageContent → List ℕ → List Column → Result (Rows3 × Pool) Error
created at_free_name P name columns =
    unless_not (is_valid_table_name name && not (length columns == 0) && nat_le (length columns) 32
    && list_any (λ c. c.key) columns && list_all (λ c. is_identifier c.name) columns && names_distinct columns) InvalidInput >>= λ _.
    unless_not (not (has_table P name)) AlreadyExists >>= λ _.
    or_refused (table_named P.tables validation_name) NotFound >>= λ validation.
    unless_not (list_all (are_valid columns_columns) (columns_rows name 1 columns) && are_valid tables_columns (text name ∷ [])
    && list_all (are_valid validation.columns) (map (validation_row name) columns)
    && not (bytes_eq name pool_name) && not (bytes_eq name data_name) && list_all is_kept columns) InvalidInput >>= λ _.
    unless_not (not (list_any (has_key (keys_of P.pool validation)) (map (λ c. text name ∷ text c.name ∷ []) columns)) && at_free_name) AlreadyExists >>= λ _.
    described P name columns

-- the columns that the package itself has for _Validation
abbrev pub own_columns : PackageContent → List Column
own_columns P = unwrap_or (option_map (λ t. t.columns) (table_named P.tables validation_name)) []

-- a table without rows
abbrev pub new_table : List ℕ → List Column → Table
new_table name columns = record { name = name; columns = columns; rows = [] }

-- a new table: one of this name and these columns
abbrev pub Creates : CaseTable → PackageContent → List ℕ → List Column → PackageContent → Result (Unit {0}) Error → Type 0
Creates letters P name columns Q answer =
    EndsRefusedOrBy (created (is_none (at_name letters P.storages (stream_name name))) P name columns) P Q answer
    (λ x. (c : List Row) × (t : List Row) × (v : List Row)
    × IsStoredByKeys x.1 columns_columns x.0.0 c × IsStoredByKeys x.1 tables_columns x.0.1 t × IsStoredByKeys x.1 (own_columns P) x.0.2 v
    × (Q ≡ record P { pool = x.1; tables = rows_put columns_name c (rows_put tables_name t (rows_put validation_name v (table_put (new_table name columns) P.tables))) })
    )

-- the row speaks of the table
abbrev pub speaks_of : Pool → List ℕ → Row → Bool
speaks_of pool name row = begins_with name (row_data pool row)

-- the rows of a system table that speak of a table
abbrev pub rows_about : PackageContent → List ℕ → List ℕ → List Row
rows_about P table name = filter (speaks_of P.pool name) (stored_rows P table)

-- its other rows
abbrev pub rows_beside : PackageContent → List ℕ → List ℕ → List Row
rows_beside P table name = filter (λ row. not (speaks_of P.pool name row)) (stored_rows P table)

-- the table, and the pool without the uses of its rows and of those that speak of it; or the first refusal
abbrev pub dropped : PackageContent → List ℕ → Result (Table × Pool) Error
dropped P name =
    unless_not (not (is_system name) && is_valid_table_name name) InvalidInput >>= λ _.
    found_table P name >>= λ t.
    or_refused (table_named P.tables validation_name) NotFound >>= λ _.
    all_taken_back P.pool (flat_map (λ row. row) (t.rows ++ rows_about P validation_name name ++ rows_about P columns_name name ++ rows_about P tables_name name)) >>= λ pool.
    Ok (t, pool)

-- a table is dropped, and all rows that speak of it
abbrev pub Drops : PackageContent → List ℕ → PackageContent → Result (Unit {0}) Error → Type 0
Drops P name Q answer =
    EndsRefusedOrBy (dropped P name) P Q answer
    (λ x. (c : List Row) × (t : List Row) × (v : List Row)
    × IsStored columns_columns (rows_beside P columns_name name) c × IsStored tables_columns (rows_beside P tables_name name) t × IsStored (own_columns P) (rows_beside P validation_name name) v
    × (Q ≡ record P { pool = x.1; tables = rows_put columns_name c (rows_put tables_name t (rows_put validation_name v (filter (λ u. not (bytes_eq u.name name)) P.tables))) })
    )

-- ---- reading

-- the columns, under their names, and the rows as values
abbrev pub ShownTable : Type 0
ShownTable = List (List ℕ) × List (List Datum)

-- a select
abbrev pub selected_in : PackageContent → Query → Result ShownTable Error
selected_in P asked = selected (table_named P.tables) P.pool asked >>= λ t. Ok (map (λ c. c.name) t.columns, map (row_data P.pool) t.rows)

-- the names of all tables, by their bytes
abbrev pub table_names : PackageContent → List (List ℕ)
table_names P = map (λ t. t.name) P.tables

-- ---- new packages

-- the title of a new package
abbrev pub title_of : PackageType → List ℕ
title_of Installer = codes "Installation Database"
title_of Patch = codes "Patch"
title_of Transform = codes "Transform"

-- with the three system tables, before _Validation is described
abbrev pub bare_package : PackageType → PackageContent
bare_package kind = record {
  kind = kind;
  pool = record { page = page.Utf8; long = false; places = [] };
  tables = new_table columns_name columns_columns ∷ new_table tables_name tables_columns ∷ new_table validation_name validation_columns ∷ [];
  summary = edited (set_text 2 (Some (title_of kind))) new_summary;
  streams = [];
  storages = [];
}

-- a new package: its _Validation describes itself, and nothing else is there
abbrev pub IsNew : PackageType → PackageContent → Type 0
IsNew kind Q =
    (x : Rows3 × Pool) × (described (bare_package kind) validation_name validation_columns ≡ Ok x)
    × ((c : List Row) × (t : List Row) × (v : List Row)
    × IsStoredByKeys x.1 columns_columns x.0.0 c × IsStoredByKeys x.1 tables_columns x.0.1 t × IsStoredByKeys x.1 validation_columns x.0.2 v
    × (Q ≡ record (bare_package kind) { pool = x.1; tables = rows_put columns_name c (rows_put tables_name t (rows_put validation_name v (bare_package kind).tables)) }))

-- ---- one answer

-- the rule gives one package and one answer
abbrev pub HasOneAnswer : (PackageContent → Result (Unit {0}) Error → Type 0) → Type 0
HasOneAnswer rule = (Q R : PackageContent) (a b : Result (Unit {0}) Error) → rule Q a → rule R b → (Q ≡ R) × (a ≡ b)
