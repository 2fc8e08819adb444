-- What a query answers of the tables in memory, whose rows lie in the file, and why it is refused.
use Rattle.std.specs.Prelude.{◌≡◌, ◌⊎◌, List, [], Err, MatchResult, Ok, Result, map, option_map, unwrap_or}
use Rattle.cfb_medium.specs.Calls.{IsFaultOrInvalidInputIf}
use Rattle.cfb_medium.specs.declared.error.Error.{Error}
use Rattle.cfb_medium.specs.declared.error.Error.TheVariants.{InvalidData}
use Rattle.cfb_medium.specs.declared.medium.ReadMedium.{Ghosts}
use Rattle.cfb_tree.specs.Names.{CaseTable}
use Rattle.cfb_tree.specs.Tree.{Tree}
use Rattle.cfb.specs.Views.{file_case_table}
use Rattle.msi_spec.specs.Calls.{ShownTable}
use Rattle.msi_parts.specs.Judged.{heading_named}
use Rattle.msi_pool.specs.Pool.{Pool}
use Rattle.msi_query.specs.Query.{Query, selected}
use Rattle.msi_query.specs.Said.{query_of}
use Rattle.msi_query.specs.Sources.{IsRefusedSelect, TablesByName}
use Rattle.msi_query.specs.declared.select.Select.{Select}
use Rattle.msi_store.specs.Stores.{stored_in}
use Rattle.msi_stored.specs.StoredPackages.{HasTables, HasTooMany, rows_in}
use Rattle.msi_tables.specs.Table.{Heading, Table, row_data}
use Rattle.msi_tables.specs.declared.rows.Rows.{Rows}
use Rattle.msi_texts.specs.Results.{◌>>=◌}
use Rattle.msi.specs.Opened.{file_in, pool_in, store_in, tables_in}
use Rattle.msi.specs.Rows.{rows_shown}
use Rattle.msi.specs.declared.package.Package.{Package}

-- a table with the rows that the tree has for it; with none where these are too many
abbrev pub as_read : CaseTable → Tree → Heading → Table
as_read letters tree h = record { name = h.name; columns = h.columns; rows = unwrap_or (rows_in letters tree h) [] }

-- the tables of a tree by their names
abbrev pub tables_at : CaseTable → Tree → List Heading → TablesByName
tables_at letters tree headings name = option_map (as_read letters tree) (heading_named headings name)

-- what a query shows of tables under a pool: names of columns, and rows of values
abbrev pub shown_of : Pool → Table → ShownTable
shown_of pool t = (map (λ c. c.name) t.columns, map (row_data pool) t.rows)

-- the answer of the definition, or its refusal
abbrev pub selected_by : TablesByName → Pool → Query → Result ShownTable Error
selected_by tables pool asked = selected tables pool asked >>= λ t. Ok (shown_of pool t)

module _ {F : Type 0} {g : Ghosts F} where
  -- the query is answered by the rows of the tree, whether or not it packs a package; or a table has too many rows, or there was a fault
  abbrev pub AnswersAt : Package F g → Tree → Select → Result Rows Error → Type 0
  AnswersAt it tree query result =
      let letters = file_case_table (file_in it) in
      let answer = selected_by (tables_at letters tree (tables_in it)) (pool_in it).pool (query_of query) in
      MatchResult result (λ rows. answer ≡ Ok (rows_shown rows)) (λ e. IsFaultOrInvalidInputIf ⊥ e ⊎ ((e ≡ InvalidData) × HasTooMany letters tree (tables_in it)) ⊎ (answer ≡ Err e))

  -- a table or a column isn't there, and the definition refuses it so, of whichever tables the package has
  abbrev pub IsQueryError : Package F g → Select → Error → Type 0
  IsQueryError it query e = IsRefusedSelect e × ((tables : TablesByName) → HasTables (stored_in (store_in it)) tables → selected tables (pool_in it).pool (query_of query) ≡ Err e)
