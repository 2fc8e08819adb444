-- What a select in memory says.
use Rattle.std.specs.Prelude.{ℕ, List, map, Option, Some, None, string_bytes}
use Rattle.msi_expr.specs.Formula.{Formula, formula_of}
use Rattle.msi_expr.specs.Conditions.{condition_of}
use Rattle.msi_query.specs.Query.{Query, Source, query, table, inner_join, left_join}
use Rattle.msi_query.specs.declared.select.Select.{Select}
use Rattle.msi_query.specs.declared.select.Join.{Join, Table, Inner', Left'}

-- where rows are taken from; a join holds two selects, each with its own columns and condition
abbrev pub source_of : Join → Source
source_of (Table name) = table (string_bytes name)
source_of (Inner' p a ns c q b ms d on) = inner_join (query (source_of a) (map string_bytes ns.items) (condition_of c)) (query (source_of b) (map string_bytes ms.items) (condition_of d)) (formula_of on)
source_of (Left' p a ns c q b ms d on) = left_join (query (source_of a) (map string_bytes ns.items) (condition_of c)) (query (source_of b) (map string_bytes ms.items) (condition_of d)) (formula_of on)

abbrev pub query_of : Select → Query
query_of s = query (source_of s.from) (map string_bytes s.column_names.items) (condition_of s.condition)

-- the source of a query, its columns and its condition
abbrev pub source_in : Query → Source
source_in (query source names condition) = source

-- its table, where it is no join
abbrev pub table_in : Query → Option (List ℕ)
table_in (query (table name) names condition) = Some name
table_in (query (inner_join l r on) names condition) = None
table_in (query (left_join l r on) names condition) = None

abbrev pub names_in : Query → List (List ℕ)
names_in (query source names condition) = names

abbrev pub condition_in : Query → Option Formula
condition_in (query source names condition) = condition
