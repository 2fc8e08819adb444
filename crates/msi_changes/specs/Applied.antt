-- Changes that are applied to a table in memory and its rows.
use Rattle.std.specs.Prelude.{◌≡◌, ◌+◌, ◌||◌, ℕ, Option, Bool, true, not, List, [], map, filter, flat_map, length, nat_le, Result, Ok}
use Rattle.std.specs.List.{list_all}
use Rattle.msi_values.specs.Datum.{Datum}
use Rattle.msi_pool.specs.Pool.{Pool}
use Rattle.msi_columns.specs.Column.{are_valid}
use Rattle.msi_tables.specs.Rows.{Row, max_rows}
use Rattle.msi_tables.specs.Table.{Heading, Table, are_distinct, key_values, keys_of}
use Rattle.cfb_medium.specs.declared.error.Error.{Error}
use Rattle.msi_texts.specs.Results.{◌>>=◌}
use Rattle.msi_expr.specs.Formula.{Formula}
use Rattle.msi_expr.specs.Conditions.{knows_condition}
use Rattle.msi_changes.specs.Changes.{all_taken_back, is_valid_set, keys_after, new_keys, sets_key}

-- the table of this heading that has these rows
abbrev pub with_rows : Heading → List Row → Table
with_rows heading rows = record { name = heading.name; columns = heading.columns; rows = rows }

-- nothing but a full pool stands against an insert
pub record IsInsertAccepted (pool : Pool) (t : Table) (new_rows : List (List Datum)) : Type 0 where
  pub valid : list_all (are_valid t.columns) new_rows ≡ true
  pub distinct : are_distinct (keys_of pool t) ≡ true
  pub new : new_keys (keys_of pool t) [] (map (key_values t.columns) new_rows) ≡ Ok tt
  pub few : nat_le (length t.rows + length new_rows) max_rows ≡ true

-- the rows that don't match, and the pool without the uses of the others
abbrev pub left_of : (Row → Bool) → Pool → List Row → Result (List Row × Pool) Error
left_of matching pool rows = all_taken_back pool (flat_map (λ row. row) (filter matching rows)) >>= λ p. Ok (filter (λ row. not (matching row)) rows, p)

-- each row with whether it matches
abbrev pub judged : (Row → Bool) → List Row → List (Row × Bool)
judged matching rows = map (λ row. (row, matching row)) rows

-- nothing but the pool stands against an update
pub record MaySet (pool : Pool) (t : Table) (sets : List (List ℕ × Datum)) (condition : Option Formula) : Type 0 where
  pub valid : list_all (is_valid_set t.columns) sets ≡ true
  pub known : knows_condition t.columns condition ≡ true
  pub distinct : (not (sets_key t.columns sets) || are_distinct (keys_after pool t sets condition)) ≡ true
