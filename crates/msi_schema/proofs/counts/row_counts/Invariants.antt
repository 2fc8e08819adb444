use Rattle.std.proofs.Common.{◌≡◌, ℕ, List, take, true}
use Rattle.std.specs.List.{list_all}
use Rattle.msi_tables.specs.Schema.{is_of_listed}
use Rattle.msi_schema.specs.Headings.{at_text}
use Rattle.msi_schema.specs.Index.{rows_said}
use Rattle.msi_schema.proofs.Told.{counted}
use Rattle.msi_schema.proofs.counts.row_counts.Given as goal

-- the rows so far are of listed tables, and counted
abbrev pub invariant-loop-row : goal.invariant-loop-row
invariant-loop-row l = record {
  listed : list_all (is_of_listed (rows_said l.tables)) (rows_said (take l.row-index l.columns)) ≡ true;
  told : (name : List ℕ) → at_text l.counts name ≡ counted (rows_said l.tables) (rows_said (take l.row-index l.columns)) name;
}
