use Rattle.std.proofs.Common.{◌≡◌, map, take, true}
use Rattle.msi_tables.specs.Table.{are_distinct}
use Rattle.msi_schema.specs.Index.{IsIndex, rows_said}
use Rattle.msi_schema.proofs.index.rows_by_key.Given as goal

-- the rows so far have different keys, and are found by them
abbrev pub invariant-loop-row : goal.invariant-loop-row
invariant-loop-row l = record {
  fresh : are_distinct (map (take l.width) (rows_said (take l.row-index l.rows))) ≡ true;
  told : IsIndex l.width (rows_said (take l.row-index l.rows)) l.index;
}
