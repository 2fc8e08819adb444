use Rattle.std.proofs.Common.{◌≡◌, ◌++◌, ℕ, drop, List}
use Rattle.std.specs.Prelude.{option_map}
use Rattle.msi_tables.proofs.Appending.{bytes_at}
use Rattle.msi_tables.proofs.writing.append_column.Given as goal

-- what is written and what is to come are the column's bytes
abbrev pub invariant-loop-row : goal.invariant-loop-row
invariant-loop-row l = record {
  bytes : option_map (λ bs. l.out.items ++ bs) (bytes_at l.long l.coltype l.index (drop l.row-index l.rows)) ≡ option_map (λ bs. l.initial.out.items ++ bs) (bytes_at l.long l.coltype l.index l.rows);
  kept : (more : List ℕ) × (l.out.items ≡ l.initial.out.items ++ more);
}
