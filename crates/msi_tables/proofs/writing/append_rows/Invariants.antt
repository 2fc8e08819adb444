use Rattle.std.proofs.Common.{◌≡◌, ◌++◌, ℕ, List}
use Rattle.std.specs.Prelude.{option_map}
use Rattle.msi_tables.specs.Rows.{rows_bytes, kinds_of}
use Rattle.msi_columns.specs.Held.{columns_of}
use Rattle.msi_tables.specs.Held.{rows_held}
use Rattle.msi_tables.proofs.Appending.{bytes_from}
use Rattle.msi_tables.proofs.writing.append_rows.Given as goal

-- what is written and what is to come are the rows' bytes
abbrev pub invariant-loop-index : goal.invariant-loop-index
invariant-loop-index l = record {
  bytes : option_map (λ bs. l.out.items ++ bs) (bytes_from l.long l.index l.columns l.rows)
      ≡ option_map (λ bs. l.initial.out.items ++ bs) (rows_bytes l.long (kinds_of (columns_of l.columns)) (rows_held l.rows));
  kept : (more : List ℕ) × (l.out.items ≡ l.initial.out.items ++ more);
}
