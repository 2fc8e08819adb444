use Rattle.std.proofs.Common.{◌≡◌, length, arith, inr}
use Rattle.std.proofs.lemmas.List.Sorted.{All-permutation, IsPermutation-map}
use Rattle.msi_columns.specs.Held.{columns_of}
use Rattle.msi_tables.specs.Held.{rows_held}
use Rattle.msi_tables.proofs.Appending.{cut_back}
use Rattle.msi_tables.proofs.StoredHeld.{stored_held}
use Rattle.msi_tables.proofs.writing.write_rows.Goals as goal

pub append_rows-requires : goal.append_rows-requires
append_rows-requires c =
    rw c.deref.ensures.value (All-permutation (λ row. length row ≡ length c.args.columns.now) (rows_held c.args.rows.items) (rows_held c.sort_rows.new.rows.items)
    (IsPermutation-map (λ row. row.items) c.args.rows.items c.sort_rows.new.rows.items c.in_ok-sort_rows.ensures.permutation) c.requires)

pub returns-in-Ok : goal.returns-in-Ok
returns-in-Ok c = (
  tt,
  inr (
    rows_held c.sort_rows.new.rows.items,
    stored_held (columns_of c.args.columns.now) c.args.rows.items c.sort_rows.new.rows.items c.in_ok-sort_rows.ensures.sorted c.in_ok-sort_rows.ensures.stable,
    (rw c.deref.ensures.value at c.in-Ok.ensures.bytes),
  ),
)

pub returns : goal.returns
returns c = (
  cut_back c.args.out.now.items c.append_rows.new.out.items c.truncate.new.self.items c.len-start.result c.truncate.ensures.items (omega (arith, c.len-start.ensures, c.args.out.now.ok.0)) c.in-Err.ensures.kept,
  inr (
    rows_held c.sort_rows.new.rows.items,
    stored_held (columns_of c.args.columns.now) c.args.rows.items c.sort_rows.new.rows.items c.in_ok-sort_rows.ensures.sorted c.in_ok-sort_rows.ensures.stable,
    (rw c.deref.ensures.value at c.in-Err.ensures.bytes),
  ),
)
