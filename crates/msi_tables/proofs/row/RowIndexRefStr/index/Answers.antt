use Rattle.std.proofs.Common.{◌≡◌, ◌∙◌, subst, sym}
use Rattle.std.specs.Prelude.{slice_get}
use Rattle.msi_tables.specs.Row.{ValueRow, cell_named, cells_of}
use Rattle.msi_tables.specs.HeldRow.{row_of}
use Rattle.msi_tables.proofs.Searches.{value_named}
use Rattle.msi_tables.proofs.row.RowIndexRefStr.index.Goals as goal

pub returns : goal.returns
returns c =
    let i = c.unwrap-place.result in
    let P : ValueRow → Type 0 = λ row. cell_named c.args.column_name.now (cells_of row) ≡ slice_get row.values i in
    let some = sym (rw c.deref.ensures at c.index_for_column_name.ensures) ∙ c.unwrap-place.ensures in
    subst P c.self.view_is (value_named (row_of c.self.inside) c.args.column_name.now i c.self.invariant some) ∙ c.index.ensures
