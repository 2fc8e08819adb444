use Rattle.std.proofs.Common.{◌≡◌, ◌∙◌, subst, sym, ap, None}
use Rattle.std.specs.Prelude.{option_map, slice_get}
use Rattle.msi_values.specs.Datum.{datum_of}
use Rattle.msi_tables.specs.Row.{ValueRow, cell_named, cells_of}
use Rattle.msi_tables.specs.HeldRow.{row_of}
use Rattle.msi_tables.proofs.Searches.{nothing_named, value_named}
use Rattle.msi_tables.proofs.row.Row.get.Goals as goal

pub returns-in_err-index_for_column_name : goal.returns-in_err-index_for_column_name
returns-in_err-index_for_column_name c =
    let P : ValueRow → Type 0 = λ row. cell_named c.args.name.now (cells_of row) ≡ None in
    let none = sym (rw c.deref.ensures at c.index_for_column_name.ensures) ∙ c.in_err-index_for_column_name.was in
    ap (option_map (λ v. datum_of v.now)) c.from_residual.ensures ∙ sym (subst P c.self.view_is (nothing_named (row_of c.self.inside) c.args.name.now c.self.invariant none))

pub returns : goal.returns
returns c =
    let i = c.in_ok-index_for_column_name.field-0 in
    let P : ValueRow → Type 0 = λ row. cell_named c.args.name.now (cells_of row) ≡ slice_get row.values i in
    let some = sym (rw c.deref.ensures at c.index_for_column_name.ensures) ∙ c.in_ok-index_for_column_name.was in
    c.value.ensures ∙ sym (subst P c.self.view_is (value_named (row_of c.self.inside) c.args.name.now i c.self.invariant some))
