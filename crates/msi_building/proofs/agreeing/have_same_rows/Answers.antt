use Rattle.std.proofs.Common.{◌∙◌, ap, map, subst, sym, Global, List, Vec}
use Rattle.std.proofs.lemmas.List.Sorted.{IsPermutation-sym, IsPermutation-trans}
use Rattle.std.specs.List.Sorted.{IsPermutation}
use Rattle.msi_tables.specs.Table.{row_data}
use Rattle.msi_values.specs.Datum.{data_of, Datum}
use Rattle.msi_values.specs.declared.value.Value.{Value}
use Rattle.msi_building.proofs.agreeing.have_same_rows.Goals as goal

abbrev values_in : List (Vec Value Global) → List (List Datum)
values_in rows = map (λ row. data_of row.items) rows

pub returns-clause-same : goal.returns-clause-same
returns-clause-same c P Q t u h k named found same =
    let one = c.in_ok-rows.ensures.sorted P t h named in
    let other = c.in_ok-others.ensures.sorted Q u k found in
    let is = sym (ap values_in c.deref.ensures.value) ∙ c.are_same_rows.ensures same ∙ ap values_in c.deref-2.ensures.value in
    IsPermutation-trans _ _ _ (subst (λ xs. IsPermutation (map (row_data Q.pool) u.rows) xs) is other) (IsPermutation-sym _ _ one)
