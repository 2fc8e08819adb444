use Rattle.std.proofs.Common.{◌≡◌, ◌∙◌, [], ap, map, subst, sym, Global, List, Vec}
use Rattle.std.proofs.lemmas.List.Sorted.{IsPermutation-map}
use Rattle.std.specs.List.Sorted.{IsPermutation}
use Rattle.std.specs.Prelude.{None, Ok}
use Rattle.msi.specs.Rows.{rows_shown}
use Rattle.msi_query.specs.Query.{query, table}
use Rattle.msi_spec.specs.Calls.{selected_in}
use Rattle.msi_values.specs.Datum.{data_of, Datum}
use Rattle.msi_values.specs.declared.value.Value.{Value}
use Rattle.msi_building.proofs.Selecting.{bare_rows, same_inside}
use Rattle.msi_building.proofs.agreeing.sorted_rows.Goals as goal

abbrev values_in : Vec Value Global → List Datum
values_in row = data_of row.items

pub returns-clause-sorted : goal.returns-clause-sorted
returns-clause-sorted c P t h named =
    let all = sym (same_inside _ _ c.in_ok-select.ensures) in
    let asked = subst (λ q. selected_in P q ≡ Ok (rows_shown c.in_ok-select_rows.field-0)) all (c.in_ok-select_rows.ensures.answer P h) in
    let told = c.in_ok-rows.ensures.values ∙ bare_rows P c.args.name.now t (rows_shown c.in_ok-select_rows.field-0) named asked in
    let perm = IsPermutation-map values_in c.in_ok-rows.rows.items _ c.in_ok-sort.ensures.permutation in
    subst (λ xs. IsPermutation xs (map values_in c.sort.new.self.items)) told perm
