use Rattle.std.proofs.Common.{◌≡◌, ◌∙◌, [], ap, map, subst, sym, Global, List, Vec}
use Rattle.std.proofs.lemmas.Result.{IfOk-weaker}
use Rattle.std.specs.List.Sorted.{IsPermutation}
use Rattle.std.specs.Prelude.{None, Ok, string_bytes}
use Rattle.msi.specs.Rows.{rows_shown}
use Rattle.msi_query.specs.Query.{query, table}
use Rattle.msi_spec.specs.Calls.{selected_in}
use Rattle.msi_tables.specs.Table.{row_data}
use Rattle.msi_values.specs.Datum.{data_of, Datum}
use Rattle.msi_values.specs.declared.value.Value.{Value}
use Rattle.msi_building.proofs.Selecting.{bare_rows, same_inside}
use Rattle.msi_building.proofs.comparing.has_rows.Goals as goal

abbrev values_in : List (Vec Value Global) → List (List Datum)
values_in rows = map (λ row. data_of row.items) rows

pub returns-clause-says : goal.returns-clause-says
returns-clause-says g c P t h named =
    let name = string_bytes c.args.said.now.name in
    let all = sym (same_inside _ _ c.in_ok-select.ensures) ∙ ap (λ n. query (table n) [] None) c.deref.ensures in
    let asked = subst (λ q. selected_in P q ≡ Ok (rows_shown c.in_ok-rows.rows)) all (c.in_ok-rows.ensures.answer P h) in
    let rows = bare_rows P name t (rows_shown c.in_ok-rows.rows) named asked in
    IfOk-weaker c.are_rows.result _ _ (λ b each same. subst (λ rs. IsPermutation (map (row_data P.pool) t.rows) (values_in rs)) c.deref-2.ensures.value (subst (λ xs. IsPermutation xs (values_in c.deref-2.result.now)) rows (each same))) c.are_rows.ensures
