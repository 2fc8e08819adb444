use Rattle.std.proofs.Common.{◌∙◌, ◌∷◌, map, subst}
use Rattle.std.proofs.lemmas.Result.{IfOk-weaker}
use Rattle.std.specs.List.Sorted.{IsPermutation}
use Rattle.std.specs.Prelude.{string_bytes}
use Rattle.msi_building.specs.Saying.{said_tables}
use Rattle.msi_tables.specs.Schema.{columns_name, tables_name}
use Rattle.msi_building.proofs.comparing.has_table_names.Goals as goal

pub returns : goal.returns
returns g c P h =
    let told = c.in_ok-found.ensures.names ∙ c.in_ok-tables.ensures.held P h in
    let wanted = tables_name ∷ columns_name ∷ said_tables c.args.said.now in
    IfOk-weaker c.are_names.result _ _ (λ b each same. subst (λ xs. IsPermutation xs wanted) told (subst (λ ys. IsPermutation (map string_bytes c.in_ok-found.found.items) ys) c.in_ok-wanted.ensures (each same))) c.are_names.ensures
