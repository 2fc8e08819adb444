use Rattle.std.proofs.Common.{refl}
use Rattle.std.proofs.lemmas.Result.{IfOk-weaker}
use Rattle.msi_building.proofs.comparing.has_table.Goals as goal

pub returns-clause-says : goal.returns-clause-says
returns-clause-says g c P h =
    let has = c.if-not-has_columns.ensures P h refl in
    IfOk-weaker c.has_rows.result _ _ (λ b each same. record { table = has.0; named = has.1; columns = has.2; rows = each same }) (c.has_rows.ensures.says P has.0 h has.1)
