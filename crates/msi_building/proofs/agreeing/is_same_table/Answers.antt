use Rattle.std.proofs.Common.{refl}
use Rattle.std.proofs.lemmas.Result.{IfOk-weaker}
use Rattle.msi_building.proofs.agreeing.is_same_table.Goals as goal

pub returns-clause-same : goal.returns-clause-same
returns-clause-same c P Q h k =
    let has = c.if-not-have_same_columns.ensures P Q h k refl in
    IfOk-weaker c.have_same_rows.result _ _ (λ b each same. record { table = has.0; other = has.1; named = has.2; other_named = has.3; columns = has.4; rows = each same }) (c.have_same_rows.ensures.same P Q has.0 has.1 h k has.2 has.3)
