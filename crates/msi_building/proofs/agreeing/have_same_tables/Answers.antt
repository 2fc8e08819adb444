use Rattle.std.proofs.Common.{◌∙◌, ap, map, subst}
use Rattle.std.proofs.lemmas.Result.{IfOk-weaker}
use Rattle.std.specs.Prelude.{All, string_bytes}
use Rattle.msi_building.specs.Agreeing.{TableAgrees}
use Rattle.msi_building.proofs.agreeing.have_same_tables.Goals as goal

pub returns-clause-same : goal.returns-clause-same
returns-clause-same c P Q h k =
    let told = c.in_ok-names.ensures.names ∙ c.in_ok-tables.ensures.held P h in
    let names = c.in_ok-has_tables_of.ensures Q k c.if-not-branch.false in
    IfOk-weaker c.are_same_tables.result _ _ (λ b each same. (names ∙ ap (map string_bytes) c.deref.ensures.value ∙ told, subst (All (TableAgrees P Q)) (ap (map string_bytes) c.deref-2.ensures.value ∙ told) (each same))) (c.are_same_tables.ensures.same P Q h k)
