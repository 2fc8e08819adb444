use Rattle.std.proofs.Common.{◌≡◌, ◌∙◌, ap, map, subst}
use Rattle.std.proofs.lemmas.Result.{IfOk-weaker}
use Rattle.std.specs.Prelude.{All, string_bytes}
use Rattle.cfb.specs.Views.{file_case_table}
use Rattle.msi.specs.Opened.{file_in}
use Rattle.msi_spec.specs.Streams.{stream_read}
use Rattle.msi_building.proofs.agreeing.have_same_streams.Goals as goal

pub returns-clause-same : goal.returns-clause-same
returns-clause-same c P Q h k =
    let told = c.in_ok-names.ensures.names ∙ c.in_ok-streams.ensures.answer P h in
    let names = c.in_ok-has_streams_of.ensures Q k c.if-not-branch.false in
    IfOk-weaker c.are_same_streams.result _ _ (λ b each same. (names ∙ ap (map string_bytes) c.deref.ensures.value ∙ told, subst (All (λ name. stream_read (file_case_table (file_in c.args.other.now)) Q name ≡ stream_read (file_case_table (file_in c.args.one.now)) P name)) (ap (map string_bytes) c.deref-2.ensures.value ∙ told) (each same))) (c.are_same_streams.ensures.same P Q h k)
