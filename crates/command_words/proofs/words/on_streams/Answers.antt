use Rattle.std.proofs.Common.{ap, ap₂, ◌∙◌}
use Rattle.std.proofs.lemmas.Result.{IfOk-weaker}
use Rattle.command_words.proofs.Joined.{is_plain, joined}
use Rattle.command_words.proofs.words.on_streams.Goals as goal

pub returns : goal.returns
returns c =
    let one = c.in_ok-first.ensures (ap is_plain c.in_ok-unset.ensures) ∙ ap₂ joined c.in_ok-bare.ensures c.in_ok-unset.ensures in
    IfOk-weaker c.with-2.result _ _ (λ r h. h ∙ ap₂ joined one c.in_ok-extract.ensures) (c.with-2.ensures (ap is_plain c.in_ok-extract.ensures))
