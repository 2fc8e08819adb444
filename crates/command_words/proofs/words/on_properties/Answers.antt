use Rattle.std.proofs.Common.{ap, ap₂, ◌∙◌}
use Rattle.std.proofs.lemmas.Result.{IfOk-weaker}
use Rattle.command_words.proofs.Joined.{is_plain, joined}
use Rattle.command_words.proofs.words.on_properties.Goals as goal

pub returns : goal.returns
returns c =
    let one = c.in_ok-first.ensures (ap is_plain c.in_ok-get.ensures) ∙ ap₂ joined c.in_ok-bare.ensures c.in_ok-get.ensures in
    IfOk-weaker c.with-2.result _ _ (λ r h. h ∙ ap₂ joined one c.in_ok-set.ensures) (c.with-2.ensures (ap is_plain c.in_ok-set.ensures))
