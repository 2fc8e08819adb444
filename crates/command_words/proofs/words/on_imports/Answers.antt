use Rattle.std.proofs.Common.{ap, ap₂, ◌∙◌}
use Rattle.std.proofs.lemmas.Result.{IfOk-weaker}
use Rattle.command_words.proofs.Joined.{is_plain, joined}
use Rattle.command_words.proofs.words.on_imports.Goals as goal

pub returns : goal.returns
returns c =
    IfOk-weaker c.with.result _ _ (λ r h. h ∙ ap₂ joined c.in_ok-bare.ensures c.in_ok-import.ensures) (c.with.ensures (ap is_plain c.in_ok-import.ensures))
