use Rattle.std.proofs.Common.{ap₂, ◌∙◌}
use Rattle.std.proofs.lemmas.Result.{IfOk-weaker}
use Rattle.clap.specs.Words.{app_of, with_rule}
use Rattle.command_words.proofs.words.by_pages.Goals as goal

pub returns : goal.returns
returns c = IfOk-weaker c.with_two.result _ _ (λ r h. h ∙ ap₂ (λ one other. with_rule (with_rule (app_of c.args.command) one) other) c.page_behind-texts.ensures.rule c.page_behind-summary.ensures.rule) c.with_two.ensures
