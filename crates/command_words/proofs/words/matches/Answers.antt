use Rattle.std.proofs.Common.{ap, ◌∙◌, map, string_bytes}
use Rattle.std.proofs.lemmas.Result.{IfErr-weaker}
use Rattle.clap.specs.Words.{App, takes}
use Rattle.command_words.proofs.words.matches.Goals as goal

pub returns-clause-after_error : goal.returns-clause-after_error
returns-clause-after_error c =
    IfErr-weaker c.try_get_matches_from.result _ _ (λ e h t. h (ap (λ (a : App). takes a (map string_bytes c.args.words.now)) c.in_ok-definition.ensures ∙ t)) c.try_get_matches_from.ensures.passes
