use Rattle.std.proofs.lemmas.Result.{IfOk-weaker}
use Rattle.command_words.proofs.Joined.{is_local}
use Rattle.command_words.proofs.words.with.Goals as goal

pub returns : goal.returns
returns c plain = IfOk-weaker c.subcommand.result _ _ (λ r h. h.shape (is_local c.args.part plain)) c.subcommand.ensures
