use Rattle.std.proofs.Common.{◌∙◌, ap, sym}
use Rattle.installer.specs.Reply.{is_refusal}
use Rattle.installer.specs.RepliesOf.{reply_of}
use Rattle.installer_runs.proofs.Refusing.{none_more, one_is}
use Rattle.installer_runs.proofs.running.has_refusal.Goals as goal

pub loop-answer-preserved : goal.loop-answer-preserved
loop-answer-preserved c =
    let other = sym (ap (λ it. is_refusal (reply_of it)) c.answer-item.is) ∙ sym c.is_refusal.ensures ∙ c.if-is_refusal.false in
    none_more reply_of c.args.answers.now c.loop-answer.answer-index c.answer-item.result c.loop-answer-test.true other c.loop-answer.invariant

pub returns-then-is_refusal : goal.returns-then-is_refusal
returns-then-is_refusal c =
    let own = sym (ap (λ it. is_refusal (reply_of it)) c.answer-item.is) ∙ sym c.is_refusal.ensures ∙ c.if-is_refusal.true in
    one_is reply_of c.args.answers.now c.loop-answer.answer-index c.answer-item.result c.loop-answer-test.true own
