use Rattle.std.proofs.Common.{◌∷◌, ◌∙◌, [], ap, false, map, refl, sym}
use Rattle.std.proofs.lemmas.List.{map-append}
use Rattle.command_file.specs.RequestsOf.{request_of}
use Rattle.installer.proofs.FirstRefused.{certainly, passed_as, refused_as, refused_before, refused_done, refused_failed, refused_first, refused_none, refused_one, refused_then}
use Rattle.installer.proofs.Running.{otherwise, some_left}
use Rattle.installer.proofs.Stopping.{survives_stay}
use Rattle.installer.specs.RepliesOf.{reply_of}
use Rattle.installer.specs.Sessions.{device_below, session_case_table}
use Rattle.installer.proofs.groups.SessionOver+Staged+D.+answer_to_refusal.Goals as goal

pub returns-then-is_empty-clause-ran : goal.returns-then-is_empty-clause-ran
returns-then-is_empty-clause-ran g t c =
    refused_none request_of c.args.commands.now (sym c.is_empty.ensures ∙ c.if-is_empty.true) (map reply_of c.args.answers.now.items) c.args.self.now
    (survives_stay (session_case_table c.args.self.now) g.D.Device g.met.D.Device.counts_now g.met.D.Device.only_now (device_below c.args.self.now))

pub returns-then-commands-eq1-clause-ran : goal.returns-then-commands-eq1-clause-ran
returns-then-commands-eq1-clause-ran g t c =
    refused_one request_of c.args.commands.now c.index-commands-0.result c.if-commands-eq1.true c.index-commands-0.is (map reply_of c.args.answers.now.items) (map reply_of c.push_reserved.new.self.items) (reply_of c.answer-answer.result) c.is_refusal-is_refusal.result c.args.self.now c.answer-answer.new.self
    (ap (map reply_of) c.push_reserved.ensures.items ∙ map-append reply_of c.args.answers.now.items (c.answer-answer.result ∷ [])) c.is_refusal-is_refusal.ensures c.answer-answer.ensures

pub returns-in-Ok-true-clause-ran : goal.returns-in-Ok-true-clause-ran
returns-in-Ok-true-clause-ran g t c =
    refused_done request_of c.args.commands.now (map reply_of c.args.answers.now.items) (map reply_of c.push_done.new.answers.items) c.args.self.now c.insert_all.new.self c.push_done.ensures.done
    (certainly _ _ _ c.in-Ok-true.field-0-test c.in-Ok-true.ensures.done)

pub returns-in-Err-clause-ran : goal.returns-in-Err-clause-ran
returns-in-Err-clause-ran g t c =
    refused_failed request_of 1 c.args.commands.now _ _ refl refl (map reply_of c.args.answers.now.items) (map reply_of c.push_reserved-in-Err.new.self.items) c.in-Err.error c.args.self.now c.insert_all.new.self
    (ap (map reply_of) c.push_reserved-in-Err.ensures.items ∙ map-append reply_of c.args.answers.now.items _) c.in-Err.ensures.when_failed

pub returns-then-not-answer_to_refusal-clause-ran : goal.returns-then-not-answer_to_refusal-clause-ran
returns-then-not-answer_to_refusal-clause-ran g t c =
    let first = refused_as c.answer_to_refusal.result (map request_of c.split_at.result.0.now) (map reply_of c.args.answers.now.items) (map reply_of c.answer_to_refusal.new.answers.items) c.insert_all.new.self c.answer_to_refusal.new.self
    c.if-not-answer_to_refusal.true c.answer_to_refusal.ensures.ran in
    refused_before false (map request_of c.args.commands.now) (map reply_of c.args.answers.now.items) (map reply_of c.answer_to_refusal.new.answers.items) c.args.self.now c.insert_all.new.self c.answer_to_refusal.new.self
    (some_left request_of c.args.commands.now (sym c.is_empty.ensures ∙ c.if-is_empty.false)) (otherwise _ _ _ c.in-Ok-false.field-0-test c.in-Ok-false.ensures.done)
    (refused_first request_of c.cut_of.result c.args.commands.now c.split_at.result.0.now c.split_at.result.1.now c.split_at.ensures.front c.split_at.ensures.back (map reply_of c.args.answers.now.items)
    (map reply_of c.answer_to_refusal.new.answers.items) c.insert_all.new.self c.answer_to_refusal.new.self first)

pub returns-else-not-answer_to_refusal-clause-ran : goal.returns-else-not-answer_to_refusal-clause-ran
returns-else-not-answer_to_refusal-clause-ran g t c =
    let first = passed_as c.answer_to_refusal.result (map request_of c.split_at.result.0.now) (map reply_of c.args.answers.now.items) (map reply_of c.answer_to_refusal.new.answers.items) c.insert_all.new.self c.answer_to_refusal.new.self
    c.if-not-answer_to_refusal.false c.answer_to_refusal.ensures.ran in
    refused_before c.answer_to_refusal-in-Ok-false.result (map request_of c.args.commands.now) (map reply_of c.args.answers.now.items) (map reply_of c.answer_to_refusal-in-Ok-false.new.answers.items) c.args.self.now c.insert_all.new.self c.answer_to_refusal-in-Ok-false.new.self
    (some_left request_of c.args.commands.now (sym c.is_empty.ensures ∙ c.if-is_empty.false)) (otherwise _ _ _ c.in-Ok-false.field-0-test c.in-Ok-false.ensures.done)
    (refused_then request_of c.cut_of.result c.args.commands.now c.split_at.result.0.now c.split_at.result.1.now c.split_at.ensures.front c.split_at.ensures.back c.answer_to_refusal-in-Ok-false.result (map reply_of c.args.answers.now.items)
    (map reply_of c.answer_to_refusal.new.answers.items) (map reply_of c.answer_to_refusal-in-Ok-false.new.answers.items) c.insert_all.new.self c.answer_to_refusal.new.self c.answer_to_refusal-in-Ok-false.new.self first c.answer_to_refusal-in-Ok-false.ensures.ran)
