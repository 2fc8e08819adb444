use Rattle.std.proofs.Common.{◌∷◌, ◌∙◌, [], ap, map, refl, sym}
use Rattle.std.proofs.lemmas.List.{map-append}
use Rattle.command_file.specs.RequestsOf.{request_of}
use Rattle.installer.proofs.Running.{answered_none, answered_one, answered_then, otherwise, rest_of, some_left}
use Rattle.installer.proofs.Stopping.{survives_stay}
use Rattle.installer.specs.Reply as told
use Rattle.installer.specs.RepliesOf.{reply_of}
use Rattle.installer.specs.Sessions.{device_below, session_case_table}
use Rattle.installer.proofs.groups.SessionOver+Staged+D.+answer_all.Goals as goal

pub returns-then-is_empty-clause-ran : goal.returns-then-is_empty-clause-ran
returns-then-is_empty-clause-ran g t c =
    answered_none request_of c.args.commands.now (sym c.is_empty.ensures ∙ c.if-is_empty.true) (map reply_of c.args.answers.now.items) c.args.self.now
    (survives_stay (session_case_table c.args.self.now) g.D.Device g.met.D.Device.counts_now g.met.D.Device.only_now (device_below c.args.self.now))

pub returns-then-commands-eq1-clause-ran : goal.returns-then-commands-eq1-clause-ran
returns-then-commands-eq1-clause-ran g t c =
    answered_one request_of c.args.commands.now c.index-commands-0.result c.if-commands-eq1.true c.index-commands-0.is (map reply_of c.args.answers.now.items) (map reply_of c.push_reserved.new.self.items) (reply_of c.answer.result) c.args.self.now c.answer.new.self
    (ap (map reply_of) c.push_reserved.ensures.items ∙ map-append reply_of c.args.answers.now.items (c.answer.result ∷ [])) c.answer.ensures

pub returns-in-Ok-false-clause-ran : goal.returns-in-Ok-false-clause-ran
returns-in-Ok-false-clause-ran g t c =
    let both = answered_then request_of c.cut_of.result c.args.commands.now c.split_at.result.0.now c.split_at.result.1.now c.split_at.ensures.front c.split_at.ensures.back
    (map reply_of c.args.answers.now.items) (map reply_of c.answer_all.new.answers.items) (map reply_of c.answer_all-in-Ok-false.new.answers.items) c.insert_all.new.self c.answer_all.new.self c.answer_all-in-Ok-false.new.self
    c.answer_all.ensures.ran c.answer_all-in-Ok-false.ensures.ran in
    (both.0, both.1, otherwise _ _ _ c.in-Ok-false.field-0-test c.in-Ok-false.ensures.done (map request_of c.args.commands.now) both.0 c.answer_all-in-Ok-false.new.self (some_left request_of c.args.commands.now (sym c.is_empty.ensures ∙ c.if-is_empty.false)) both.2)

pub returns-in-Err-clause-ran : goal.returns-in-Err-clause-ran
returns-in-Err-clause-ran g t c =
    answered_then request_of 1 c.args.commands.now _ _ refl (rest_of c.args.commands.now) (map reply_of c.args.answers.now.items) (map reply_of c.push_reserved-in-Err.new.self.items) (map reply_of c.answer_all-in-Err.new.answers.items)
    c.args.self.now c.insert_all.new.self c.answer_all-in-Err.new.self
    (told.refused c.in-Err.error ∷ [], ap (map reply_of) c.push_reserved-in-Err.ensures.items ∙ map-append reply_of c.args.answers.now.items _, c.in-Err.ensures.when_failed)
    c.answer_all-in-Err.ensures.ran
