use Rattle.std.proofs.Common.{refl, sym, ◌∙◌}
use Rattle.command_file.specs.RequestsOf.{request_of}
use Rattle.installer.proofs.Following.{follows_quietly}
use Rattle.installer.proofs.Together.{done_all, first_failed, goes_on_from}
use Rattle.msi_changes.specs.Said.{insert_name, insert_rows}
use Rattle.installer.proofs.groups.SessionOver+Staged+D.insert_all.Goals as goal

pub returns-in-Ok-clause-done : goal.returns-in-Ok-clause-done
returns-in-Ok-clause-done g c =
    let d = g.met.D.Device in
    let follows = follows_quietly d.counts_now d.rests_keeps d.rests_leaves (λ m. record { device = d.rests_refl _; failed = refl }) (λ a b k. k.device) (λ a b k. k.failed) _ _ c.args.self.now _ refl refl c.in-Ok.ensures in
    done_all request_of c.args.self.now c.insert_joined.new.self (insert_name c.in-Some.insert) (insert_rows c.in-Some.insert) (sym c.has_failed.ensures ∙ c.if-has_failed.false) (sym c.is_sound.ensures ∙ c.if-not-is_sound.false)
    c.args.commands.now c.in-Some.ensures.0 c.requires.some c.in-Some.ensures.1 c.in-Some.ensures.2 follows

pub returns-then-has_failed-2-clause-when_failed : goal.returns-then-has_failed-2-clause-when_failed
returns-then-has_failed-2-clause-when_failed g c =
    let d = g.met.D.Device in
    let follows = follows_quietly d.counts_now d.rests_keeps d.rests_leaves (λ m. record { device = d.rests_refl _; failed = refl }) (λ a b k. k.device) (λ a b k. k.failed) _ _ c.args.self.now _ refl refl c.in-Err.ensures in
    first_failed request_of c.args.self.now c.insert_joined.new.self (insert_name c.in-Some.insert) (insert_rows c.in-Some.insert) (sym c.has_failed.ensures ∙ c.if-has_failed.false) (sym c.is_sound.ensures ∙ c.if-not-is_sound.false)
    c.in-Err.error c.args.commands.now c.in-Some.ensures.0 c.requires.some c.in-Some.ensures.1 follows (sym c.has_failed-in-Err.ensures ∙ c.if-has_failed-2.true)

pub returns-clause-done : goal.returns-clause-done
returns-clause-done g c =
    let d = g.met.D.Device in
    let follows = follows_quietly d.counts_now d.rests_keeps d.rests_leaves (λ m. record { device = d.rests_refl _; failed = refl }) (λ a b k. k.device) (λ a b k. k.failed) _ _ c.args.self.now _ refl refl c.in-Err.ensures in
    goes_on_from c.args.self.now c.insert_joined.new.self (insert_name c.in-Some.insert) (insert_rows c.in-Some.insert) (sym c.has_failed.ensures ∙ c.if-has_failed.false) (sym c.is_sound.ensures ∙ c.if-not-is_sound.false)
    c.in-Err.error follows (sym c.has_failed-in-Err.ensures ∙ c.if-has_failed-2.false)
