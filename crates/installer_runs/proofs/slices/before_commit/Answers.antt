use Rattle.std.proofs.Common.{◌≡◌, ◌∙◌, ℕ, ap, get_or, subst, sym, true}
use Rattle.command_file.specs.Request.{is_commit}
use Rattle.command_file.specs.RequestsOf.{request_of}
use Rattle.installer_runs.proofs.Parting.{first_alone, one_more}
use Rattle.installer_runs.proofs.slices.before_commit.Goals as goal

pub loop-count-preserved : goal.loop-count-preserved
loop-count-preserved c =
    let other = sym (ap (λ it. is_commit (request_of it)) c.index-commands-count.is) ∙ sym c.is_commit.ensures ∙ c.if-is_commit.false in
    one_more request_of c.args.commands.now c.loop-count.count c.index-commands-count.result c.loop-count-test.true other c.loop-count.invariant

pub returns-then-is_commit-clause-first : goal.returns-then-is_commit-clause-first
returns-then-is_commit-clause-first c = λ none some.
    let first = sym (ap (λ it. is_commit (request_of it)) c.index-commands-count.is) ∙ sym c.is_commit.ensures ∙ c.if-is_commit.true in
    first_alone request_of c.args.commands.now c.index-commands-count.result some (subst (λ (k : ℕ). is_commit (request_of (get_or c.args.commands.now k c.index-commands-count.result)) ≡ true) none first)
