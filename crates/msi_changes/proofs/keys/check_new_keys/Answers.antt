use Rattle.std.proofs.Common.{◌∙◌, sym, inr, true, false}
use Rattle.std.specs.Vec.Iter.{into_iter_items}
use Rattle.msi_changes.proofs.NewKeys.{add_told, came_already, judge_on, stands_already}
use Rattle.msi_changes.proofs.keys.check_new_keys.Goals as goal

pub returns-then-contains-clause-errors : goal.returns-then-contains-clause-errors
returns-then-contains-clause-errors c =
    inr (sym c.loop-key.invariant ∙ stands_already c.args.stored.now.keys c.loop-key.earlier.keys (into_iter_items c.loop-key.key-iterator) c.in-Some.key (into_iter_items c.next.new.self) c.in-Some.ensures.steps.0
    (sym c.if-contains.true ∙ c.contains.ensures))

pub returns-then-not-branch-clause-errors : goal.returns-then-not-branch-clause-errors
returns-then-not-branch-clause-errors c =
    inr (sym c.loop-key.invariant ∙ came_already c.args.stored.now.keys c.loop-key.earlier.keys (into_iter_items c.loop-key.key-iterator) c.in-Some.key (into_iter_items c.next.new.self) c.in-Some.ensures.steps.0
    (sym c.if-contains.false ∙ c.contains.ensures) (add_told _ _ true c.in_ok-insert.ensures.added c.if-not-branch.true))

pub loop-key-preserved : goal.loop-key-preserved
loop-key-preserved c =
    sym (judge_on c.args.stored.now.keys c.loop-key.earlier.keys (into_iter_items c.loop-key.key-iterator) c.in-Some.key (into_iter_items c.next.new.self) c.in-Some.ensures.steps.0 c.insert.new.self.keys
    (sym c.if-contains.false ∙ c.contains.ensures) (add_told _ _ false c.in_ok-insert.ensures.added c.if-not-branch.false) c.in_ok-insert.ensures.keys) ∙ c.loop-key.invariant
