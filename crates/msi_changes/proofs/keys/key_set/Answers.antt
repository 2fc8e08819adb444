use Rattle.std.proofs.Common.{◌≡◌, ◌∙◌, [], sym, true, false}
use Rattle.std.specs.Vec.Iter.{into_iter_items}
use Rattle.msi_changes.specs.Keys.{keys_said}
use Rattle.msi_changes.proofs.NewKeys.{add_told, adds_up, fresh_on, is_not_fresh, starts_fresh, starts_up}
use Rattle.msi_changes.proofs.keys.key_set.Goals as goal

pub loop-key-init : goal.loop-key-init
loop-key-init c =
    let none : c.new-set.result.keys ≡ [] = c.new-set.ensures.empty in
    let all : into_iter_items c.into_iter-key-iterator.result ≡ c.args.keys.items = c.into_iter-key-iterator.ensures.into_iter_gives.0 in
    record { fresh = starts_fresh c.new-set.result.keys (into_iter_items c.into_iter-key-iterator.result) c.args.keys.items none all; all = starts_up c.new-set.result.keys (into_iter_items c.into_iter-key-iterator.result) c.args.keys.items none all }

pub returns-then-not-branch-clause-ok : goal.returns-then-not-branch-clause-ok
returns-then-not-branch-clause-ok c =
    sym c.loop-key.invariant.fresh ∙ is_not_fresh c.loop-key.set.keys (into_iter_items c.loop-key.key-iterator) c.in-Some.key (into_iter_items c.next.new.self) c.in-Some.ensures.steps.0
    (add_told _ _ true c.in_ok-insert.ensures.added c.if-not-branch.true)

pub loop-key-preserved : goal.loop-key-preserved
loop-key-preserved c = record {
  fresh = sym (fresh_on c.loop-key.set.keys (into_iter_items c.loop-key.key-iterator) c.in-Some.key (into_iter_items c.next.new.self) c.in-Some.ensures.steps.0 c.insert.new.self.keys
      (add_told _ _ false c.in_ok-insert.ensures.added c.if-not-branch.false) c.in_ok-insert.ensures.keys) ∙ c.loop-key.invariant.fresh;
  all = adds_up c.loop-key.set.keys (into_iter_items c.loop-key.key-iterator) c.in-Some.key (into_iter_items c.next.new.self) c.in-Some.ensures.steps.0 (keys_said c.args.keys.items) c.insert.new.self.keys
      c.in_ok-insert.ensures.keys c.loop-key.invariant.all;
}
