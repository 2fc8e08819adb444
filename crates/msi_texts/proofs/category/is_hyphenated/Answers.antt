use Rattle.std.proofs.Common.{◌+◌, rules, tests, sym, ap, ◌∙◌, length, drop, arith}
use Rattle.std.specs.Prelude.{◌==◌}
use Rattle.std.specs.List.{slice_split}
use Rattle.std.proofs.lemmas.List.{length_push}
use Rattle.std.proofs.lemmas.Iterator.Consumers.{YieldsList-turn, YieldsList-end}
use Rattle.std.proofs.lemmas.Iterator.Splits.{YieldsList-from_slice_split}
use Rattle.msi_texts.specs.Category.{are_groups, group_lens}
use Rattle.msi_texts.proofs.CharsLoop.{rest_at, rest_after}
use Rattle.msi_texts.proofs.GroupSteps.{group_passed, group_failed, few_groups, groups_end}
use Rattle.msi_texts.proofs.category.is_hyphenated.Goals as goal

pub returns-then-not-is_group_at : goal.returns-then-not-is_group_at
returns-then-not-is_group_at c =
    let t = YieldsList-turn (YieldsList-from_slice_split _ (λ b. b == 45) c.args.bytes.now (cc) (cc) (cc) (λ x b q k. search (rules, tests))) c.loop-group.yielded _ c.loop-group.yielded_by _ _ c.in-Some.group c.in-Some.is c.next.ensures.steps in
    sym (group_failed _ _ _ c.loop-group.count (rest_at _ _ _ t) (sym c.if-not-is_group_at.ensures)) ∙ c.loop-group.invariant.right

pub loop-group-preserved : goal.loop-group-preserved
loop-group-preserved c =
    let t = YieldsList-turn (YieldsList-from_slice_split _ (λ b. b == 45) c.args.bytes.now (cc) (cc) (cc) (λ x b q k. search (rules, tests))) c.loop-group.yielded _ c.loop-group.yielded_by _ _ c.in-Some.group c.in-Some.is c.next.ensures.steps in
    let passed = sym c.if-not-is_group_at.ensures in
    let few = few_groups c.in-Some.group.now c.loop-group.count passed in
    record {
      right = ap (λ n. are_groups (drop n (slice_split (λ b. b == 45) c.args.bytes.now)) (drop (c.loop-group.count + 1) group_lens)) (length_push c.loop-group.yielded c.in-Some.group)
          ∙ sym (group_passed _ _ _ c.loop-group.count (rest_at _ _ _ t) passed) ∙ c.loop-group.invariant.right;
      few = omega arith;
    }

pub returns : goal.returns
returns c =
    let t = YieldsList-end (YieldsList-from_slice_split _ (λ b. b == 45) c.args.bytes.now (cc) (cc) (cc) (λ x b q k. search (rules, tests))) c.loop-group.yielded _ c.loop-group.yielded_by _ _ c.in-None.is c.next.ensures.steps in
    sym (groups_end c.loop-group.count c.loop-group.invariant.few)
    ∙ ap (λ gs. are_groups gs (drop c.loop-group.count group_lens)) (sym (rest_after _ (length c.loop-group.yielded) t.1))
    ∙ c.loop-group.invariant.right
