use Rattle.std.proofs.Common.{rules, vec_len, lit<, ◌≡◌, ◌==◌, ◌++◌, ◌∷◌, [], Some, map, length, inr, refl, not, ap, sym, ◌∙◌, arith, drop}
use Rattle.std.specs.List.{slice_split}
use Rattle.std.proofs.lemmas.List.{map-append}
use Rattle.std.proofs.lemmas.Iterator.Splits.{YieldsList-from_str_split}
use Rattle.std.proofs.lemmas.Iterator.Consumers.{YieldsList-turn, YieldsList-end}
use Rattle.cfb_tree.specs.Paths.{led_from}
use Rattle.cfb_tree.proofs.TextLoops.{rest_behind, rest_after}
use Rattle.cfb_tree.proofs.PathSteps.{parts_split, part_dropped, part_back, part_further, back_none, back_some, none_left}
use Rattle.cfb_tree.proofs.paths.name_chain_from_path.Goals as goal

pub loop-part-preserved-then-is_dropped : goal.loop-part-preserved-then-is_dropped
loop-part-preserved-then-is_dropped c =
    let t = YieldsList-turn (YieldsList-from_str_split 47 c.args.path.now (lit< tt) (cc) (cc) (cc)) c.loop-part.yielded _ c.loop-part.yielded_by _ _ c.in-Some.part c.in-Some.is c.next.ensures.steps in
    sym (part_dropped (map (λ name. name.now) c.loop-part.names.items) c.in-Some.part.now _ _ (rest_behind (slice_split (λ b. b == 47) c.args.path.now) c.loop-part.yielded c.in-Some.part c.in-Some.part.now t) (sym c.is_dropped.ensures ∙ c.if-is_dropped.true))
    ∙ c.loop-part.invariant

pub returns-then-is_none-clause-errors : goal.returns-then-is_none-clause-errors
returns-then-is_none-clause-errors c =
    let t = YieldsList-turn (YieldsList-from_str_split 47 c.args.path.now (lit< tt) (cc) (cc) (cc)) c.loop-part.yielded _ c.loop-part.yielded_by _ _ c.in-Some.part c.in-Some.is c.next.ensures.steps in
    let rest = drop (length (c.loop-part.yielded ++ c.in-Some.part ∷ [])) (slice_split (λ b. b == 47) c.args.path.now) in
    inr (
      refl,
      ap (led_from (Some [])) (parts_split c.args.path.now) ∙ sym c.loop-part.invariant
          ∙ part_back (map (λ name. name.now) c.loop-part.names.items) c.in-Some.part.now _ _ (rest_behind (slice_split (λ b. b == 47) c.args.path.now) c.loop-part.yielded c.in-Some.part c.in-Some.part.now t)
          (sym c.is_dropped.ensures ∙ c.if-is_dropped.false) (sym c.is_back.ensures ∙ c.if-is_back.true)
          ∙ ap (λ names. led_from names rest) (back_none (λ name. name.now) c.loop-part.names.items (none_left c.loop-part.names.items c.pop.new.self.items c.pop.result c.pop.ensures.items (λ e. let n : length c.loop-part.names.items ≡ vec_len c.loop-part.names = search rules in omega (arith, n, (rw e at c.pop.ensures.cases).0)) (c.is_none.ensures ∙ ap not c.if-is_none.true))),
    )

pub loop-part-preserved-else-is_none : goal.loop-part-preserved-else-is_none
loop-part-preserved-else-is_none c =
    let t = YieldsList-turn (YieldsList-from_str_split 47 c.args.path.now (lit< tt) (cc) (cc) (cc)) c.loop-part.yielded _ c.loop-part.yielded_by _ _ c.in-Some.part c.in-Some.is c.next.ensures.steps in
    let rest = drop (length (c.loop-part.yielded ++ c.in-Some.part ∷ [])) (slice_split (λ b. b == 47) c.args.path.now) in
    ap (λ names. led_from names rest) (sym (back_some (λ name. name.now) c.loop-part.names.items c.pop.new.self.items c.pop.result c.pop.ensures.items (c.is_none.ensures ∙ ap not c.if-is_none.false)))
    ∙ sym (part_back (map (λ name. name.now) c.loop-part.names.items) c.in-Some.part.now _ _ (rest_behind (slice_split (λ b. b == 47) c.args.path.now) c.loop-part.yielded c.in-Some.part c.in-Some.part.now t)
    (sym c.is_dropped.ensures ∙ c.if-is_dropped.false) (sym c.is_back.ensures ∙ c.if-is_back.true))
    ∙ c.loop-part.invariant

pub loop-part-preserved : goal.loop-part-preserved
loop-part-preserved c =
    let t = YieldsList-turn (YieldsList-from_str_split 47 c.args.path.now (lit< tt) (cc) (cc) (cc)) c.loop-part.yielded _ c.loop-part.yielded_by _ _ c.in-Some.part c.in-Some.is c.next.ensures.steps in
    let rest = drop (length (c.loop-part.yielded ++ c.in-Some.part ∷ [])) (slice_split (λ b. b == 47) c.args.path.now) in
    ap (λ names. led_from (Some names) rest) (ap (map (λ name. name.now)) c.in_ok-push.ensures.items ∙ map-append (λ name. name.now) c.loop-part.names.items (c.in-Some.part ∷ []))
    ∙ sym (part_further (map (λ name. name.now) c.loop-part.names.items) c.in-Some.part.now _ _ (rest_behind (slice_split (λ b. b == 47) c.args.path.now) c.loop-part.yielded c.in-Some.part c.in-Some.part.now t)
    (sym c.is_dropped.ensures ∙ c.if-is_dropped.false) (sym c.is_back.ensures ∙ c.if-is_back.false))
    ∙ c.loop-part.invariant

pub returns-clause-names : goal.returns-clause-names
returns-clause-names c =
    let t = YieldsList-end (YieldsList-from_str_split 47 c.args.path.now (lit< tt) (cc) (cc) (cc)) c.loop-part.yielded _ c.loop-part.yielded_by _ _ c.in-None.is c.next.ensures.steps in
    ap (led_from (Some [])) (parts_split c.args.path.now) ∙ sym c.loop-part.invariant
    ∙ ap (led_from (Some (map (λ name. name.now) c.loop-part.names.items))) (rest_after (slice_split (λ b. b == 47) c.args.path.now) _ t.1)
