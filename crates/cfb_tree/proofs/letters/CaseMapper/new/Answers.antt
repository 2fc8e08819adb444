use Rattle.std.proofs.Common.{◌≡◌, ◌+◌, ◌==◌, ◌++◌, ◌∷◌, [], refl, inr, ap, sym, ◌∙◌, subst, None, true, take, drop, get_or, map, rules, arith}
use Rattle.std.specs.Prelude.{unwrap_or, is_some, nat_eq}
use Rattle.std.specs.Char.{IsScalar}
use Rattle.std.specs.List.{AllByRecursion, IsDistinct}
use Rattle.std.specs.Map.{lookup}
use Rattle.std.specs.Ordering.{nat_cmp}
use Rattle.std.specs.BTreeMap.{get, is_at}
use Rattle.std.proofs.lemmas.List.{take_all, take_more}
use Rattle.cfb_tree.proofs.TextLoops.{unit_count}
use Rattle.cfb_tree.proofs.LetterSteps.{IsAsLong, around, repeated, all_middle, all_push, once_more, found_now, letter_found, letter_in, no_letters, none_found, still_scalar}
use Rattle.cfb_tree.proofs.letters.CaseMapper.new.Goals as goal

pub loop-from-init : goal.loop-from-init
unfolding IsDistinct
loop-from-init c = record {
  found = λ q. ap (lookup (is_at (nat_cmp q))) c.new-letters.ensures.empty;
  once = tt;
  as_long = tt;
  scalars = λ q h. subst IsScalar (sym (no_letters q c.new-letters.result.entries c.new-letters.ensures.empty)) h;
}

pub returns-then-len_utf16-clause-errors : goal.returns-then-len_utf16-clause-errors
returns-then-len_utf16-clause-errors c =
    let pairs = c.args.pairs.now in
    let i = c.loop-from.from-index in
    let p = get_or pairs i (0, 0) in
    inr (
      refl,
      λ h. c.if-len_utf16.true (
          unit_count c.len_utf16.result p.0 c.len_utf16.ensures.bmp c.len_utf16.ensures.surrogate_pair
          ∙ all_middle IsAsLong p (take i pairs) (drop (i + 1) pairs) (subst (AllByRecursion IsAsLong) (around pairs i (0, 0) (omega arith)) h.as_long)
          ∙ sym (unit_count c.len_utf16-in-loop-from.result p.1 c.len_utf16-in-loop-from.ensures.bmp c.len_utf16-in-loop-from.ensures.surrogate_pair)),
    )

pub returns-then-contains_key-clause-errors : goal.returns-then-contains_key-clause-errors
returns-then-contains_key-clause-errors c =
    let pairs = c.args.pairs.now in
    let i = c.loop-from.from-index in
    let p = get_or pairs i (0, 0) in
    let there : is_some (lookup (λ k. p.0 == k) (take i pairs)) ≡ true = ap is_some (sym (c.loop-from.invariant.found p.0)) ∙ sym c.contains_key.ensures ∙ c.if-contains_key.true in
    inr (refl, λ h. repeated p (take i pairs) (drop (i + 1) pairs) there (subst (λ es. IsDistinct nat_eq (map (λ pair. pair.0) es)) (around pairs i (0, 0) (omega arith)) h.once))

pub loop-from-preserved : goal.loop-from-preserved
loop-from-preserved c =
    let pairs = c.args.pairs.now in
    let i = c.loop-from.from-index in
    let p = get_or pairs i (0, 0) in
    let now = c.in_ok-insert.ensures.updates in
    let more : take (i + 1) pairs ≡ take i pairs ++ p ∷ [] = take_more pairs i (0, 0) (omega arith) in
    let none : lookup (λ k. p.0 == k) (take i pairs) ≡ None = sym (c.loop-from.invariant.found p.0) ∙ none_found (get nat_cmp c.loop-from.letters p.0) (sym c.contains_key.ensures ∙ c.if-contains_key.false) in
    let long : IsAsLong p = sym (unit_count c.len_utf16.result p.0 c.len_utf16.ensures.bmp c.len_utf16.ensures.surrogate_pair) ∙ c.if-len_utf16.false
    ∙ unit_count c.len_utf16-in-loop-from.result p.1 c.len_utf16-in-loop-from.ensures.bmp c.len_utf16-in-loop-from.ensures.surrogate_pair in
    record {
      found = λ q. now.0 q ∙ found_now q p (take i pairs) (get nat_cmp c.loop-from.letters q) (c.loop-from.invariant.found q) none ∙ ap (lookup (λ k. q == k)) (sym more);
      once = subst (λ es. IsDistinct nat_eq (map (λ pair. pair.0) es)) (sym more) (once_more p (take i pairs) none c.loop-from.invariant.once);
      as_long = subst (AllByRecursion IsAsLong) (sym more) (all_push IsAsLong p (take i pairs) c.loop-from.invariant.as_long long);
      scalars = λ q h. subst IsScalar (ap (λ o. unwrap_or o q) (sym (now.0 q)) ∙ letter_in q c.insert.new.self.entries)
          (still_scalar (is_at (nat_cmp p.0) q) p.1 q (get nat_cmp c.loop-from.letters q) (search rules) (subst IsScalar (sym (letter_in q c.loop-from.letters.entries)) (c.loop-from.invariant.scalars q h)));
    }

pub returns-clause-replaces : goal.returns-clause-replaces
returns-clause-replaces c = λ q.
    let pairs = c.args.pairs.now in
    let all : take c.loop-from.from-index pairs ≡ pairs = take_all c.loop-from.from-index pairs (omega arith) in
    sym (letter_in q c.loop-from.letters.entries) ∙ ap (λ o. unwrap_or o q) (c.loop-from.invariant.found q ∙ ap (lookup (λ k. q == k)) all) ∙ letter_found q pairs
