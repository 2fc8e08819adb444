use Rattle.std.proofs.Common.{sym, arith, ◌∙◌}
use Rattle.std.specs.Str.{chars}
use Rattle.std.proofs.lemmas.Iterator.{YieldsList-from_chars}
use Rattle.std.proofs.lemmas.Iterator.Consumers.{YieldsList-turn, YieldsList-end}
use Rattle.cfb_tree.proofs.TextLoops.{rest_before, rest_after, unit_count, counted, still_allowed, too_long, forbidden_in, empty_name, taken_name}
use Rattle.cfb_tree.proofs.names.validate_name.Goals as goal

pub returns-then-units-gt-MOST_UNITS-clause-valid : goal.returns-then-units-gt-MOST_UNITS-clause-valid
returns-then-units-gt-MOST_UNITS-clause-valid c =
    let t = YieldsList-turn (YieldsList-from_chars c.args.name.now c.utf8.name cc) c.loop-ch.yielded _ c.loop-ch.yielded_by _ _ c.in-Some.ch c.in-Some.is c.next.ensures.steps in
    too_long _ _ (chars c.args.name.now)
    (counted (λ d. d) c.loop-ch.units c.len_utf16-units.result _ c.in-Some.ch _ _ c.loop-ch.invariant.all (rest_before _ _ _ t) (unit_count _ _ c.len_utf16-units.ensures.bmp c.len_utf16-units.ensures.surrogate_pair))
    c.if-units-gt-MOST_UNITS.true

pub returns-then-is_forbidden-clause-valid : goal.returns-then-is_forbidden-clause-valid
returns-then-is_forbidden-clause-valid c =
    let t = YieldsList-turn (YieldsList-from_chars c.args.name.now c.utf8.name cc) c.loop-ch.yielded _ c.loop-ch.yielded_by _ _ c.in-Some.ch c.in-Some.is c.next.ensures.steps in
    forbidden_in c.in-Some.ch _ _ (chars c.args.name.now) c.loop-ch.invariant.allowed (rest_before _ _ _ t) (sym c.is_forbidden.ensures ∙ c.if-is_forbidden.true)

pub loop-ch-preserved : goal.loop-ch-preserved
loop-ch-preserved c =
    let t = YieldsList-turn (YieldsList-from_chars c.args.name.now c.utf8.name cc) c.loop-ch.yielded _ c.loop-ch.yielded_by _ _ c.in-Some.ch c.in-Some.is c.next.ensures.steps in
    record {
      few = omega arith;
      all = counted (λ d. d) c.loop-ch.units c.len_utf16-units.result _ c.in-Some.ch _ _ c.loop-ch.invariant.all (rest_before _ _ _ t) (unit_count _ _ c.len_utf16-units.ensures.bmp c.len_utf16-units.ensures.surrogate_pair);
      allowed = still_allowed c.in-Some.ch _ _ (chars c.args.name.now) c.loop-ch.invariant.allowed (rest_before _ _ _ t) (sym c.is_forbidden.ensures ∙ c.if-is_forbidden.false);
    }

pub returns-then-units-eq0-clause-valid : goal.returns-then-units-eq0-clause-valid
returns-then-units-eq0-clause-valid c =
    let t = YieldsList-end (YieldsList-from_chars c.args.name.now c.utf8.name cc) c.loop-ch.yielded _ c.loop-ch.yielded_by _ _ c.in-None.is c.next.ensures.steps in
    empty_name c.loop-ch.units _ (chars c.args.name.now) c.loop-ch.invariant.all (rest_after _ _ t.1) c.if-units-eq0.true

pub returns-clause-valid : goal.returns-clause-valid
returns-clause-valid c =
    let t = YieldsList-end (YieldsList-from_chars c.args.name.now c.utf8.name cc) c.loop-ch.yielded _ c.loop-ch.yielded_by _ _ c.in-None.is c.next.ensures.steps in
    taken_name c.loop-ch.units _ (chars c.args.name.now) c.loop-ch.invariant.all c.loop-ch.invariant.allowed (rest_after _ _ t.1) c.loop-ch.invariant.few (omega arith)
