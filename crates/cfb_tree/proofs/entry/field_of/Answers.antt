use Rattle.std.proofs.Common.{◌+◌, ◌≤◌, length, ap, ◌∙◌, arith}
use Rattle.std.specs.Str.{chars}
use Rattle.std.proofs.lemmas.Iterator.{YieldsList-from_chars}
use Rattle.std.proofs.lemmas.Iterator.Consumers.{YieldsList-turn, YieldsList-end}
use Rattle.cfb_tree.specs.Names.{name_units}
use Rattle.cfb_tree.proofs.TextLoops.{rest_before, rest_after, counted, all_counted}
use Rattle.cfb_tree.proofs.FieldSteps.{still_whole, still_zeros, more_units, whole_field}
use Rattle.cfb_tree.proofs.entry.field_of.Goals as goal

pub slice_bounds-field-end : goal.slice_bounds-field-end
slice_bounds-field-end c =
    let t = YieldsList-turn (YieldsList-from_chars c.args.name.now c.utf8.name cc) c.loop-ch.yielded _ c.loop-ch.yielded_by _ _ c.in-Some.ch c.in-Some.is c.next.ensures.steps in
    let next = counted (λ d. d) c.loop-ch.len (length c.encode_utf16-units.result.now) _ c.in-Some.ch _ _ c.loop-ch.invariant.count (rest_before _ _ _ t) (ap length c.encode_utf16-units.ensures.value) in
    omega (arith, next, c.requires, c.loop-ch.invariant.whole)

pub loop-ch-preserved : goal.loop-ch-preserved
loop-ch-preserved c =
    let t = YieldsList-turn (YieldsList-from_chars c.args.name.now c.utf8.name cc) c.loop-ch.yielded _ c.loop-ch.yielded_by _ _ c.in-Some.ch c.in-Some.is c.next.ensures.steps in
    let rest = rest_before _ _ _ t in
    let next = counted (λ d. d) c.loop-ch.len (length c.encode_utf16-units.result.now) _ c.in-Some.ch _ _ c.loop-ch.invariant.count rest (ap length c.encode_utf16-units.ensures.value) in
    let low : c.loop-ch.len + length c.encode_utf16-units.result.now ≤ 32 = omega (arith, next, c.requires) in
    let is = c.copy_from_slice.ensures.after ∙ c.encode_utf16-units.ensures.value in
    let long = ap length c.copy_from_slice.ensures.after in
    record {
      whole = still_whole c.loop-ch.field c.copy_from_slice.new.self c.loop-ch.len (length c.encode_utf16-units.result.now) c.in-Some.ch is long low c.loop-ch.invariant.whole;
      zeros = still_zeros c.loop-ch.field c.copy_from_slice.new.self c.loop-ch.len (length c.encode_utf16-units.result.now) c.in-Some.ch is long low c.loop-ch.invariant.whole c.loop-ch.invariant.zeros;
      units = more_units c.loop-ch.field c.copy_from_slice.new.self c.loop-ch.len (length c.encode_utf16-units.result.now) c.in-Some.ch is long low c.loop-ch.invariant.whole _ _ (name_units (chars c.args.name.now)) c.loop-ch.invariant.units rest;
      count = next;
    }

pub returns-clause-field : goal.returns-clause-field
returns-clause-field c =
    let t = YieldsList-end (YieldsList-from_chars c.args.name.now c.utf8.name cc) c.loop-ch.yielded _ c.loop-ch.yielded_by _ _ c.in-None.is c.next.ensures.steps in
    let end = rest_after (chars c.args.name.now) _ t.1 in
    whole_field c.loop-ch.field c.loop-ch.len _ (chars c.args.name.now) c.loop-ch.invariant.zeros c.loop-ch.invariant.units end
    (all_counted (λ d. d) c.loop-ch.len _ _ c.loop-ch.invariant.count end)

pub returns-clause-len : goal.returns-clause-len
returns-clause-len c =
    let t = YieldsList-end (YieldsList-from_chars c.args.name.now c.utf8.name cc) c.loop-ch.yielded _ c.loop-ch.yielded_by _ _ c.in-None.is c.next.ensures.steps in
    all_counted (λ d. d) c.loop-ch.len _ _ c.loop-ch.invariant.count (rest_after (chars c.args.name.now) _ t.1)
