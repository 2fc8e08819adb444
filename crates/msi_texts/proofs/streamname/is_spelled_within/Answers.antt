use Rattle.std.proofs.Common.{◌++◌, ◌∷◌, [], length, drop, ap}
use Rattle.std.specs.Prelude.{nat_le}
use Rattle.std.specs.Str.{chars}
use Rattle.std.proofs.lemmas.Iterator.{YieldsList-from_chars}
use Rattle.std.proofs.lemmas.Iterator.Consumers.{YieldsList-turn, YieldsList-end}
use Rattle.msi_texts.proofs.CharsLoop.{rest_before, rest_after}
use Rattle.msi_texts.proofs.UnitSteps.{units_moved, too_many, units_last, units_none, few_units}
use Rattle.msi_texts.proofs.streamname.is_spelled_within.Goals as goal

pub returns-then-most-units : goal.returns-then-most-units
returns-then-most-units c =
    let t = YieldsList-turn (YieldsList-from_chars c.args.name.now c.utf8.name cc) c.loop-ch.yielded _ c.loop-ch.yielded_by _ _ c.in-Some.ch c.in-Some.is c.next.ensures.steps in
    too_many _ _ _ _ (units_moved _ _ _ c.loop-ch.pending c.count_next-written.result.1 _ _ _ c.loop-ch.invariant.all (rest_before _ _ _ t) (c.count_next-written.ensures.units (drop (length (c.loop-ch.yielded ++ c.in-Some.ch ∷ [])) (chars c.args.name.now)))) c.if-most-units.true

pub loop-ch-preserved : goal.loop-ch-preserved
loop-ch-preserved c =
    let t = YieldsList-turn (YieldsList-from_chars c.args.name.now c.utf8.name cc) c.loop-ch.yielded _ c.loop-ch.yielded_by _ _ c.in-Some.ch c.in-Some.is c.next.ensures.steps in
    record {
      few = c.if-most-units.false;
      all = units_moved _ _ _ c.loop-ch.pending c.count_next-written.result.1 _ _ _ c.loop-ch.invariant.all (rest_before _ _ _ t) (c.count_next-written.ensures.units (drop (length (c.loop-ch.yielded ++ c.in-Some.ch ∷ [])) (chars c.args.name.now)));
    }

pub returns-in-Some-pending : goal.returns-in-Some-pending
returns-in-Some-pending c =
    let t = YieldsList-end (YieldsList-from_chars c.args.name.now c.utf8.name cc) c.loop-ch.yielded _ c.loop-ch.yielded_by _ _ c.in-None.is c.next.ensures.steps in
    ap (λ n. nat_le n c.args.most) (units_last _ _ _ _ _ _ _ c.loop-ch.invariant.all c.in-Some-pending.is (rest_after (chars c.args.name.now) (length c.loop-ch.yielded) t.1) c.lone_char.ensures c.len_utf16.ensures.bmp c.len_utf16.ensures.surrogate_pair)

pub returns-in-None-pending : goal.returns-in-None-pending
returns-in-None-pending c =
    let t = YieldsList-end (YieldsList-from_chars c.args.name.now c.utf8.name cc) c.loop-ch.yielded _ c.loop-ch.yielded_by _ _ c.in-None.is c.next.ensures.steps in
    few_units _ _ _ (units_none _ _ _ _ c.loop-ch.invariant.all c.in-None-pending.is (rest_after (chars c.args.name.now) (length c.loop-ch.yielded) t.1)) c.loop-ch.invariant.few
