use Rattle.std.proofs.Common.{ap, length, ◌∙◌, arith}
use Rattle.std.specs.Char.Escape.{encode_utf16}
use Rattle.std.specs.Str.{chars}
use Rattle.std.proofs.lemmas.Iterator.{YieldsList-from_chars}
use Rattle.std.proofs.lemmas.Iterator.Consumers.{YieldsList-turn, YieldsList-end}
use Rattle.cfb_tree.specs.Names.{letter, name_key}
use Rattle.cfb_tree.proofs.TextLoops.{rest_before, rest_after, unit_count, counted, all_counted, short_key}
use Rattle.cfb_tree.proofs.names.key_len.Goals as goal

pub overflow_add-units : goal.overflow_add-units
overflow_add-units c =
    let t = YieldsList-turn (YieldsList-from_chars c.args.name.now c.utf8.name cc) c.loop-ch.yielded _ c.loop-ch.yielded_by _ _ c.in-Some.ch c.in-Some.is c.next.ensures.steps in
    let units = unit_count c.len_utf16-units.result c.letter.result c.len_utf16-units.ensures.bmp c.len_utf16-units.ensures.surrogate_pair ∙ ap (λ d. length (encode_utf16 d)) c.letter.ensures in
    let next = counted (letter c.args.letters.now.letters.entries) c.loop-ch.units c.len_utf16-units.result _ c.in-Some.ch _ _ c.loop-ch.invariant (rest_before _ _ _ t) units in
    let few = short_key (letter c.args.letters.now.letters.entries) c.args.name.now c.utf8.name in
    omega (arith, next, few, c.type_inv.name)

pub loop-ch-preserved : goal.loop-ch-preserved
loop-ch-preserved c =
    let t = YieldsList-turn (YieldsList-from_chars c.args.name.now c.utf8.name cc) c.loop-ch.yielded _ c.loop-ch.yielded_by _ _ c.in-Some.ch c.in-Some.is c.next.ensures.steps in
    counted (letter c.args.letters.now.letters.entries) c.loop-ch.units c.len_utf16-units.result _ c.in-Some.ch _ _ c.loop-ch.invariant (rest_before _ _ _ t)
    (unit_count c.len_utf16-units.result c.letter.result c.len_utf16-units.ensures.bmp c.len_utf16-units.ensures.surrogate_pair ∙ ap (λ d. length (encode_utf16 d)) c.letter.ensures)

pub returns : goal.returns
unfolding name_key
returns c =
    let t = YieldsList-end (YieldsList-from_chars c.args.name.now c.utf8.name cc) c.loop-ch.yielded _ c.loop-ch.yielded_by _ _ c.in-None.is c.next.ensures.steps in
    all_counted (letter c.args.letters.now.letters.entries) c.loop-ch.units _ _ c.loop-ch.invariant (rest_after (chars c.args.name.now) _ t.1)
