use Rattle.std.proofs.Common.{◌++◌, ap, ◌∙◌}
use Rattle.std.specs.Char.Escape.{encode_utf16}
use Rattle.std.specs.Str.{chars}
use Rattle.std.proofs.lemmas.Iterator.{YieldsList-from_chars}
use Rattle.std.proofs.lemmas.Iterator.Consumers.{YieldsList-turn, YieldsList-end}
use Rattle.cfb_tree.specs.Names.{letter, name_key}
use Rattle.cfb_tree.proofs.TextLoops.{rest_before, rest_after, moved, all_moved}
use Rattle.cfb_tree.proofs.names.name_key.Goals as goal

pub loop-ch-preserved : goal.loop-ch-preserved
loop-ch-preserved c =
    let t = YieldsList-turn (YieldsList-from_chars c.args.name.now c.utf8.name cc) c.loop-ch.yielded _ c.loop-ch.yielded_by _ _ c.in-Some.ch c.in-Some.is c.next.ensures.steps in
    moved (letter c.args.letters.now.letters.entries) c.loop-ch.key.items _ _ c.in-Some.ch _ _ c.loop-ch.invariant (rest_before _ _ _ t)
    (c.in_ok-extend_from_slice.ensures.items ∙ ap (λ units. c.loop-ch.key.items ++ units) (c.encode_utf16.ensures.value ∙ ap encode_utf16 c.letter.ensures))

pub returns-clause-key : goal.returns-clause-key
unfolding name_key
returns-clause-key c =
    let t = YieldsList-end (YieldsList-from_chars c.args.name.now c.utf8.name cc) c.loop-ch.yielded _ c.loop-ch.yielded_by _ _ c.in-None.is c.next.ensures.steps in
    all_moved (letter c.args.letters.now.letters.entries) c.loop-ch.key.items _ _ c.loop-ch.invariant (rest_after (chars c.args.name.now) _ t.1)
