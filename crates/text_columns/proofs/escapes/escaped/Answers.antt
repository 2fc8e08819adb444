use Rattle.std.proofs.Common.{arith, flat_map, length}
use Rattle.std.proofs.lemmas.Iterator.{YieldsList-from_chars}
use Rattle.std.proofs.lemmas.Iterator.Consumers.{YieldsList-turn, YieldsList-end}
use Rattle.std.specs.Str.{chars}
use Rattle.std.specs.String.{string_bytes}
use Rattle.text_columns.proofs.CharsLoop.{all_done, one_more}
use Rattle.text_columns.proofs.escapes.escaped.Goals as goal
use Rattle.text_columns.specs.Escapes.{escape}

pub loop-ch-preserved : goal.loop-ch-preserved
loop-ch-preserved c =
    let t = YieldsList-turn (YieldsList-from_chars c.args.text.now c.utf8.text cc) c.loop-ch.yielded _ c.loop-ch.yielded_by _ _ c.in-Some.ch c.in-Some.is c.next.ensures.steps in
    one_more escape (string_bytes c.loop-ch.line) (string_bytes c.push_escaped.new.line) (flat_map escape (chars c.args.text.now)) (chars c.args.text.now) c.loop-ch.yielded c.in-Some.ch t
    c.in_ok-push_escaped.ensures c.loop-ch.invariant

pub returns : goal.returns
returns c =
    let t = YieldsList-end (YieldsList-from_chars c.args.text.now c.utf8.text cc) c.loop-ch.yielded _ c.loop-ch.yielded_by _ _ c.in-None.is c.next.ensures.steps in
    all_done escape (string_bytes c.loop-ch.line) (flat_map escape (chars c.args.text.now)) (chars c.args.text.now) (length c.loop-ch.yielded) (omega (arith, t.1)) c.loop-ch.invariant
