use Rattle.std.proofs.Common.{◌++◌, [], ◌∷◌, refl, sym, ap, ◌∙◌, append-nil, encode_utf8_all}
use Rattle.std.proofs.lemmas.Iterator.{YieldsList-from_chars, YieldsList-from_take}
use Rattle.std.proofs.lemmas.Iterator.Consumers.{YieldsList-end}
use Rattle.std.proofs.lemmas.Str.{encodes-append}
use Rattle.std.proofs.Output.{has_written_styled_append, has_written_styled_of_eq}
use Rattle.msi_values.proofs.QuotedText.{first_encoded}
use Rattle.msi_values.proofs.quoted.write_first.Goals as goal

pub loop-ch-preserved : goal.loop-ch-preserved
loop-ch-preserved g c = λ flush.
    let before = c.loop-ch.invariant flush in
    has_written_styled_of_eq _ _ _ _ _
    (ap (λ bs. encode_utf8_all c.loop-ch.yielded ++ bs) (sym (append-nil _)) ∙ sym (encodes-append c.loop-ch.yielded (c.in-Some.ch ∷ [])))
    (has_written_styled_append _ _ _ _ _ _ before (c.in_ok-write_char.ensures.styled before.flush refl))

pub returns : goal.returns
returns g c = λ ascii flush ok.
    let t = YieldsList-end (YieldsList-from_take c.args.count (YieldsList-from_chars c.args.text.now c.utf8.text cc) cc) c.loop-ch.yielded _ c.loop-ch.yielded_by _ _ c.in-None.is c.next.ensures.steps in
    has_written_styled_of_eq _ _ _ _ _ (first_encoded c.args.text.now c.args.count c.loop-ch.yielded ascii t.0) (c.loop-ch.invariant flush)
