use Rattle.std.proofs.Common.{◌≡◌, ◌++◌, [], ◌∷◌, length, take, drop, true, arith, sym, ap, ◌∙◌, encode_utf8_all}
use Rattle.std.specs.Str.{chars}
use Rattle.std.proofs.lemmas.Iterator.{YieldsList-from_chars}
use Rattle.std.proofs.lemmas.Iterator.Consumers.{YieldsList-turn, YieldsList-end}
use Rattle.std.proofs.lemmas.Str.{scalars-chars}
use Rattle.msi_texts.specs.StreamName.{spelled_after, spelled_name, is_valid_name}
use Rattle.msi_texts.proofs.CharsLoop.{rest_before, rest_after}
use Rattle.msi_texts.proofs.SpelledNames.{scalars-spelled_name, bytes_of_valid, room_left}
use Rattle.msi_texts.proofs.encodedname.EncodedName.new.Goals as goal

pub put_next-end-requires : goal.put_next-end-requires
put_next-end-requires c =
    let t = YieldsList-turn (YieldsList-from_chars c.args.name.now c.utf8.name cc) c.loop-ch.yielded _ c.loop-ch.yielded_by _ _ c.in-Some.ch c.in-Some.is c.next.ensures.steps in
    let valid : is_valid_name c.args.is_table (chars c.args.name.now) ≡ true = cc in (
      drop (length (c.loop-ch.yielded ++ c.in-Some.ch ∷ [])) (chars c.args.name.now),
      room_left _ _ _ _ (ap (λ rest. take c.loop-ch.at c.loop-ch.bytes ++ encode_utf8_all (spelled_after c.loop-ch.pending rest)) (sym (rest_before _ _ _ t)) ∙ c.loop-ch.invariant.text)
          c.loop-ch.invariant.within c.loop-ch.invariant.room (bytes_of_valid c.args.is_table (chars c.args.name.now) valid),
    )

pub loop-ch-preserved : goal.loop-ch-preserved
loop-ch-preserved c =
    let t = YieldsList-turn (YieldsList-from_chars c.args.name.now c.utf8.name cc) c.loop-ch.yielded _ c.loop-ch.yielded_by _ _ c.in-Some.ch c.in-Some.is c.next.ensures.steps in
    record {
      text = c.put_next-end.ensures.text _
          ∙ ap (λ rest. take c.loop-ch.at c.loop-ch.bytes ++ encode_utf8_all (spelled_after c.loop-ch.pending rest)) (sym (rest_before _ _ _ t))
          ∙ c.loop-ch.invariant.text;
      within = c.put_next-end.ensures.within;
      room = c.put_next-end.auto.bytes ∙ c.loop-ch.invariant.room;
    }

pub put_last-len-requires : goal.put_last-len-requires
put_last-len-requires c =
    let t = YieldsList-end (YieldsList-from_chars c.args.name.now c.utf8.name cc) c.loop-ch.yielded _ c.loop-ch.yielded_by _ _ c.in-None.is c.next.ensures.steps in
    let valid : is_valid_name c.args.is_table (chars c.args.name.now) ≡ true = cc in
    room_left _ _ _ _ (ap (λ rest. take c.loop-ch.at c.loop-ch.bytes ++ encode_utf8_all (spelled_after c.loop-ch.pending rest)) (sym (rest_after _ _ t.1)) ∙ c.loop-ch.invariant.text)
    c.loop-ch.invariant.within c.loop-ch.invariant.room (bytes_of_valid c.args.is_table (chars c.args.name.now) valid)

pub invariant_of-result : goal.invariant_of-result
invariant_of-result c =
    let t = YieldsList-end (YieldsList-from_chars c.args.name.now c.utf8.name cc) c.loop-ch.yielded _ c.loop-ch.yielded_by _ _ c.in-None.is c.next.ensures.steps in
    let text : take c.put_last-len.result c.put_last-len.new.bytes ≡ encode_utf8_all (spelled_name c.args.is_table (chars c.args.name.now)) =
    c.put_last-len.ensures.text
    ∙ ap (λ rest. take c.loop-ch.at c.loop-ch.bytes ++ encode_utf8_all (spelled_after c.loop-ch.pending rest)) (sym (rest_after _ _ t.1))
    ∙ c.loop-ch.invariant.text in
    record {
      within = omega (arith, c.put_last-len.ensures.within, c.put_last-len.auto.bytes, c.loop-ch.invariant.room);
      is_text = ∣ (spelled_name c.args.is_table (chars c.args.name.now), (scalars-spelled_name c.args.is_table _ (scalars-chars c.args.name.now c.utf8.name), sym text)) ∣₁;
    }

pub returns-clause-text : goal.returns-clause-text
returns-clause-text c =
    let t = YieldsList-end (YieldsList-from_chars c.args.name.now c.utf8.name cc) c.loop-ch.yielded _ c.loop-ch.yielded_by _ _ c.in-None.is c.next.ensures.steps in
    c.put_last-len.ensures.text
    ∙ ap (λ rest. take c.loop-ch.at c.loop-ch.bytes ++ encode_utf8_all (spelled_after c.loop-ch.pending rest)) (sym (rest_after _ _ t.1))
    ∙ c.loop-ch.invariant.text
