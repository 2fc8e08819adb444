use Rattle.std.proofs.Common.{◌+◌, ◌-◌, ◌∙◌, ap, sym, length}
use Rattle.std.specs.Prelude.{◌&&◌, nat_le}
use Rattle.msi_texts.proofs.ShortNames.{short_dotted, short_plain}
use Rattle.msi_texts.proofs.category.is_short_name.Goals as goal

pub returns-in-None : goal.returns-in-None
returns-in-None c = c.is_stem_len-in-None.ensures ∙ sym (short_plain c.args.bytes.now c.in-None.ensures.none)

pub returns-then-is_stem_len : goal.returns-then-is_stem_len
returns-then-is_stem_len c =
    let bytes = c.args.bytes.now in
    let dot = c.in-Some.dot in
    ap (λ b. b && nat_le (length bytes - (dot + 1)) 3) c.if-is_stem_len.ensures ∙ sym (short_dotted bytes dot c.in-Some.ensures.dot.0 c.in-Some.ensures.dot.1 c.in-Some.ensures.last)

pub returns-else-is_stem_len : goal.returns-else-is_stem_len
returns-else-is_stem_len c =
    let bytes = c.args.bytes.now in
    let dot = c.in-Some.dot in
    c.if-is_stem_len.false ∙ ap (λ b. b && nat_le (length bytes - (dot + 1)) 3) c.if-is_stem_len.ensures ∙ sym (short_dotted bytes dot c.in-Some.ensures.dot.0 c.in-Some.ensures.dot.1 c.in-Some.ensures.last)
