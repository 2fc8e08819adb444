use Rattle.std.proofs.Common.{chars, string_bytes, arith, ◌∙◌, ap, refl}
use Rattle.std.proofs.lemmas.Str.{chars-nil, IsUtf8-string_bytes}
use Rattle.cfb_entries.proofs.Texts.{child_chars, longer_prefix}
use Rattle.cfb_entries.proofs.listing.prefix_of.Goals as goal

pub loop-name-preserved : goal.loop-name-preserved
loop-name-preserved c =
    let text = c.loop-name.text in
    child_chars (string_bytes text) _ _ (string_bytes text) _ _ (IsUtf8-string_bytes text) refl c.in_ok-push.ensures.bytes (c.push.ensures.ascii (omega arith)) c.in_ok-push_str.ensures.bytes
    ∙ longer_prefix c.args.names.now c.loop-name.name-index _ c.loop-name-test.true _ c.loop-name.invariant

pub loop-name-init : goal.loop-name-init
loop-name-init c = ap chars c.new-text.ensures.bytes ∙ chars-nil
