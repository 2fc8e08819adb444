use Rattle.std.proofs.Common.{◌≡◌, length, sym, ◌∙◌, unwrap_or}
use Rattle.std.specs.Str.{chars}
use Rattle.std.proofs.lemmas.Iterator.{YieldsList-from_chars}
use Rattle.std.proofs.lemmas.Iterator.Consumers.{count_from_yields_List}
use Rattle.std.proofs.lemmas.List.{length-map}
use Rattle.msi_texts.specs.Page.{byte_of}
use Rattle.msi_texts.proofs.codepage.CodePage.encoded_len.Goals as goal

pub returns-else-is_utf8 : goal.returns-else-is_utf8
returns-else-is_utf8 c =
    let counted : c.count.result ≡ length (chars c.args.text.now) = count_from_yields_List _ _ c.count.ensures.ran (YieldsList-from_chars c.args.text.now c.utf8.text cc) in
    rw (← c.is_utf8.ensures, c.if-is_utf8.false) (counted ∙ sym (length-map (chars c.args.text.now) (λ ch. unwrap_or (byte_of c.args.self ch) 63)))
