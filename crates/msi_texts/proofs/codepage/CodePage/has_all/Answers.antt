use Rattle.std.proofs.Common.{rules, is_some}
use Rattle.std.proofs.lemmas.Iterator.{YieldsList-from_chars}
use Rattle.std.proofs.lemmas.Iterator.Search.{all_from_yields_List}
use Rattle.msi_texts.specs.Page.{byte_of}
use Rattle.msi_texts.proofs.codepage.CodePage.has_all.Goals as goal

pub returns : goal.returns
returns c = all_from_yields_List (λ ch. is_some (byte_of c.args.self ch)) _ _ _ c.all.ensures.ran (YieldsList-from_chars c.args.text.now c.utf8.text cc) (λ x b q k. search rules)
