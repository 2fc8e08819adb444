use Rattle.std.proofs.Common.{sym, ap, ◌∙◌, unwrap_or}
use Rattle.msi_texts.proofs.Tags.{tagged-by_ids}
use Rattle.msi_texts.proofs.language.LanguageId.from_tag.Goals as goal

pub returns : goal.returns
returns c = c.unwrap_or.ensures ∙ ap (λ o. unwrap_or o 0) c.tagged_id.ensures ∙ sym (tagged-by_ids c.args.tag.now)
