use Rattle.std.proofs.Common.{◌∙◌, ap, cond, chars, string_bytes, [], sym}
use Rattle.std.proofs.lemmas.Str.{chars-nil}
use Rattle.cfb_entries.proofs.entry.Entry.prefix.Goals as goal

pub returns-then-is_root : goal.returns-then-is_root
returns-then-is_root c = chars-nil ∙ ap (λ b. cond b [] (chars (string_bytes c.args.self.now.path))) (sym (sym c.is_root.ensures ∙ c.if-is_root.true))
