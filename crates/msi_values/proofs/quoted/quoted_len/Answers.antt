use Rattle.std.proofs.Common.{◌^◌, ◌-◌, refl}
use Rattle.msi_values.proofs.QuotedText.{if_quoted, written_counted}
use Rattle.msi_values.proofs.quoted.quoted_len.Goals as goal

pub returns : goal.returns
returns c = if_quoted c.args.text.now _ _ (λ bs ascii w. written_counted (λ s. s.chars) _ (2 ^ 64 - 1) (λ s more t took a. took a) _ bs _ w ascii refl) c.in_ok-write.ensures.writes
