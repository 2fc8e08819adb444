use Rattle.std.proofs.Common.{rules, sym, ap, subst, subst₂, ◌∙◌}
use Rattle.std.specs.Fmt.{IsFlush, HasWrittenStyled}
use Rattle.msi_values.specs.Layout.{first_of}
use Rattle.msi_values.proofs.QuotedText.{if_quoted, written_first, kept_in_writes}
use Rattle.msi_values.proofs.quoted.write_start.Goals as goal

pub returns : goal.returns
returns g c = if_quoted c.args.text.now _ _ (λ bs ascii k flush ok.
    let write = g.W.Write.write_str_gives in
    let given = c.new-out.ensures.writer in
    let back = c.into_inner-to.ensures in
    let w = (k c.new-out.ensures.plain ok).wrote in
    let same = kept_in_writes (λ s. s.to.ghost_name) _ (λ s more t took. took.0) _ bs _ w in
    let first = written_first write (λ s. s.to.now) (λ s. s.left) _ (λ s more t took. took.1) _ bs _ w ascii (subst (λ s. IsFlush s.to.now) (sym given) flush) in
    let name = ap (λ s. s.to.ghost_name) back ∙ same ∙ ap (λ s. s.to.ghost_name) given in
    let written = subst₂ (λ s t. HasWrittenStyled write s.to.now (first_of s.left bs) t.to.now) given (sym back) first in
    search rules)
    c.write-result.ensures.writes
