use Rattle.std.proofs.Common.{rules, ◌≡◌, ◌-◌, ◌^◌, true, cond, min, unwrap_or, length, sym, ap, ap₂, ◌∙◌, arith}
use Rattle.std.specs.Fmt.{debug_str, formatter_spec, padded}
use Rattle.std.proofs.Output.{has_written_styled_of_eq}
use Rattle.msi_values.proofs.QuotedText.{if_quoted, if_both, filled_is_padded, precision_told, width_told, not_from}
use Rattle.msi_values.proofs.quoted.write_quoted.Goals as goal

pub returns-clause-styled : goal.returns-clause-styled
returns-clause-styled g c = if_quoted c.args.text.now _ _ (λ bs ascii k aligned flush ok.
    let f = c.args.f.now in
    let most = c.unwrap_or-most.ensures ∙ ap (λ o. unwrap_or o (2 ^ 64 - 1)) c.precision.ensures.value ∙ precision_told f in
    let width = c.unwrap_or.ensures ∙ ap (λ o. unwrap_or o 0) c.width.ensures.value ∙ width_told f in
    let len : c.min-len.result ≡ min (length bs) c.unwrap_or-most.result = omega (arith, c.min-len.ensures, k.0, c.unwrap_or-most.type_inv) in
    let padding = c.saturating_sub-padding.ensures ∙ ap₂ (λ w n. w - n) width len in
    let asked : c.is_laid_out.result ≡ true = search rules in
    let styled = ap (λ b. cond b bs (padded (formatter_spec f) bs)) (sym (not_from _ _ c.is_laid_out.ensures asked)) in
    has_written_styled_of_eq _ _ _ _ _ (filled_is_padded f bs c.unwrap_or-most.result c.saturating_sub-padding.result ascii most padding ∙ styled) (k.1 aligned flush ok))
    (if_both _ _ (debug_str c.args.text.now) c.in_ok-quoted_len.ensures c.write_filled.ensures)
