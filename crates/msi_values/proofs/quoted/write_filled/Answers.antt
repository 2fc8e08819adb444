use Rattle.std.proofs.Common.{◌-◌, ◌++◌, take, refl, ap, ap₂, ◌∙◌}
use Rattle.std.specs.List.{repeat}
use Rattle.std.specs.Char.{encode_utf8}
use Rattle.std.proofs.Output.{has_written_styled_append, has_written_styled_of_eq}
use Rattle.msi_values.specs.Layout.{before_by}
use Rattle.msi_values.proofs.QuotedText.{if_quoted, aligned_before}
use Rattle.msi_values.proofs.quoted.write_filled.Goals as goal

pub returns : goal.returns
returns g c = if_quoted c.args.text.now _ _ (λ bs ascii k aligned flush ok.
    let x = c.in_ok-write_repeated.ensures.styled flush refl in
    let y = k x.flush refl in
    let z = c.write_repeated-2.ensures.styled y.flush ok in
    let before = c.before-before.ensures.value ∙ ap (λ a. before_by a c.args.padding) c.align.ensures ∙ aligned_before c.args.f.now c.args.padding aligned in
    let fill = c.encode_utf8-fill.ensures.value ∙ ap encode_utf8 c.fill.ensures in
    has_written_styled_of_eq _ _ _ _ _ (ap₂ (λ n one. repeat n one ++ (take c.args.most bs ++ repeat (c.args.padding - n) one)) before fill)
    (has_written_styled_append _ _ _ _ _ _ x (has_written_styled_append _ _ _ _ _ _ y z)))
    c.in_ok-write_start.ensures
