use Rattle.std.proofs.Common.{rules, ◌≡◌, ◌∙◌, ◌++◌, ◌∷◌, [], Some, ap, subst, string_bytes}
use Rattle.std.specs.Prelude.{option_map}
use Rattle.std.proofs.lemmas.Result.{on_ok_weaker}
use Rattle.idt_tables.specs.Lines.{text_of}
use Rattle.msi_props.specs.Held.{property_in}
use Rattle.idt_summaries.specs.Writing.{IsCell, is_exported, line_with}
use Rattle.idt_summaries.proofs.Written.{written_if}
use Rattle.idt_summaries.proofs.writing.push_property.Goals as goal

pub returns-in-Some : goal.returns-in-Some
returns-in-Some c =
    let cell = string_bytes c.in-Some.cell in
    let says : IsCell c.args.number (property_in c.args.value.now) (Some cell) = subst (λ o. IsCell c.args.number (property_in c.args.value.now) (option_map string_bytes o)) c.in-Some.is c.in_ok-cell.ensures in
    on_ok_weaker c.push_line.result
    (λ (h : string_bytes c.push_line.new.text ≡ string_bytes c.args.text.now ++ text_of (line_with c.args.number c.deref.result.now ∷ [])). (Some cell, written_if (is_exported c.args.number) c.args.number _ (Some cell) (search rules) says, h ∙ ap (λ t. string_bytes c.args.text.now ++ text_of (line_with c.args.number t ∷ [])) c.deref.ensures))
    c.push_line.ensures
