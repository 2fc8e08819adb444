use Rattle.std.proofs.Common.{rules, ◌∙◌, sym, ap, map, ◌∷◌, [], to_z-of_z}
use Rattle.std.specs.Int.{w32}
use Rattle.std.proofs.lemmas.List.{map-append}
use Rattle.idt_rows.specs.Rows.{datum_of, number, text}
use Rattle.idt_summaries.specs.Reading.{row_says}
use Rattle.msi_props.specs.Held.{pair_in}
use Rattle.idt_imports.proofs.summaries.push_cells.Goals as goal
use mir.Val.{SFits}

pub returns-in_ok-push-in-Text-2 : goal.returns-in_ok-push-in-Text-2
returns-in_ok-push-in-Text-2 c =
    let n = c.in-Number.number in
    let fits : SFits w32 n = search rules in
    let property = c.in_ok-property-in-Text.property in (
      pair_in property ∷ [],
      ap (λ d. row_says (d ∷ datum_of c.args.value.now ∷ [])) (ap datum_of c.in-Number.is)
          ∙ ap (λ d. row_says (number n ∷ d ∷ [])) (ap datum_of c.in-Text.is)
          ∙ ap (λ t. row_says (number n ∷ text t ∷ [])) (sym c.deref.ensures)
          ∙ ap (λ m. row_says (number m ∷ text c.deref.result.now ∷ [])) (sym (to_z-of_z fits))
          ∙ c.in_ok-property-in-Text.ensures,
      ap (map pair_in) c.in_ok-push-in-Text.ensures.items ∙ map-append pair_in c.args.summary.now.properties.items (property ∷ []),
    )
