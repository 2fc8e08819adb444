use Rattle.std.proofs.Common.{◌≡◌, ◌++◌, ◌∷◌, map, sym, ap, ◌∙◌}
use Rattle.std.specs.Fmt.{decimal}
use Rattle.std.specs.List.{flat_map}
use Rattle.msi_values.specs.Datum.{text, with_commas}
use Rattle.msi_values.proofs.Commas.{with_commas-cons}
use Rattle.msi_values.proofs.value.Value.languages.Goals as goal

pub returns-clause-value : goal.returns-clause-value
returns-clause-value c =
    let cut : c.args.languages.now ≡ c.in-Some.first.now ∷ c.in-Some.others.now = c.in-Some.ensures.cases.0 in
    ap text (c.in_ok-push_others.ensures
    ∙ ap (λ w. w ++ flat_map (λ y. 44 ∷ decimal y) c.in-Some.others.now) c.in_ok-words.ensures.ok
    ∙ sym (with_commas-cons decimal c.in-Some.first.now c.in-Some.others.now)
    ∙ ap (λ ls. with_commas (map decimal ls)) (sym cut))
