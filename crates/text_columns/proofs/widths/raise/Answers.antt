use Rattle.std.proofs.Common.{◌≡◌, ◌∙◌, arith, ap, get_or, max, set}
use Rattle.std.proofs.lemmas.Grind.{common_steps}
use Rattle.text_columns.proofs.Widening.{raised_there, raised_next}
use Rattle.text_columns.proofs.widths.raise.Goals as goal

pub returns-in-Some : goal.returns-in-Some
returns-in-Some c =
    let ws = c.args.widths.now.items in
    let old : c.in-Some.old.now ≡ get_or ws c.args.place 0 = grind (arith, common_steps, c.in-Some.ensures) in
    let raised : c.max.result ≡ max (get_or ws c.args.place 0) c.args.width = c.max.ensures ∙ ap (λ n. max n c.args.width) old in
    ap (λ n. set ws c.args.place n) raised ∙ raised_there ws c.args.place c.args.width (grind (arith, common_steps, c.get_mut.follows, c.in-Some.is))

pub returns-in_ok-push-in-None : goal.returns-in_ok-push-in-None
returns-in_ok-push-in-None c =
    let ws = c.args.widths.now.items in
    c.in_ok-push-in-None.ensures.items ∙ raised_next ws c.args.place c.args.width (grind (arith, common_steps, c.in-None.ensures))
