use Rattle.std.proofs.Common.{◌∙◌, ◌++◌, ℕ, Bool, List, Option, ap, map}
use Rattle.std.specs.Prelude.{is_some}
use Rattle.std.proofs.lemmas.Result.{on_ok_weaker}
use Rattle.package_rules.specs.Places.{numbered, place_if}
use Rattle.product_rules.specs.Trees.{above, is_endless, parent_by}
use Rattle.product_rules.proofs.trees.add_rows.Goals as goal

pub returns : goal.returns
returns c =
    let rows = c.args.rows.now in
    let parents =
    c.in_ok-parents.ensures ∙ ap (λ (named : List ℕ → Option ℕ). map (parent_by named c.args.own c.args.column_at) rows) (λ i q. c.in_ok-names.ensures q i) in
    on_ok_weaker c.add_where_some.result
    (λ e. e
    ∙ ap (λ (is_so : ℕ → Bool). c.args.found.now.items ++ numbered (λ j row. place_if (is_so j) c.args.table_at c.args.column_at j) rows)
    (λ i j. (ap (λ steps. is_some (above steps j)) c.deref.ensures.value ∙ c.in_ok-ends.ensures j ∙ ap (λ ps. is_endless ps j) parents) i))
    c.add_where_some.ensures
