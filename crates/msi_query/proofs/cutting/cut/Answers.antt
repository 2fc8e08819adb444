use Rattle.std.proofs.Common.{◌≡◌, ◌∙◌, sym, subst, inr, map, true, false}
use Rattle.msi_query.specs.Answered.{answered}
use Rattle.msi_expr.specs.Conditions.{knows_condition, condition_of}
use Rattle.msi_texts.specs.Results.{ReturnsOrOutOfMemory}
use Rattle.msi_columns.specs.Column.{has_column}
use Rattle.msi_tables.specs.Held.{rows_held}
use Rattle.std.specs.List.{list_all}
use Rattle.std.specs.Prelude.{string_bytes}
use Rattle.msi_query.proofs.Parts.{cut_unnamed, cut_done}
use Rattle.std.proofs.lemmas.List.Folds.{list_all-map}
use Rattle.msi_query.proofs.cutting.cut.Goals as goal

pub returns-then-not-has_each-clause-answer : goal.returns-then-not-has_each-clause-answer
returns-then-not-has_each-clause-answer c =
    let t = answered c.args.found in
    let unknown : list_all (has_column t.columns) (map string_bytes c.args.names.now) ≡ false =
    list_all-map (has_column t.columns) string_bytes c.args.names.now ∙ sym c.has_each.ensures ∙ c.if-not-has_each.true in
    inr (cut_unnamed c.args.pool.now.pool (map string_bytes c.args.names.now) (condition_of c.args.condition.now) t unknown)

pub returns-clause-answer : goal.returns-clause-answer
returns-clause-answer c =
    let t = answered c.args.found in
    let named : list_all (has_column t.columns) (map string_bytes c.args.names.now) ≡ true =
    list_all-map (has_column t.columns) string_bytes c.args.names.now ∙ sym c.has_each.ensures ∙ c.if-not-has_each.false in
    let known : knows_condition t.columns (condition_of c.args.condition.now) ≡ true = sym c.in_ok-knows_condition.ensures.ok ∙ c.if-not-branch.false in
    let done = cut_done c.args.pool.now.pool (map string_bytes c.args.names.now) (condition_of c.args.condition.now) t (rows_held c.in_ok-rows.rows.items) named known c.in_ok-rows.ensures.ok in
    subst (ReturnsOrOutOfMemory answered c.projected_rows.result) (sym done) c.projected_rows.ensures.answer
