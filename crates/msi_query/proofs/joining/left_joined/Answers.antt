use Rattle.std.specs.Prelude.{replicate}
use Rattle.std.proofs.Common.{◌≡◌, ◌∙◌, sym, ap, ap₂, map, ◌++◌, [], length, true}
use Rattle.std.proofs.lemmas.List.{length-map, map-append}
use Rattle.msi_expr.specs.Formula.{formula_of}
use Rattle.msi_query.proofs.Pairs.{left_done}
use Rattle.msi_query.specs.Answered.{answered}
use Rattle.msi_pool.specs.declared.stringref.ValueRef.TheVariants as cell
use Rattle.msi_expr.specs.Conditions.{has_named_columns}
use Rattle.msi_query.specs.Query.{or_once, pairs_with, side_columns}
use Rattle.msi_columns.specs.Column.{side_column, but_null}
use Rattle.std.specs.List.{flat_map}
use Rattle.std.specs.Rc.{rc_value}
use Rattle.msi_columns.specs.Held.{column_of, columns_of}
use Rattle.msi_tables.specs.Held.{heading_of, rows_held}
use Rattle.msi_query.proofs.joining.left_joined.Goals as goal

pub returns-clause-answer : goal.returns-clause-answer
returns-clause-answer c =
    let l = answered c.args.left in
    let r = answered c.args.right in
    let h = heading_of c.from_parts-table.result in
    let on = formula_of c.args.on.now in
    let made : h ≡ _ = c.from_parts-table.ensures in
    let own : columns_of c.in_ok-columns.columns.items ≡ side_columns l =
    c.in_ok-columns.ensures.ok ∙ ap₂ (λ name cs. map (side_column name) cs) c.name.ensures c.columns.ensures in
    let others : columns_of c.in_ok-others.others.items ≡ map but_null (side_columns r) =
    c.in_ok-others.ensures.ok ∙ ap₂ (λ name cs. map but_null (map (side_column name) cs)) c.name-2.ensures c.columns-2.ensures in
    let columns : h.columns ≡ side_columns l ++ map but_null (side_columns r) =
    ap (λ x. x.columns) made ∙ ap columns_of c.in_ok-append.ensures.items ∙ map-append column_of c.in_ok-columns.columns.items c.in_ok-others.others.items ∙ ap₂ (λ xs ys. xs ++ ys) own others in
    let known : has_named_columns h.columns on ≡ true = sym c.in_ok-knows.ensures.ok ∙ c.if-not-branch.false in
    let many : length c.columns-width.result.now ≡ length r.columns = sym (length-map c.columns-width.result.now column_of) ∙ ap length c.columns-width.ensures in
    let name : h.name ≡ [] = ap (λ x. x.name) made ∙ c.new.ensures.bytes in
    let shared : (heading_of (rc_value c.in_ok-shared.shared)).columns ≡ h.columns = ap (λ t. (heading_of t).columns) c.in_ok-shared.ensures.ok ∙ ap (λ x. x.columns) c.in_ok-clone.ensures.ok in
    let rows : rows_held c.in_ok-rows.rows.items ≡ flat_map (λ row. or_once (row ++ replicate (length c.columns-width.result.now) cell.Null) (pairs_with c.args.pool.now.pool h.columns on r.rows row)) l.rows =
    c.in_ok-rows.ensures.ok
    ∙ ap (λ cs. flat_map (λ row. or_once (row ++ replicate (length c.columns-width.result.now) cell.Null) (pairs_with c.args.pool.now.pool cs on (rows_held c.deref-2.result.now) row)) (rows_held c.deref.result.now)) shared
    ∙ ap₂ (λ xs ys. flat_map (λ row. or_once (row ++ replicate (length c.columns-width.result.now) cell.Null) (pairs_with c.args.pool.now.pool h.columns on (rows_held xs) row)) (rows_held ys)) c.deref-2.ensures.value c.deref.ensures.value in
    left_done c.args.pool.now.pool on l r h.name h.columns (length c.columns-width.result.now) (rows_held c.in_ok-rows.rows.items) name columns known many rows
