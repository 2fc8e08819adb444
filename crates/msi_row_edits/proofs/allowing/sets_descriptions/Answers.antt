use Rattle.std.proofs.Common.{◌≡◌, ◌∙◌, ℕ, Bool, List, Vec, ap, inl, inr, subst, sym, true, Result, Ok, Err}
use Rattle.std.specs.Prelude.{◌&&◌, IfOk, Option}
use Rattle.std.specs.List.{list_all}
use Rattle.std.specs.Rc.{rc_value}
use Rattle.std.specs.declared.alloc.Global.{Global}
use Rattle.cfb_medium.specs.declared.error.Error.{Error}
use Rattle.msi_changes.specs.Applied.{with_rows}
use Rattle.msi_changes.specs.Changes.{is_valid_set, updated}
use Rattle.msi_changes.specs.Said.{update_condition, update_sets}
use Rattle.msi_changes.specs.Prepared.{pool_after}
use Rattle.msi_columns.specs.Column.{column_place, Column}
use Rattle.msi_row_edits.specs.Allowed.{closed_from}
use Rattle.msi_expr.specs.Conditions.{knows_condition}
use Rattle.msi_expr.specs.Formula.{Formula}
use Rattle.msi_spec.specs.Calls.{is_column_at}
use Rattle.msi_pool.specs.declared.stringref.ValueRef.{ValueRef}
use Rattle.msi_tables.specs.Held.{heading_of, rows_held}
use Rattle.msi_pool.specs.Pool.{Pool}
use Rattle.msi_tables.specs.Rows.{Row}
use Rattle.msi_tables.specs.Table.{Heading}
use Rattle.msi_values.specs.Datum.{Datum}
use Rattle.msi_row_edits.proofs.Closed.{tried_done, tried_refused}
use Rattle.msi_row_edits.proofs.allowing.sets_descriptions.Goals as goal
use Rattle.msi_row_edits.proofs.allowing.sets_descriptions.Goals.{in-Memory, in_default-error}

-- whether the tried update is of the tenth column
abbrev Told : List (List ℕ × Datum) → Option Formula → List Column → Bool → Type 0
Told sets condition columns is = is ≡ (list_all (is_valid_set columns) sets && knows_condition columns condition && list_all (λ s. is_column_at 9 (column_place columns s.0)) sets)

pub returns-clause-ok : goal.returns-clause-ok
returns-clause-ok c =
    let h : Heading = heading_of (rc_value c.in_ok-closed.closed) in
    let sets = update_sets c.args.update.now in
    let condition = update_condition c.args.update.now in
    let pool = c.args.pool.now.pool in
    let x : List Row × Pool = (rows_held c.in_default.field-0.0.items, pool_after c.args.pool.now c.in_default.field-0.1) in
    let same : h.columns ≡ closed_from 0 (heading_of c.args.table.now).columns = ap (λ (x : Heading). x.columns) c.in_ok-closed.ensures.ok ∙ c.in_ok-columns.ensures.ok ∙ ap (closed_from 0) c.columns.ensures in
    tried_done (heading_of c.args.table.now).columns pool h sets condition same x
    (subst (λ (rs : List (Vec ValueRef Global)). updated true pool (with_rows h (rows_held rs)) sets condition ≡ Ok x) c.new-2.ensures.items c.in_default.ensures.updates)

pub returns-in-Err-clause-ok : goal.returns-in-Err-clause-ok
returns-in-Err-clause-ok c =
    let h : Heading = heading_of (rc_value c.in_ok-closed.closed) in
    let columns = (heading_of c.args.table.now).columns in
    let sets = update_sets c.args.update.now in
    let condition = update_condition c.args.update.now in
    let pool = c.args.pool.now.pool in
    let same : h.columns ≡ closed_from 0 columns = ap (λ (x : Heading). x.columns) c.in_ok-closed.ensures.ok ∙ c.in_ok-columns.ensures.ok ∙ ap (closed_from 0) c.columns.ensures in
    elim c.match-error.branch [
      | in-Memory w ↦ subst (λ (r : Result Bool Error). IfOk r (Told sets condition columns)) (sym w.result-is) tt
      | in_default-error w ↦ elim c.in-Err.ensures.updates [
        | inl memory ↦ absurd (w.in_default-error.not-Memory memory)
        | inr is ↦ subst (λ (r : Result Bool Error). IfOk r (Told sets condition columns)) (sym w.result-is)
            (tried_refused columns pool h sets condition same c.in-Err.error (subst (λ (rs : List (Vec ValueRef Global)). updated true pool (with_rows h (rows_held rs)) sets condition ≡ Err c.in-Err.error) c.new-2.ensures.items is))
      ]
    ]
