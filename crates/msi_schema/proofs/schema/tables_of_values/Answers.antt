use Rattle.std.proofs.Common.{◌≡◌, ◌∙◌, true, ap, inr, map, refl, sym, take}
use Rattle.std.specs.Prelude.{◌&&◌}
use Rattle.std.specs.List.{list_all}
use Rattle.std.specs.List.Sorted.{IsStrictlySortedBy}
use Rattle.std.specs.Ordering.{nat_cmp}
use Rattle.std.specs.Cmp.Lexicographic.{slice_cmp}
use Rattle.msi_tables.specs.Schema.{are_keys, is_filled, is_of_listed, is_schema, names_described}
use Rattle.msi_schema.specs.Headings.{has_name, headings_in, AreTold}
use Rattle.msi_schema.specs.Index.{rows_said}
use Rattle.msi_schema.proofs.FoundMore.{as_heading, told_so}
use Rattle.msi_schema.proofs.Judged.{all_hold, columns_unfilled, join_ok, passed_on, refuses_so, tables_keyless, uncounted, undescribed, whole_rows, Refuses}
use Rattle.msi_schema.proofs.schema.tables_of_values.Goals as goal

pub returns-in_err-rows_by_keys-clause-errors : goal.returns-in_err-rows_by_keys-clause-errors
returns-in_err-rows_by_keys-clause-errors c =
    let T = rows_said c.args.tables.now in
    let C = rows_said c.args.columns.now in
    let V = rows_said c.args.validation.now in
    let e = c.in_err-rows_by_keys.field-0.0 in
    passed_on c.from_residual.result e (Refuses (is_schema T C V)) c.from_residual.ensures.1
    (refuses_so (are_keys (map (take c.widest.result) T)) (is_schema T C V) e
    (λ fails. tables_keyless T C V (ap are_keys (sym (whole_rows c.args.tables.now c.widest.result c.widest.ensures)) ∙ fails)) c.in_err-rows_by_keys.ensures.errors)

pub returns-then-not-are_filled-clause-errors : goal.returns-then-not-are_filled-clause-errors
returns-then-not-are_filled-clause-errors c =
    inr (
      refl,
      columns_unfilled (rows_said c.args.tables.now) (rows_said c.args.columns.now) (rows_said c.args.validation.now)
          (ap (list_all (list_all is_filled)) (sym (whole_rows c.args.columns.now c.widest-2.result c.widest-2.ensures)) ∙ sym c.are_filled.ensures ∙ c.if-not-are_filled.true),
    )

pub returns-in_err-counts-clause-errors : goal.returns-in_err-counts-clause-errors
returns-in_err-counts-clause-errors c =
    let T = rows_said c.args.tables.now in
    let C = rows_said c.args.columns.now in
    let V = rows_said c.args.validation.now in
    let e = c.in_err-counts.field-0.0 in
    passed_on c.from_residual-in_err-counts.result e (Refuses (is_schema T C V)) c.from_residual-in_err-counts.ensures.1
    (refuses_so (list_all has_name T && list_all (is_of_listed T) C) (is_schema T C V) e (uncounted T C V) c.in_err-counts.ensures.errors)

pub returns-in_err-described-clause-errors : goal.returns-in_err-described-clause-errors
returns-in_err-described-clause-errors c =
    let T = rows_said c.args.tables.now in
    let C = rows_said c.args.columns.now in
    let V = rows_said c.args.validation.now in
    let e = c.in_err-described.field-0.0 in
    passed_on c.from_residual-in_err-described.result e (Refuses (is_schema T C V)) c.from_residual-in_err-described.ensures.1
    (refuses_so (list_all (names_described C V) T) (is_schema T C V) e (undescribed T C V)
    (c.in_err-described.ensures.errors C V c.in_ok-by_number.ensures.ok.1 c.in_ok-by_name.ensures.ok.1 c.in_ok-counts.ensures.ok.1))

pub returns-clause-ok : goal.returns-clause-ok
returns-clause-ok c =
    let T = rows_said c.args.tables.now in
    let C = rows_said c.args.columns.now in
    let V = rows_said c.args.validation.now in
    let found = c.in_ok-found.found in
    let told = c.in_ok-described.ensures.ok C V c.in_ok-by_number.ensures.ok.1 c.in_ok-by_name.ensures.ok.1 c.in_ok-counts.ensures.ok.1 in
    let schema : is_schema T C V ≡ true =
    all_hold T C V (ap are_keys (sym (whole_rows c.args.tables.now c.widest.result c.widest.ensures)) ∙ c.in_ok-rows_by_keys.ensures.ok.0) c.in_ok-by_number.ensures.ok.0
    (ap (list_all (list_all is_filled)) (sym (whole_rows c.args.columns.now c.widest-2.result c.widest-2.ensures)) ∙ sym c.are_filled.ensures ∙ c.if-not-are_filled.false)
    c.in_ok-counts.ensures.ok.0 c.in_ok-by_name.ensures.ok.0 told.0 in
    join_ok (λ tables. headings_in tables.items ≡ map (as_heading c.args.long) found.entries)
    (λ tables. IsStrictlySortedBy (λ x y. slice_cmp nat_cmp x.now y.now) (map (λ kept. kept.0) found.entries))
    (λ tables. (is_schema T C V ≡ true) × AreTold T C V c.args.long (headings_in tables.items))
    (λ tables is sorted. (schema, told_so T C V c.args.long found (headings_in tables.items) sorted (c.in_ok-found.ensures.ok T C V told.1) is))
    c.tables_of.result c.tables_of.ensures.ok c.tables_of.ensures.ordered
