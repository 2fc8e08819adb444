use Rattle.std.proofs.Common.{◌∙◌, sym, inl, inr, ⊎_elim}
use Rattle.std.proofs.lemmas.Bool.{lt-leb, le-leb}
use Rattle.msi_changes.specs.Applied.{with_rows}
use Rattle.msi_changes.specs.Stored.{stored_keys}
use Rattle.msi_changes.proofs.Inserting.{invalid, broken, repeated, many, rows_valid, keys_judged, count_known}
use Rattle.msi_changes.proofs.insert.judge.Goals as goal

pub returns-then-not-are_rows-clause-refused_only_if : goal.returns-then-not-are_rows-clause-refused_only_if
returns-then-not-are_rows-clause-refused_only_if c =
    let s = c.args.stored.now in
    inr (invalid s.pool.pool (with_rows s.heading s.rows) _
    (rows_valid _ _ _ _ c.columns-columns.ensures (sym c.if-not-are_rows.true ∙ c.are_rows.ensures)))

pub returns-in-None-clause-refused_only_if : goal.returns-in-None-clause-refused_only_if
returns-in-None-clause-refused_only_if c =
    let s = c.args.stored.now in
    inr (broken s.pool.pool (with_rows s.heading s.rows) _
    (rows_valid _ _ _ _ c.columns-columns.ensures (sym c.if-not-are_rows.false ∙ c.are_rows.ensures))
    c.in-None.ensures)

pub returns-in-Err-clause-refused_only_if : goal.returns-in-Err-clause-refused_only_if
returns-in-Err-clause-refused_only_if c =
    let s = c.args.stored.now in
    ⊎_elim (λ memory. inl memory) (λ refused. inr (repeated s.pool.pool (with_rows s.heading s.rows) _ _
    (rows_valid _ _ _ _ c.columns-columns.ensures (sym c.if-not-are_rows.false ∙ c.are_rows.ensures))
    c.in-Some.ensures.0
    (keys_judged _ _ (stored_keys s) _ _ _ _ c.columns-columns.ensures c.in-Some.ensures.1 c.in_ok-new.ensures.ok refused))) c.in-Err.ensures.errors

pub returns-then-rows-new_rows-gt-MAX_ROWS-clause-refused_only_if : goal.returns-then-rows-new_rows-gt-MAX_ROWS-clause-refused_only_if
returns-then-rows-new_rows-gt-MAX_ROWS-clause-refused_only_if c =
    let s = c.args.stored.now in
    inr (many s.pool.pool (with_rows s.heading s.rows) _
    (rows_valid _ _ _ _ c.columns-columns.ensures (sym c.if-not-are_rows.false ∙ c.are_rows.ensures))
    c.in-Some.ensures.0
    (keys_judged _ _ (stored_keys s) _ _ _ _ c.columns-columns.ensures c.in-Some.ensures.1 c.in_ok-new.ensures.ok c.in-Ok.ensures.ok)
    (count_known _ _ _ _ c.rows-rows.ensures (lt-leb _ _ c.if-rows-new_rows-gt-MAX_ROWS.true)))

pub returns-clause-accepted : goal.returns-clause-accepted
returns-clause-accepted c =
    let s = c.args.stored.now in
    record {
      valid = rows_valid _ _ _ _ c.columns-columns.ensures (sym c.if-not-are_rows.false ∙ c.are_rows.ensures);
      distinct = c.in-Some.ensures.0;
      new = keys_judged _ _ (stored_keys s) _ _ _ _ c.columns-columns.ensures c.in-Some.ensures.1 c.in_ok-new.ensures.ok c.in-Ok.ensures.ok;
      few = count_known _ _ _ _ c.rows-rows.ensures (le-leb _ _ c.if-rows-new_rows-gt-MAX_ROWS.false);
    }
