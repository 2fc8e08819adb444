use Rattle.std.proofs.Common.{◌∙◌, ◌++◌, [], ◌∷◌, map, ap, sym, append_assoc, append-nil}
use Rattle.std.proofs.lemmas.List.{map-append}
use Rattle.msi_tables.specs.RowsLeft.{rows_left}
use Rattle.msi_values.specs.Datum.{data_of}
use Rattle.msi_copies.proofs.copies.all_values.Goals as goal

pub loop-row-init : goal.loop-row-init
loop-row-init c =
    ap (λ vs. map (λ row. data_of row.items) vs ++ map (λ row. row.values) (rows_left c.into_iter-row-iterator.result)) c.new-values.ensures.items
    ∙ ap (λ it. map (λ row. row.values) (rows_left it)) c.into_iter-row-iterator.ensures.into_iter_gives

pub loop-row-preserved : goal.loop-row-preserved
loop-row-preserved c =
    let told = map (λ row. data_of row.items) c.loop-row.values.items in
    let left = map (λ row. row.values) (rows_left c.next.new.self) in
    ap (λ vs. map (λ row. data_of row.items) vs ++ left) c.in_ok-push.ensures.items
    ∙ ap (λ vs. vs ++ left) (map-append (λ row. data_of row.items) c.loop-row.values.items (c.in_ok-values_of.field-0 ∷ []))
    ∙ append_assoc told (data_of c.in_ok-values_of.field-0.items ∷ []) left
    ∙ ap (λ v. told ++ v ∷ left) c.in_ok-values_of.ensures.values
    ∙ ap (λ rows. told ++ map (λ row. row.values) rows) (sym c.in-Some.ensures.steps)
    ∙ c.loop-row.invariant

pub returns-clause-values : goal.returns-clause-values
returns-clause-values c =
    let told = map (λ row. data_of row.items) c.loop-row.values.items in
    sym (append-nil told)
    ∙ ap (λ rows. told ++ map (λ row. row.values) rows) (sym c.in-None.ensures.steps.0)
    ∙ c.loop-row.invariant
