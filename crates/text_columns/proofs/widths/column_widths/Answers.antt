use Rattle.std.proofs.Common.{◌≡◌, ◌∙◌, ◌+◌, ◌∷◌, ap, drop, List, map, subst, sym}
use Rattle.std.specs.Prelude.{Vec}
use Rattle.std.specs.declared.alloc.Global.{Global}
use Rattle.std.proofs.Math.ListN.{drop_of_length-le}
use Rattle.std.proofs.lemmas.List.{drop_more}
use Rattle.text_columns.proofs.Widening.{all_rows, one_row_more}
use Rattle.text_columns.specs.Columns.{cell_widths, wider, widths}
use Rattle.text_columns.specs.declared.cell.Cell.{Cell}
use Rattle.text_columns.proofs.widths.column_widths.Goals as goal

pub loop-row-preserved : goal.loop-row-preserved
loop-row-preserved c =
    let rows = c.args.rows.now in
    let i = c.loop-row.row-index in
    let item = c.row-item.result in
    let items : List (Vec Cell Global) → List (List Cell) = map (λ row. row.items) in
    let all = widths c.args.limit (c.args.heading.now ∷ items rows) in
    let more : items (drop i rows) ≡ item.items ∷ items (drop (i + 1) rows) =
    ap items (drop_more rows i item c.loop-row-test.true ∙ ap (λ r. r ∷ drop (i + 1) rows) (sym c.row-item.is)) in
    one_row_more c.args.limit c.loop-row.widths.items c.widen-in-loop-row.new.widths.items all (items (drop i rows)) (items (drop (i + 1) rows)) item.items more
    (subst (λ (cells : List Cell). c.widen-in-loop-row.new.widths.items ≡ wider c.loop-row.widths.items (cell_widths c.args.limit cells)) c.deref.ensures.value c.in_ok-widen-2.ensures)
    c.loop-row.invariant

pub returns : goal.returns
returns c =
    let rows = c.args.rows.now in
    let items : List (Vec Cell Global) → List (List Cell) = map (λ row. row.items) in
    all_rows c.args.limit c.loop-row.widths.items (widths c.args.limit (c.args.heading.now ∷ items rows)) (items (drop c.loop-row.row-index rows))
    (ap items (drop_of_length-le rows c.loop-row-test.false)) c.loop-row.invariant
