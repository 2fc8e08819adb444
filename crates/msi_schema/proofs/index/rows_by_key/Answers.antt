use Rattle.std.proofs.Common.{◌≡◌, ◌∙◌, ◌+◌, ◌++◌, ◌∷◌, [], List, Vec, ap, drop, false, map, subst, sym, take}
use Rattle.std.proofs.lemmas.List.{map-append, map_more, take-append-drop}
use Rattle.std.specs.declared.alloc.Global.{Global}
use Rattle.msi_values.specs.Borrowed.{borrowed_data}
use Rattle.msi_values.specs.Datum.{Datum}
use Rattle.msi_values.specs.declared.borrowed.BorrowedValue.{BorrowedValue}
use Rattle.msi_tables.specs.Table.{are_distinct}
use Rattle.msi_schema.specs.Index.{IsIndex, rows_said}
use Rattle.msi_schema.proofs.Indexed.{front_twice, is_new, one_more, stands}
use Rattle.msi_schema.proofs.index.rows_by_key.Goals as goal

abbrev said_one : Vec BorrowedValue Global → List Datum
said_one row = borrowed_data row.items

pub returns-in-Some-clause-ok : goal.returns-in-Some-clause-ok
returns-in-Some-clause-ok c =
    let rows = c.args.rows.now in
    let i = c.loop-row.row-index in
    let n = c.args.width in
    let done = rows_said (take i rows) in
    let said : borrowed_data c.in_ok-key.key.items ≡ take n (borrowed_data c.as_slice.result.now) =
    c.in_ok-key.ensures.ok ∙ ap (λ r. take n (borrowed_data r)) (c.deref.ensures.value ∙ sym c.as_slice.ensures.value) in
    let step : rows_said (take (i + 1) rows) ≡ done ++ borrowed_data c.as_slice.result.now ∷ [] =
    map_more said_one rows i c.row-item.result c.loop-row-test.true ∙ ap (λ r. done ++ said_one r ∷ []) (sym c.row-item.is) ∙ ap (λ xs. done ++ borrowed_data xs ∷ []) (sym c.as_slice.ensures.value) in
    let twice = stands n done c.loop-row.index c.loop-row.invariant.told c.in_ok-key.key c.as_slice.result said c.in-Some.field-0 (sym c.in_ok-insert.ensures.old ∙ c.in-Some.is) in
    let here : are_distinct (map (take n) (rows_said (take (i + 1) rows))) ≡ false = ap (λ ks. are_distinct (map (take n) ks)) step ∙ twice in
    let whole : map (take n) (rows_said rows) ≡ map (take n) (rows_said (take (i + 1) rows)) ++ map (take n) (rows_said (drop (i + 1) rows)) =
    ap (λ rs. map (take n) (rows_said rs)) (sym (take-append-drop (i + 1) rows))
    ∙ ap (map (take n)) (map-append said_one (take (i + 1) rows) (drop (i + 1) rows))
    ∙ map-append (take n) (rows_said (take (i + 1) rows)) (rows_said (drop (i + 1) rows)) in
    ap are_distinct whole ∙ front_twice (map (take n) (rows_said (take (i + 1) rows))) (map (take n) (rows_said (drop (i + 1) rows))) here

pub loop-row-preserved : goal.loop-row-preserved
loop-row-preserved c =
    let rows = c.args.rows.now in
    let i = c.loop-row.row-index in
    let n = c.args.width in
    let done = rows_said (take i rows) in
    let said : borrowed_data c.in_ok-key.key.items ≡ take n (borrowed_data c.as_slice.result.now) =
    c.in_ok-key.ensures.ok ∙ ap (λ r. take n (borrowed_data r)) (c.deref.ensures.value ∙ sym c.as_slice.ensures.value) in
    let step : rows_said (take (i + 1) rows) ≡ done ++ borrowed_data c.as_slice.result.now ∷ [] =
    map_more said_one rows i c.row-item.result c.loop-row-test.true ∙ ap (λ r. done ++ said_one r ∷ []) (sym c.row-item.is) ∙ ap (λ xs. done ++ borrowed_data xs ∷ []) (sym c.as_slice.ensures.value) in
    let absent = sym c.in_ok-insert.ensures.old ∙ c.in-None.is in
    record {
      fresh = ap (λ ks. are_distinct (map (take n) ks)) step ∙ is_new n done c.loop-row.index c.loop-row.invariant.told c.in_ok-key.key c.as_slice.result said absent c.loop-row.invariant.fresh;
      told = subst (λ (ks : List (List Datum)). IsIndex n ks c.insert.new.self) (sym step)
          (one_more n done c.loop-row.index c.loop-row.invariant.told c.in_ok-key.key c.as_slice.result said absent c.insert.new.self c.in_ok-insert.ensures.updates.0);
    }
