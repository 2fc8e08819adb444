use Rattle.std.proofs.Common.{◌≡◌, ◌∙◌, ◌+◌, ◌≤◌, Some, None, ap, arith, get_or, inr, length, refl, sym, take}
use Rattle.std.specs.List.{list_all}
use Rattle.std.proofs.lemmas.Map.Text.{btree_map_updates_str}
use Rattle.msi_values.specs.Borrowed.{borrowed_data}
use Rattle.msi_values.specs.Datum.{null}
use Rattle.msi_tables.specs.Schema.{is_of_listed}
use Rattle.msi_schema.specs.Columns.{text_in}
use Rattle.msi_schema.specs.Headings.{at_text, has_name}
use Rattle.msi_schema.specs.Index.{rows_said}
use Rattle.msi_schema.proofs.Judged.{all_more, right_false, row_fails, rows_more, said_length}
use Rattle.msi_schema.proofs.Told.{counted, counted_more, counts_few, few, of_none, row_listed, uncounted}
use Rattle.msi_schema.proofs.counts.row_counts.Goals as goal

pub returns-in_default-clause-errors : goal.returns-in_default-clause-errors
returns-in_default-clause-errors c =
    let tables = rows_said c.args.tables.now in
    let columns = c.args.columns.now in
    let ds = borrowed_data c.row-item.result.items in
    let none : None ≡ text_in (get_or ds 0 null) = c.in_default.ensures ∙ ap text_in c.value_at.ensures ∙ ap (λ r. text_in (get_or (borrowed_data r) 0 null)) c.deref.ensures.value in
    inr (
      refl,
      right_false (list_all has_name tables) (list_all (is_of_listed tables) (rows_said columns))
          (row_fails (is_of_listed tables) columns c.loop-row.row-index c.row-item.result c.loop-row-test.true c.row-item.is (of_none ds none tables)),
    )

pub returns-in_default-copied-clause-errors : goal.returns-in_default-copied-clause-errors
returns-in_default-copied-clause-errors c =
    let tables = rows_said c.args.tables.now in
    let columns = c.args.columns.now in
    let i = c.loop-row.row-index in
    let t = c.in-Some.name.now in
    let ds = borrowed_data c.row-item.result.items in
    let has : Some t ≡ text_in (get_or ds 0 null) = c.in-Some.ensures ∙ ap text_in c.value_at.ensures ∙ ap (λ r. text_in (get_or (borrowed_data r) 0 null)) c.deref.ensures.value in
    let none : None ≡ at_text c.loop-row.counts t = c.in_default-copied.ensures ∙ c.get.ensures.value in
    inr (
      refl,
      right_false (list_all has_name tables) (list_all (is_of_listed tables) (rows_said columns))
          (row_fails (is_of_listed tables) columns i c.row-item.result c.loop-row-test.true c.row-item.is
          (uncounted tables (rows_said (take i columns)) ds t has (at_text c.loop-row.counts) c.loop-row.invariant.told none)),
    )

pub overflow_add-count : goal.overflow_add-count
overflow_add-count c =
    let tables = rows_said c.args.tables.now in
    let columns = c.args.columns.now in
    let i = c.loop-row.row-index in
    let t = c.in-Some.name.now in
    let ds = borrowed_data c.row-item.result.items in
    let has : Some t ≡ text_in (get_or ds 0 null) = c.in-Some.ensures ∙ ap text_in c.value_at.ensures ∙ ap (λ r. text_in (get_or (borrowed_data r) 0 null)) c.deref.ensures.value in
    let is : Some c.in-Some-copied.count ≡ at_text c.loop-row.counts t = c.in-Some-copied.ensures ∙ c.get.ensures.value in
    let low : c.in-Some-copied.count ≤ length (rows_said (take i columns)) = few tables (rows_said (take i columns)) ds t has (at_text c.loop-row.counts) c.loop-row.invariant.told c.in-Some-copied.count is in
    let all : length columns ≤ 65536 = c.requires in
    omega (arith, low, said_length i columns, all)

pub loop-row-preserved : goal.loop-row-preserved
loop-row-preserved c =
    let tables = rows_said c.args.tables.now in
    let columns = c.args.columns.now in
    let i = c.loop-row.row-index in
    let t = c.in-Some.name.now in
    let ds = borrowed_data c.row-item.result.items in
    let n = c.in-Some-copied.count in
    let old = c.loop-row.counts in
    let has : Some t ≡ text_in (get_or ds 0 null) = c.in-Some.ensures ∙ ap text_in c.value_at.ensures ∙ ap (λ r. text_in (get_or (borrowed_data r) 0 null)) c.deref.ensures.value in
    let is : Some n ≡ at_text old t = c.in-Some-copied.ensures ∙ c.get.ensures.value in
    let step = rows_more columns i c.row-item.result c.loop-row-test.true c.row-item.is in
    record {
      listed = ap (list_all (is_of_listed tables)) step
          ∙ all_more (is_of_listed tables) (rows_said (take i columns)) ds c.loop-row.invariant.listed (row_listed tables (rows_said (take i columns)) ds t has (at_text old) c.loop-row.invariant.told n is);
      told = λ name.
          counted_more tables (rows_said (take i columns)) ds t has (at_text old) c.loop-row.invariant.told n is (at_text c.insert.new.self)
          (btree_map_updates_str t old c.insert.new.self (Some (n + 1)) c.in_ok-insert.ensures.updates) name
          ∙ ap (λ rs. counted tables rs name) (sym step);
    }

pub returns-clause-few : goal.returns-clause-few
returns-clause-few c = λ name.
    let columns = c.args.columns.now in
    let i = c.loop-row.row-index in
    let all : length columns ≤ 65536 = c.requires in
    let short : length (rows_said (take i columns)) ≤ 65536 = omega (arith, said_length i columns, all) in
    counts_few (rows_said c.args.tables.now) (rows_said (take i columns)) 65536 short (at_text c.loop-row.counts name) name (c.loop-row.invariant.told name)
