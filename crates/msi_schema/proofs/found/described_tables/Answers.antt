use Rattle.std.proofs.Common.{◌≡◌, ◌∙◌, ◌+◌, Some, None, true, ap, get_or, inl, inr, length, refl, subst, sym, take, ⊎_elim, Vec, List}
use Rattle.std.specs.Prelude.{filter, is_some}
use Rattle.std.specs.List.{list_all, list_any}
use Rattle.std.specs.declared.alloc.Global.{Global}
use Rattle.std.proofs.lemmas.List.{take_all}
use Rattle.std.proofs.lemmas.Map.Text.{btree_map_updates_str}
use Rattle.msi_values.specs.Borrowed.{borrowed_data}
use Rattle.msi_values.specs.Datum.{null}
use Rattle.msi_values.specs.declared.borrowed.BorrowedValue.{BorrowedValue}
use Rattle.msi_columns.specs.Held.{columns_of}
use Rattle.msi_tables.specs.Schema.{begins_with, names_described, schema_of}
use Rattle.msi_schema.specs.Columns.{text_in}
use Rattle.msi_schema.specs.Headings.{at_text, AreColumnsOfTables}
use Rattle.msi_schema.specs.Index.{rows_said}
use Rattle.msi_schema.proofs.FoundMore.{found_put, found_still, still_described}
use Rattle.msi_schema.proofs.Judged.{all_more, passed_on, refused_none, row_fails, row_passes, rows_more, taken_some, Refuses}
use Rattle.msi_schema.proofs.Told.{asked_more, begins, bytes_same, counted_at, describes, describes_none}
use Rattle.msi_schema.proofs.found.described_tables.Goals as goal

pub returns-in_default-clause-errors : goal.returns-in_default-clause-errors
returns-in_default-clause-errors c = λ rows others one other counted.
    let ds = borrowed_data c.row-item.result.items in
    let none : None ≡ text_in (get_or ds 0 null) = c.in_default.ensures ∙ ap text_in c.value_at.ensures ∙ ap (λ r. text_in (get_or (borrowed_data r) 0 null)) c.deref.ensures.value in
    inr (refl, row_fails (names_described rows others) c.args.tables.now c.loop-row.row-index c.row-item.result c.loop-row-test.true c.row-item.is (describes_none ds none rows others))

pub loop-row-preserved-then-contains_key : goal.loop-row-preserved-then-contains_key
loop-row-preserved-then-contains_key c = λ rows others one other counted.
    let tables = c.args.tables.now in
    let i = c.loop-row.row-index in
    let t = c.in-Some.name.now in
    let ds = borrowed_data c.row-item.result.items in
    let done = rows_said (take i tables) in
    let has : Some t ≡ text_in (get_or ds 0 null) = c.in-Some.ensures ∙ ap text_in c.value_at.ensures ∙ ap (λ r. text_in (get_or (borrowed_data r) 0 null)) c.deref.ensures.value in
    let step = rows_more tables i c.row-item.result c.loop-row-test.true c.row-item.is in
    let before = c.loop-row.invariant rows others one other counted in
    let here : is_some (at_text c.loop-row.found t) ≡ true = sym c.contains_key.ensures ∙ c.if-contains_key.true in (
      ap (list_all (names_described rows others)) step
          ∙ all_more (names_described rows others) done ds before.0
          (describes ds t has rows others ∙ still_described (λ name. list_any (begins_with name) done) (schema_of rows others) c.loop-row.found t before.1 here),
      found_still (λ name. list_any (begins_with name) done) (λ name. list_any (begins_with name) (rows_said (take (i + 1) tables))) (schema_of rows others) c.loop-row.found t before.1 here
          (λ name. ap (list_any (begins_with name)) step ∙ asked_more ds t has done name),
    )

pub returns-in_err-described-clause-errors : goal.returns-in_err-described-clause-errors
returns-in_err-described-clause-errors c = λ rows others one other counted.
    let tables = c.args.tables.now in
    let t = c.in-Some.name.now in
    let ds = borrowed_data c.row-item.result.items in
    let e = c.in_err-described.field-0.0 in
    let has : Some t ≡ text_in (get_or ds 0 null) = c.in-Some.ensures ∙ ap text_in c.value_at.ensures ∙ ap (λ r. text_in (get_or (borrowed_data r) 0 null)) c.deref.ensures.value in
    let here : list_any (begins_with t) (rows_said tables) ≡ true =
    row_passes (begins_with t) tables c.loop-row.row-index c.row-item.result c.loop-row-test.true c.row-item.is (begins ds t has t ∙ bytes_same t) in
    let count : at_text c.args.counts.now t ≡ Some (length (filter (begins_with t) rows)) = counted_at rows (rows_said tables) t c.args.counts.now counted here in
    passed_on c.from_residual.result e (Refuses (list_all (names_described rows others) (rows_said tables))) c.from_residual.ensures.1
    (⊎_elim (λ memory. inl memory)
    (λ refused.
    let none = refused_none (schema_of rows others t) e refused in
    inr (none.0, row_fails (names_described rows others) tables c.loop-row.row-index c.row-item.result c.loop-row-test.true c.row-item.is (describes ds t has rows others ∙ ap is_some none.1)))
    (c.in_err-described.ensures rows others one other count))

pub loop-row-preserved : goal.loop-row-preserved
loop-row-preserved c = λ rows others one other counted.
    let tables = c.args.tables.now in
    let i = c.loop-row.row-index in
    let t = c.in-Some.name.now in
    let ds = borrowed_data c.row-item.result.items in
    let done = rows_said (take i tables) in
    let cs = c.in_ok-described.described in
    let has : Some t ≡ text_in (get_or ds 0 null) = c.in-Some.ensures ∙ ap text_in c.value_at.ensures ∙ ap (λ r. text_in (get_or (borrowed_data r) 0 null)) c.deref.ensures.value in
    let step = rows_more tables i c.row-item.result c.loop-row-test.true c.row-item.is in
    let before = c.loop-row.invariant rows others one other counted in
    let here : list_any (begins_with t) (rows_said tables) ≡ true =
    row_passes (begins_with t) tables i c.row-item.result c.loop-row-test.true c.row-item.is (begins ds t has t ∙ bytes_same t) in
    let count : at_text c.args.counts.now t ≡ Some (length (filter (begins_with t) rows)) = counted_at rows (rows_said tables) t c.args.counts.now counted here in
    let told : schema_of rows others t ≡ Some (columns_of cs.items) = taken_some (schema_of rows others t) (columns_of cs.items) (c.in_ok-described.ensures rows others one other count) in (
      ap (list_all (names_described rows others)) step ∙ all_more (names_described rows others) done ds before.0 (describes ds t has rows others ∙ ap is_some told),
      found_put (λ name. list_any (begins_with name) done) (λ name. list_any (begins_with name) (rows_said (take (i + 1) tables))) (schema_of rows others) (schema_of rows others)
          c.loop-row.found c.insert.new.self t cs before.1 (btree_map_updates_str t c.loop-row.found c.insert.new.self (Some cs) c.in_ok-insert.ensures.updates)
          (λ name. ap (list_any (begins_with name)) step ∙ asked_more ds t has done name) told (λ name apart. refl),
    )

pub returns-clause-ok : goal.returns-clause-ok
returns-clause-ok c = λ rows others one other counted.
    let all : take c.loop-row.row-index c.args.tables.now ≡ c.args.tables.now = take_all c.loop-row.row-index c.args.tables.now c.loop-row-test.false in
    subst (λ (ts : List (Vec BorrowedValue Global)). (list_all (names_described rows others) (rows_said ts) ≡ true) × AreColumnsOfTables (λ name. list_any (begins_with name) (rows_said ts)) (schema_of rows others) c.loop-row.found)
    all (c.loop-row.invariant rows others one other counted)
