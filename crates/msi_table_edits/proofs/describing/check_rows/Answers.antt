use Rattle.std.proofs.Common.{◌≡◌, ◌∙◌, ap, ap₂, inr, not, refl, sym, [], Option}
use Rattle.std.specs.Prelude.{option_map, unwrap_or}
use Rattle.std.specs.List.{list_any}
use Rattle.std.specs.Rc.{rc_value}
use Rattle.cfb.specs.Views.{file_case_table}
use Rattle.msi_columns.specs.Held.{column_of, columns_of}
use Rattle.msi_spec.specs.Package.{at_name, stream_name}
use Rattle.msi_tables.specs.Held.{heading_of}
use Rattle.msi_tables.specs.Table.{Heading, Table as TableNamed}
use Rattle.msi_table_edits.specs.Describing.{rows_of_values}
use Rattle.msi_table_edits.specs.Testing.{has_limits}
use Rattle.msi_table_edits.proofs.NotCreated.{too_many}
use Rattle.msi_table_edits.proofs.RowsChecked.{already_said, free_name, free_so, is_counting, limits_so, one_of, past_fit, past_others, room_so, rows_tested, storage_there, unfit_c, unfit_t, unfit_v}
use Rattle.msi_table_edits.proofs.describing.check_rows.Goals as goal

pub returns-then-not-are_rows-clause-answer : goal.returns-then-not-are_rows-clause-answer
returns-then-not-are_rows-clause-answer g c = λ tree P w m s same a found none r valid kept.
    let l = file_case_table c.args.file.now in
    let name = c.args.name.now in
    let cs = columns_of c.args.columns.now in
    let test_c = sym (rows_tested c.columns.result.now c.deref-2.result.now _ _ (c.columns.ensures ∙ ap (λ t. (heading_of t).columns) c.deref.ensures ∙ ap (λ (h : Heading). h.columns) a.columns) (ap rows_of_values c.deref-2.ensures.value ∙ r.columns_said)) ∙ sym c.are_rows.ensures ∙ c.if-not-are_rows.true in
    inr (unfit_c l P name cs w test_c)

pub returns-then-not-are_rows-2-clause-answer : goal.returns-then-not-are_rows-2-clause-answer
returns-then-not-are_rows-2-clause-answer g c = λ tree P w m s same a found none r valid kept.
    let l = file_case_table c.args.file.now in
    let name = c.args.name.now in
    let cs = columns_of c.args.columns.now in
    let test_c = sym (rows_tested c.columns.result.now c.deref-2.result.now _ _ (c.columns.ensures ∙ ap (λ t. (heading_of t).columns) c.deref.ensures ∙ ap (λ (h : Heading). h.columns) a.columns) (ap rows_of_values c.deref-2.ensures.value ∙ r.columns_said)) ∙ sym c.are_rows.ensures ∙ c.if-not-are_rows.false in
    let test_t = sym (one_of _) ∙ sym (rows_tested c.columns-2.result.now c.deref-4.result.now _ _ (c.columns-2.ensures ∙ ap (λ t. (heading_of t).columns) c.deref-3.ensures ∙ ap (λ (h : Heading). h.columns) a.tables) (ap rows_of_values c.deref-4.ensures.value ∙ r.tables_said)) ∙ sym c.are_rows-2.ensures ∙ c.if-not-are_rows-2.true in
    inr (unfit_t l P name cs w test_c test_t)

pub returns-then-not-are_rows-3-clause-answer : goal.returns-then-not-are_rows-3-clause-answer
returns-then-not-are_rows-3-clause-answer g c = λ tree P w m s same a found none r valid kept.
    let l = file_case_table c.args.file.now in
    let name = c.args.name.now in
    let cs = columns_of c.args.columns.now in
    let test_c = sym (rows_tested c.columns.result.now c.deref-2.result.now _ _ (c.columns.ensures ∙ ap (λ t. (heading_of t).columns) c.deref.ensures ∙ ap (λ (h : Heading). h.columns) a.columns) (ap rows_of_values c.deref-2.ensures.value ∙ r.columns_said)) ∙ sym c.are_rows.ensures ∙ c.if-not-are_rows.false in
    let test_t = sym (one_of _) ∙ sym (rows_tested c.columns-2.result.now c.deref-4.result.now _ _ (c.columns-2.ensures ∙ ap (λ t. (heading_of t).columns) c.deref-3.ensures ∙ ap (λ (h : Heading). h.columns) a.tables) (ap rows_of_values c.deref-4.ensures.value ∙ r.tables_said)) ∙ sym c.are_rows-2.ensures ∙ c.if-not-are_rows-2.false in
    let own = ap (λ (o : Option TableNamed). unwrap_or (option_map (λ t. t.columns) o) []) found in
    let test_v = sym (rows_tested c.columns-3.result.now c.deref-6.result.now _ _ (c.columns-3.ensures ∙ ap (λ t. (heading_of t).columns) c.deref-5.ensures ∙ ap (λ (h : Heading). h.columns) a.validation ∙ own) (ap rows_of_values c.deref-6.ensures.value ∙ r.validation_said)) ∙ sym c.are_rows-3.ensures ∙ c.if-not-are_rows-3.true in
    inr (unfit_v l P name cs w test_c test_t test_v)

pub returns-then-are_described-clause-answer : goal.returns-then-are_described-clause-answer
returns-then-are_described-clause-answer g c = λ tree P w m s same a found none r valid kept.
    let l = file_case_table c.args.file.now in
    let name = c.args.name.now in
    let cs = columns_of c.args.columns.now in
    let test_c = sym (rows_tested c.columns.result.now c.deref-2.result.now _ _ (c.columns.ensures ∙ ap (λ t. (heading_of t).columns) c.deref.ensures ∙ ap (λ (h : Heading). h.columns) a.columns) (ap rows_of_values c.deref-2.ensures.value ∙ r.columns_said)) ∙ sym c.are_rows.ensures ∙ c.if-not-are_rows.false in
    let test_t = sym (one_of _) ∙ sym (rows_tested c.columns-2.result.now c.deref-4.result.now _ _ (c.columns-2.ensures ∙ ap (λ t. (heading_of t).columns) c.deref-3.ensures ∙ ap (λ (h : Heading). h.columns) a.tables) (ap rows_of_values c.deref-4.ensures.value ∙ r.tables_said)) ∙ sym c.are_rows-2.ensures ∙ c.if-not-are_rows-2.false in
    let own = ap (λ (o : Option TableNamed). unwrap_or (option_map (λ t. t.columns) o) []) found in
    let test_v = sym (rows_tested c.columns-3.result.now c.deref-6.result.now _ _ (c.columns-3.ensures ∙ ap (λ t. (heading_of t).columns) c.deref-5.ensures ∙ ap (λ (h : Heading). h.columns) a.validation ∙ own) (ap rows_of_values c.deref-6.ensures.value ∙ r.validation_said)) ∙ sym c.are_rows-3.ensures ∙ c.if-not-are_rows-3.false in
    let fit = past_fit l P name cs w test_c test_t test_v kept in
    let test_s = sym (limits_so l tree P s w found c.args.system.now.validation_rows.items a.validation_rows name c.args.columns.now)
    ∙ sym (ap₂ (λ p rows. list_any (λ c. has_limits p rows name (column_of c).name) c.args.columns.now) same c.deref-7.ensures.value) ∙ sym c.are_described.ensures ∙ c.if-are_described.true in
    inr (fit ∙ already_said l P name cs w test_s)

pub returns-then-taken-clause-answer : goal.returns-then-taken-clause-answer
returns-then-taken-clause-answer g c = λ tree P w m s same a found none r valid kept.
    let l = file_case_table c.args.file.now in
    let name = c.args.name.now in
    let cs = columns_of c.args.columns.now in
    let test_c = sym (rows_tested c.columns.result.now c.deref-2.result.now _ _ (c.columns.ensures ∙ ap (λ t. (heading_of t).columns) c.deref.ensures ∙ ap (λ (h : Heading). h.columns) a.columns) (ap rows_of_values c.deref-2.ensures.value ∙ r.columns_said)) ∙ sym c.are_rows.ensures ∙ c.if-not-are_rows.false in
    let test_t = sym (one_of _) ∙ sym (rows_tested c.columns-2.result.now c.deref-4.result.now _ _ (c.columns-2.ensures ∙ ap (λ t. (heading_of t).columns) c.deref-3.ensures ∙ ap (λ (h : Heading). h.columns) a.tables) (ap rows_of_values c.deref-4.ensures.value ∙ r.tables_said)) ∙ sym c.are_rows-2.ensures ∙ c.if-not-are_rows-2.false in
    let own = ap (λ (o : Option TableNamed). unwrap_or (option_map (λ t. t.columns) o) []) found in
    let test_v = sym (rows_tested c.columns-3.result.now c.deref-6.result.now _ _ (c.columns-3.ensures ∙ ap (λ t. (heading_of t).columns) c.deref-5.ensures ∙ ap (λ (h : Heading). h.columns) a.validation ∙ own) (ap rows_of_values c.deref-6.ensures.value ∙ r.validation_said)) ∙ sym c.are_rows-3.ensures ∙ c.if-not-are_rows-3.false in
    let fit = past_fit l P name cs w test_c test_t test_v kept in
    let test_s = sym (limits_so l tree P s w found c.args.system.now.validation_rows.items a.validation_rows name c.args.columns.now)
    ∙ sym (ap₂ (λ p rows. list_any (λ c. has_limits p rows name (column_of c).name) c.args.columns.now) same c.deref-7.ensures.value) ∙ sym c.are_described.ensures ∙ c.if-are_described.false in
    let test_o = free_so (at_name l P.storages (stream_name name)) c.in-Ok.taken (c.in-Ok.ensures.answer tree P m s (free_name name cs valid kept) none) ∙ ap not c.if-taken.true in
    inr (fit ∙ storage_there l P name cs w test_s test_o)

pub returns-then-not-has_room-clause-answer : goal.returns-then-not-has_room-clause-answer
returns-then-not-has_room-clause-answer g c = λ tree P w m s same a found none r valid kept.
    let l = file_case_table c.args.file.now in
    let name = c.args.name.now in
    let cs = columns_of c.args.columns.now in
    let test_c = sym (rows_tested c.columns.result.now c.deref-2.result.now _ _ (c.columns.ensures ∙ ap (λ t. (heading_of t).columns) c.deref.ensures ∙ ap (λ (h : Heading). h.columns) a.columns) (ap rows_of_values c.deref-2.ensures.value ∙ r.columns_said)) ∙ sym c.are_rows.ensures ∙ c.if-not-are_rows.false in
    let test_t = sym (one_of _) ∙ sym (rows_tested c.columns-2.result.now c.deref-4.result.now _ _ (c.columns-2.ensures ∙ ap (λ t. (heading_of t).columns) c.deref-3.ensures ∙ ap (λ (h : Heading). h.columns) a.tables) (ap rows_of_values c.deref-4.ensures.value ∙ r.tables_said)) ∙ sym c.are_rows-2.ensures ∙ c.if-not-are_rows-2.false in
    let own = ap (λ (o : Option TableNamed). unwrap_or (option_map (λ t. t.columns) o) []) found in
    let test_v = sym (rows_tested c.columns-3.result.now c.deref-6.result.now _ _ (c.columns-3.ensures ∙ ap (λ t. (heading_of t).columns) c.deref-5.ensures ∙ ap (λ (h : Heading). h.columns) a.validation ∙ own) (ap rows_of_values c.deref-6.ensures.value ∙ r.validation_said)) ∙ sym c.are_rows-3.ensures ∙ c.if-not-are_rows-3.false in
    let fit = past_fit l P name cs w test_c test_t test_v kept in
    let test_s = sym (limits_so l tree P s w found c.args.system.now.validation_rows.items a.validation_rows name c.args.columns.now)
    ∙ sym (ap₂ (λ p rows. list_any (λ c. has_limits p rows name (column_of c).name) c.args.columns.now) same c.deref-7.ensures.value) ∙ sym c.are_described.ensures ∙ c.if-are_described.false in
    let test_o = free_so (at_name l P.storages (stream_name name)) c.in-Ok.taken (c.in-Ok.ensures.answer tree P m s (free_name name cs valid kept) none) ∙ ap not c.if-taken.false in
    let y = c.args.system.now in
    let test_r = sym (room_so P y.columns_rows.items y.tables_rows.items y.validation_rows.items a.columns_rows a.tables_rows a.validation_rows name c.args.columns.now _ refl) ∙ sym c.has_room.ensures ∙ c.if-not-has_room.true in
    inr (fit ∙ past_others l P name cs w test_s test_o ∙ too_many P name cs test_r)

pub returns-then-not-are_wide-clause-answer : goal.returns-then-not-are_wide-clause-answer
returns-then-not-are_wide-clause-answer g c = λ tree P w m s same a found none r valid kept.
    let wide : (h : Heading) → h.long ≡ P.pool.long → h.long ≡ c.long_string_refs.result = λ h is. is ∙ ap (λ p. p.long) (sym same) ∙ sym c.long_string_refs.ensures in
    absurd (c.are_wide.ensures.other c.if-not-are_wide.true (wide (heading_of (rc_value c.args.system.now.columns)) (ap (λ (h : Heading). h.long) a.columns)) (wide (heading_of (rc_value c.args.system.now.tables)) (ap (λ (h : Heading). h.long) a.tables)) (wide (heading_of (rc_value c.args.system.now.validation)) (ap (λ (h : Heading). h.long) a.validation)))

pub returns-clause-answer : goal.returns-clause-answer
returns-clause-answer g c = λ tree P w m s same a found none r valid kept.
    let l = file_case_table c.args.file.now in
    let name = c.args.name.now in
    let cs = columns_of c.args.columns.now in
    let test_c = sym (rows_tested c.columns.result.now c.deref-2.result.now _ _ (c.columns.ensures ∙ ap (λ t. (heading_of t).columns) c.deref.ensures ∙ ap (λ (h : Heading). h.columns) a.columns) (ap rows_of_values c.deref-2.ensures.value ∙ r.columns_said)) ∙ sym c.are_rows.ensures ∙ c.if-not-are_rows.false in
    let test_t = sym (one_of _) ∙ sym (rows_tested c.columns-2.result.now c.deref-4.result.now _ _ (c.columns-2.ensures ∙ ap (λ t. (heading_of t).columns) c.deref-3.ensures ∙ ap (λ (h : Heading). h.columns) a.tables) (ap rows_of_values c.deref-4.ensures.value ∙ r.tables_said)) ∙ sym c.are_rows-2.ensures ∙ c.if-not-are_rows-2.false in
    let own = ap (λ (o : Option TableNamed). unwrap_or (option_map (λ t. t.columns) o) []) found in
    let test_v = sym (rows_tested c.columns-3.result.now c.deref-6.result.now _ _ (c.columns-3.ensures ∙ ap (λ t. (heading_of t).columns) c.deref-5.ensures ∙ ap (λ (h : Heading). h.columns) a.validation ∙ own) (ap rows_of_values c.deref-6.ensures.value ∙ r.validation_said)) ∙ sym c.are_rows-3.ensures ∙ c.if-not-are_rows-3.false in
    let fit = past_fit l P name cs w test_c test_t test_v kept in
    let test_s = sym (limits_so l tree P s w found c.args.system.now.validation_rows.items a.validation_rows name c.args.columns.now)
    ∙ sym (ap₂ (λ p rows. list_any (λ c. has_limits p rows name (column_of c).name) c.args.columns.now) same c.deref-7.ensures.value) ∙ sym c.are_described.ensures ∙ c.if-are_described.false in
    let test_o = free_so (at_name l P.storages (stream_name name)) c.in-Ok.taken (c.in-Ok.ensures.answer tree P m s (free_name name cs valid kept) none) ∙ ap not c.if-taken.false in
    let y = c.args.system.now in
    let test_r = sym (room_so P y.columns_rows.items y.tables_rows.items y.validation_rows.items a.columns_rows a.tables_rows a.validation_rows name c.args.columns.now _ refl) ∙ sym c.has_room.ensures ∙ c.if-not-has_room.false in
    fit ∙ past_others l P name cs w test_s test_o ∙ is_counting l P name cs w test_r

pub returns-clause-described : goal.returns-clause-described
returns-clause-described g c =
    let wide = c.are_wide.ensures.so c.if-not-are_wide.false in
    let long = c.long_string_refs.ensures in
    record {
      columns = sym (rows_tested c.columns.result.now c.deref-2.result.now _ _ (c.columns.ensures ∙ ap (λ t. (heading_of t).columns) c.deref.ensures) (ap rows_of_values c.deref-2.ensures.value)) ∙ sym c.are_rows.ensures ∙ c.if-not-are_rows.false;
      tables = sym (rows_tested c.columns-2.result.now c.deref-4.result.now _ _ (c.columns-2.ensures ∙ ap (λ t. (heading_of t).columns) c.deref-3.ensures) (ap rows_of_values c.deref-4.ensures.value)) ∙ sym c.are_rows-2.ensures ∙ c.if-not-are_rows-2.false;
      validation = sym (rows_tested c.columns-3.result.now c.deref-6.result.now _ _ (c.columns-3.ensures ∙ ap (λ t. (heading_of t).columns) c.deref-5.ensures) (ap rows_of_values c.deref-6.ensures.value)) ∙ sym c.are_rows-3.ensures ∙ c.if-not-are_rows-3.false;
      columns_wide = wide.0 ∙ long;
      tables_wide = wide.1 ∙ long;
      validation_wide = wide.2 ∙ long;
    }
