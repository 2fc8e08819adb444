use Rattle.std.proofs.Common.{◌∙◌, [], ap, sym, subst, inl, Some, None, option_map}
use Rattle.cfb.specs.Views.{file_case_table, mini_of}
use Rattle.cfb_mini.specs.Views.{allocator_of}
use Rattle.msi_spec.specs.Package.{objects, stream_name, table_stream}
use Rattle.msi_tables.specs.Held.{heading_of}
use Rattle.msi_tables.specs.Rows.{IsRead, kinds_of}
use Rattle.msi_stored.specs.Shown.{IsLostAt, bytes_in}
use Rattle.msi_store.proofs.Told.{few_rows, read_cause, rows_told, told_unless}
use Rattle.msi_store.proofs.rows.rows_of_table.Goals as goal

pub returns-in-Ok-Some-clause-answer : goal.returns-in-Ok-Some-clause-answer
returns-in-Ok-Some-clause-answer g c tree held =
    let letters = file_case_table c.args.file.now in
    let h = heading_of c.args.table.now in
    rows_told letters tree h (Some c.in-Ok-Some.bytes.items) c.read_rows.result
    (ap (table_stream letters (objects tree.content)) (sym c.name.ensures) ∙ c.in-Ok-Some.ensures.answer tree held ∙ ap (option_map (λ bytes. bytes.items)) c.in-Ok-Some.field-0-is)
    (subst (λ bytes. IsRead h.long (kinds_of h.columns) bytes c.read_rows.result) c.deref.ensures.value c.read_rows.ensures.read)

pub returns-in-Ok-Some-clause-few : goal.returns-in-Ok-Some-clause-few
returns-in-Ok-Some-clause-few g c =
    let h = heading_of c.args.table.now in
    few_rows h.long (kinds_of h.columns) c.deref.result.now c.read_rows.result c.read_rows.ensures.read

pub returns-in-Ok-Some-clause-cause : goal.returns-in-Ok-Some-clause-cause
returns-in-Ok-Some-clause-cause g c =
    let h = heading_of c.args.table.now in
    read_cause (allocator_of (mini_of c.args.file.now)) (allocator_of (mini_of c.table_bytes.new.file)) h.long (kinds_of h.columns) c.deref.result.now c.read_rows.result c.read_rows.ensures.read

pub returns-in-Ok-None-clause-answer : goal.returns-in-Ok-None-clause-answer
returns-in-Ok-None-clause-answer g c tree held =
    let letters = file_case_table c.args.file.now in
    rows_told letters tree (heading_of c.args.table.now) None c.read_rows-in-Ok-None.result
    (ap (table_stream letters (objects tree.content)) (sym c.name.ensures) ∙ c.in-Ok-None.ensures.answer tree held ∙ ap (option_map (λ bytes. bytes.items)) c.in-Ok-None.field-0-is)
    c.read_rows-in-Ok-None.ensures.read

pub returns-in-Ok-None-clause-few : goal.returns-in-Ok-None-clause-few
returns-in-Ok-None-clause-few g c =
    let h = heading_of c.args.table.now in
    few_rows h.long (kinds_of h.columns) [] c.read_rows-in-Ok-None.result c.read_rows-in-Ok-None.ensures.read

pub returns-in-Ok-None-clause-cause : goal.returns-in-Ok-None-clause-cause
returns-in-Ok-None-clause-cause g c =
    let h = heading_of c.args.table.now in
    read_cause (allocator_of (mini_of c.args.file.now)) (allocator_of (mini_of c.table_bytes.new.file)) h.long (kinds_of h.columns) [] c.read_rows-in-Ok-None.result c.read_rows-in-Ok-None.ensures.read

pub returns-in-Err-clause-answer : goal.returns-in-Err-clause-answer
returns-in-Err-clause-answer g c tree held = inl (c.in-Err.ensures.answer tree held)

pub returns-in-Ok-Some-clause-shown : goal.returns-in-Ok-Some-clause-shown
returns-in-Ok-Some-clause-shown g c tree shown =
    let letters = file_case_table c.args.file.now in
    let h = heading_of c.args.table.now in
    told_unless letters tree (IsLostAt letters (bytes_in c.args.file.now) (stream_name h.name)) (λ e fault. inl fault) h c.read_rows.result
    (rows_told letters tree h (Some c.in-Ok-Some.bytes.items) c.read_rows.result
    (ap (table_stream letters (objects tree.content)) (sym c.name.ensures) ∙ c.in-Ok-Some.ensures.shown tree shown ∙ ap (option_map (λ bytes. bytes.items)) c.in-Ok-Some.field-0-is)
    (subst (λ bytes. IsRead h.long (kinds_of h.columns) bytes c.read_rows.result) c.deref.ensures.value c.read_rows.ensures.read))

pub returns-in-Ok-None-clause-shown : goal.returns-in-Ok-None-clause-shown
returns-in-Ok-None-clause-shown g c tree shown =
    let letters = file_case_table c.args.file.now in
    let h = heading_of c.args.table.now in
    told_unless letters tree (IsLostAt letters (bytes_in c.args.file.now) (stream_name h.name)) (λ e fault. inl fault) h c.read_rows-in-Ok-None.result
    (rows_told letters tree h None c.read_rows-in-Ok-None.result
    (ap (table_stream letters (objects tree.content)) (sym c.name.ensures) ∙ c.in-Ok-None.ensures.shown tree shown ∙ ap (option_map (λ bytes. bytes.items)) c.in-Ok-None.field-0-is)
    c.read_rows-in-Ok-None.ensures.read)

pub returns-in-Err-clause-shown : goal.returns-in-Err-clause-shown
returns-in-Err-clause-shown g c tree shown =
    inl (subst (λ n. IsLostAt (file_case_table c.args.file.now) (bytes_in c.args.file.now) (stream_name n) c.in-Err.error) c.name.ensures (c.in-Err.ensures.shown tree shown))
