use Rattle.std.proofs.Common.{◌∙◌, [], ap, inr, refl, subst, sym, IsSome}
use Rattle.std.specs.Prelude.{option_map, unwrap_or, Option}
use Rattle.std.specs.Rc.{rc_value}
use Rattle.cfb.proofs.LiveMeaning.{holds_meant, means_read}
use Rattle.cfb.specs.Views.{file_case_table}
use Rattle.msi_schema.specs.Headings.{headings_in}
use Rattle.msi_stored.proofs.StoredLaws.{file_cause, file_then}
use Rattle.msi_tables.specs.Held.{heading_of}
use Rattle.msi_tables.specs.Schema.{columns_name, tables_name, validation_name}
use Rattle.msi_tables.specs.Table.{Heading, Table}
use Rattle.msi_table_edits.proofs.SystemFound.{columns_table, found_so, heading_is, held_so, is_one, not_missing, not_there, stored_so, tables_table, unread, validation_table}
use Rattle.msi_table_edits.proofs.describing.system_tables.Goals as goal

pub returns-in-None-clause-answer : goal.returns-in-None-clause-answer
returns-in-None-clause-answer g c = λ tree P m s memory.
    let hs = headings_in c.args.tables.now in
    inr (
      refl,
      not_there (file_case_table c.args.file.now) tree P s hs memory validation_name
          (found_so c.args.tables.now validation_name (option_map (λ t. t.now) c.named_table.result) c.named_table.ensures ∙ ap (λ r. option_map (λ t. heading_of (rc_value t)) (option_map (λ t. t.now) r)) c.in-None.is),
    )

pub returns-in-None-named_table-clause-answer : goal.returns-in-None-named_table-clause-answer
returns-in-None-named_table-clause-answer g c = λ tree P m s memory.
    let l = file_case_table c.args.file.now in
    let hs = headings_in c.args.tables.now in
    not_missing l tree P s hs memory _ (columns_table l tree P s hs memory)
    (found_so c.args.tables.now columns_name (option_map (λ t. t.now) c.named_table-2.result) c.named_table-2.ensures ∙ ap (λ r. option_map (λ t. heading_of (rc_value t)) (option_map (λ t. t.now) r)) c.in-None-named_table.is)

pub returns-in-None-named_table-2-clause-answer : goal.returns-in-None-named_table-2-clause-answer
returns-in-None-named_table-2-clause-answer g c = λ tree P m s memory.
    let l = file_case_table c.args.file.now in
    let hs = headings_in c.args.tables.now in
    not_missing l tree P s hs memory _ (tables_table l tree P s hs memory)
    (found_so c.args.tables.now tables_name (option_map (λ t. t.now) c.named_table-3.result) c.named_table-3.ensures ∙ ap (λ r. option_map (λ t. heading_of (rc_value t)) (option_map (λ t. t.now) r)) c.in-None-named_table-2.is)

pub returns-in-Err-clause-answer : goal.returns-in-Err-clause-answer
returns-in-Err-clause-answer g c = λ tree P m s memory.
    let f = c.args.file.now in
    let l = file_case_table f in
    let hs = headings_in c.args.tables.now in
    let is_c = held_so c.args.tables.now columns_name (option_map (λ t. t.now) c.named_table-2.result) c.named_table-2.ensures c.in-Some-named_table.table.now (ap (option_map (λ t. t.now)) c.in-Some-named_table.is) c.deref.result.now (c.deref.ensures ∙ c.in_ok-columns-in-Some-named_table.ensures.cases) in
    unread l tree P s hs memory _ (columns_table l tree P s hs memory) (heading_of c.deref.result.now) is_c l refl c.in-Err.error (c.in-Err.ensures.answer tree (holds_meant f tree m))

pub returns-in-Err-rows_of_table-clause-answer : goal.returns-in-Err-rows_of_table-clause-answer
returns-in-Err-rows_of_table-clause-answer g c = λ tree P m s memory.
    let f = c.args.file.now in
    let l = file_case_table f in
    let hs = headings_in c.args.tables.now in
    let is_t = held_so c.args.tables.now tables_name (option_map (λ t. t.now) c.named_table-3.result) c.named_table-3.ensures c.in-Some-named_table-2.table.now (ap (option_map (λ t. t.now)) c.in-Some-named_table-2.is) c.deref-2.result.now (c.deref-2.ensures ∙ c.in_ok-tables-in-Some-named_table-2.ensures.cases) in
    let f1 = c.rows_of_table.new.file in
    let rests = c.rows_of_table.ensures.only_reads in
    let m1 = means_read f f1 tree rests m in
    unread l tree P s hs memory _ (tables_table l tree P s hs memory) (heading_of c.deref-2.result.now) is_t (file_case_table f1) rests.letters c.in-Err-rows_of_table.error (c.in-Err-rows_of_table.ensures.answer tree (holds_meant f1 tree m1))

pub returns-in-Err-rows_of_table-2-clause-answer : goal.returns-in-Err-rows_of_table-2-clause-answer
returns-in-Err-rows_of_table-2-clause-answer g c = λ tree P m s memory.
    let f = c.args.file.now in
    let l = file_case_table f in
    let hs = headings_in c.args.tables.now in
    let is_v = held_so c.args.tables.now validation_name (option_map (λ t. t.now) c.named_table.result) c.named_table.ensures c.in-Some.table.now (ap (option_map (λ t. t.now)) c.in-Some.is) c.deref-3.result.now (c.deref-3.ensures ∙ c.in_ok-validation-in-Some.ensures.cases) in
    let f1 = c.rows_of_table.new.file in
    let rests = c.rows_of_table.ensures.only_reads in
    let m1 = means_read f f1 tree rests m in
    let f2 = c.rows_of_table-2.new.file in
    let rests2 = c.rows_of_table-2.ensures.only_reads in
    let m2 = means_read f1 f2 tree rests2 m1 in
    let w = is_one l tree P s hs memory validation_name (heading_of c.deref-3.result.now) is_v in
    unread l tree P s hs memory _ (validation_table l tree P s hs memory w.0 w.1) (heading_of c.deref-3.result.now) is_v (file_case_table f2) (rests2.letters ∙ rests.letters) c.in-Err-rows_of_table-2.error
    (c.in-Err-rows_of_table-2.ensures.answer tree (holds_meant f2 tree m2))

pub returns-clause-answer : goal.returns-clause-answer
returns-clause-answer g c = λ tree P m s memory.
    let f = c.args.file.now in
    let l = file_case_table f in
    let hs = headings_in c.args.tables.now in
    let is_c = held_so c.args.tables.now columns_name (option_map (λ t. t.now) c.named_table-2.result) c.named_table-2.ensures c.in-Some-named_table.table.now (ap (option_map (λ t. t.now)) c.in-Some-named_table.is) c.deref.result.now (c.deref.ensures ∙ c.in_ok-columns-in-Some-named_table.ensures.cases) in
    let is_t = held_so c.args.tables.now tables_name (option_map (λ t. t.now) c.named_table-3.result) c.named_table-3.ensures c.in-Some-named_table-2.table.now (ap (option_map (λ t. t.now)) c.in-Some-named_table-2.is) c.deref-2.result.now (c.deref-2.ensures ∙ c.in_ok-tables-in-Some-named_table-2.ensures.cases) in
    let is_v = held_so c.args.tables.now validation_name (option_map (λ t. t.now) c.named_table.result) c.named_table.ensures c.in-Some.table.now (ap (option_map (λ t. t.now)) c.in-Some.is) c.deref-3.result.now (c.deref-3.ensures ∙ c.in_ok-validation-in-Some.ensures.cases) in
    let f1 = c.rows_of_table.new.file in
    let rests = c.rows_of_table.ensures.only_reads in
    let m1 = means_read f f1 tree rests m in
    let f2 = c.rows_of_table-2.new.file in
    let rests2 = c.rows_of_table-2.ensures.only_reads in
    let m2 = means_read f1 f2 tree rests2 m1 in
    let w = is_one l tree P s hs memory validation_name (heading_of c.deref-3.result.now) is_v in
    let valid : Option Table → Heading = λ o. record { name = validation_name; columns = unwrap_or (option_map (λ t. t.columns) o) []; long = P.pool.long } in
    let there_c = columns_table l tree P s hs memory in
    let there_t = tables_table l tree P s hs memory in
    let there_v = validation_table l tree P s hs memory w.0 w.1 in
    record {
      columns = ap heading_of (sym c.deref.ensures) ∙ heading_is l tree P s hs memory _ there_c (heading_of c.deref.result.now) is_c;
      tables = ap heading_of (sym c.deref-2.ensures) ∙ heading_is l tree P s hs memory _ there_t (heading_of c.deref-2.result.now) is_t;
      validation = ap heading_of (sym c.deref-3.ensures) ∙ heading_is l tree P s hs memory _ there_v (heading_of c.deref-3.result.now) is_v
          ∙ ap valid (sym w.1);
      there = subst IsSome (sym w.1) refl;
      columns_rows = stored_so l tree P s hs memory _ there_c (heading_of c.deref.result.now) is_c l refl _ (c.in-Ok.ensures.answer tree (holds_meant f tree m));
      tables_rows = stored_so l tree P s hs memory _ there_t (heading_of c.deref-2.result.now) is_t (file_case_table f1) rests.letters _ (c.in-Ok-rows_of_table.ensures.answer tree (holds_meant f1 tree m1));
      validation_rows = stored_so l tree P s hs memory _ there_v (heading_of c.deref-3.result.now) is_v (file_case_table f2) (rests2.letters ∙ rests.letters) _ (c.in-Ok-rows_of_table-2.ensures.answer tree (holds_meant f2 tree m2));
    }

pub returns-in-Err-rows_of_table-clause-only_reads : goal.returns-in-Err-rows_of_table-clause-only_reads
returns-in-Err-rows_of_table-clause-only_reads g c = file_then c.args.file.now c.rows_of_table.new.file c.rows_of_table-2.new.file c.rows_of_table.ensures.only_reads c.rows_of_table-2.ensures.only_reads

pub returns-in-Err-rows_of_table-clause-cause : goal.returns-in-Err-rows_of_table-clause-cause
returns-in-Err-rows_of_table-clause-cause g c = file_cause c.args.file.now c.rows_of_table.new.file c.rows_of_table-2.new.file c.in-Err-rows_of_table.error c.rows_of_table.ensures.only_reads c.in-Err-rows_of_table.ensures.cause

pub returns-in-Err-rows_of_table-2-clause-only_reads : goal.returns-in-Err-rows_of_table-2-clause-only_reads
returns-in-Err-rows_of_table-2-clause-only_reads g c =
    file_then c.args.file.now c.rows_of_table-2.new.file c.rows_of_table-3.new.file
    (file_then c.args.file.now c.rows_of_table.new.file c.rows_of_table-2.new.file c.rows_of_table.ensures.only_reads c.rows_of_table-2.ensures.only_reads) c.rows_of_table-3.ensures.only_reads

pub returns-in-Err-rows_of_table-2-clause-cause : goal.returns-in-Err-rows_of_table-2-clause-cause
returns-in-Err-rows_of_table-2-clause-cause g c =
    file_cause c.args.file.now c.rows_of_table-2.new.file c.rows_of_table-3.new.file c.in-Err-rows_of_table-2.error
    (file_then c.args.file.now c.rows_of_table.new.file c.rows_of_table-2.new.file c.rows_of_table.ensures.only_reads c.rows_of_table-2.ensures.only_reads) c.in-Err-rows_of_table-2.ensures.cause

pub returns-clause-only_reads : goal.returns-clause-only_reads
returns-clause-only_reads g c =
    file_then c.args.file.now c.rows_of_table-2.new.file c.rows_of_table-3.new.file
    (file_then c.args.file.now c.rows_of_table.new.file c.rows_of_table-2.new.file c.rows_of_table.ensures.only_reads c.rows_of_table-2.ensures.only_reads) c.rows_of_table-3.ensures.only_reads
