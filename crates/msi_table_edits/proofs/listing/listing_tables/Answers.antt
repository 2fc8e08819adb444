use Rattle.std.proofs.Common.{◌∙◌, ap, refl, sym}
use Rattle.std.specs.Prelude.{option_map}
use Rattle.std.specs.Rc.{rc_value}
use Rattle.cfb.proofs.LiveMeaning.{holds_meant, means_read}
use Rattle.cfb.specs.Views.{file_case_table}
use Rattle.msi_schema.specs.Headings.{headings_in}
use Rattle.msi_stored.proofs.StoredLaws.{file_cause, file_then}
use Rattle.msi_tables.specs.Held.{heading_of}
use Rattle.msi_tables.specs.Schema.{columns_name, tables_name}
use Rattle.msi_table_edits.proofs.SystemFound.{columns_table, found_so, heading_is, held_so, not_missing, only_fault, stored_so, tables_table, unread}
use Rattle.msi_table_edits.proofs.listing.listing_tables.Goals as goal

pub returns-in-None-clause-answer : goal.returns-in-None-clause-answer
returns-in-None-clause-answer g c = λ tree P m s memory.
    let l = file_case_table c.args.file.now in
    let hs = headings_in c.args.tables.now in
    not_missing l tree P s hs memory _ (columns_table l tree P s hs memory)
    (found_so c.args.tables.now columns_name (option_map (λ t. t.now) c.named_table.result) c.named_table.ensures ∙ ap (λ r. option_map (λ t. heading_of (rc_value t)) (option_map (λ t. t.now) r)) c.in-None.is)

pub returns-in-None-named_table-clause-answer : goal.returns-in-None-named_table-clause-answer
returns-in-None-named_table-clause-answer g c = λ tree P m s memory.
    let l = file_case_table c.args.file.now in
    let hs = headings_in c.args.tables.now in
    not_missing l tree P s hs memory _ (tables_table l tree P s hs memory)
    (found_so c.args.tables.now tables_name (option_map (λ t. t.now) c.named_table-2.result) c.named_table-2.ensures ∙ ap (λ r. option_map (λ t. heading_of (rc_value t)) (option_map (λ t. t.now) r)) c.in-None-named_table.is)

pub returns-in-Err-clause-answer : goal.returns-in-Err-clause-answer
returns-in-Err-clause-answer g c = λ tree P m s memory.
    let f = c.args.file.now in
    let l = file_case_table f in
    let hs = headings_in c.args.tables.now in
    let is_c = held_so c.args.tables.now columns_name (option_map (λ t. t.now) c.named_table.result) c.named_table.ensures c.in-Some.table.now (ap (option_map (λ t. t.now)) c.in-Some.is) c.deref.result.now (c.deref.ensures ∙ c.in_ok-columns-in-Some.ensures.cases) in
    only_fault c.in-Err.error (unread l tree P s hs memory _ (columns_table l tree P s hs memory) (heading_of c.deref.result.now) is_c l refl c.in-Err.error (c.in-Err.ensures.answer tree (holds_meant f tree m)))

pub returns-in-Err-rows_of_table-clause-answer : goal.returns-in-Err-rows_of_table-clause-answer
returns-in-Err-rows_of_table-clause-answer g c = λ tree P m s memory.
    let f = c.args.file.now in
    let l = file_case_table f in
    let hs = headings_in c.args.tables.now in
    let is_t = held_so c.args.tables.now tables_name (option_map (λ t. t.now) c.named_table-2.result) c.named_table-2.ensures c.in-Some-named_table.table.now (ap (option_map (λ t. t.now)) c.in-Some-named_table.is) c.deref-2.result.now (c.deref-2.ensures ∙ c.in_ok-tables-in-Some-named_table.ensures.cases) in
    let f1 = c.rows_of_table.new.file in
    let rests = c.rows_of_table.ensures.only_reads in
    let m1 = means_read f f1 tree rests m in
    only_fault c.in-Err-rows_of_table.error
    (unread l tree P s hs memory _ (tables_table l tree P s hs memory) (heading_of c.deref-2.result.now) is_t (file_case_table f1) rests.letters c.in-Err-rows_of_table.error (c.in-Err-rows_of_table.ensures.answer tree (holds_meant f1 tree m1)))

pub returns-clause-answer : goal.returns-clause-answer
returns-clause-answer g c = λ tree P m s memory.
    let f = c.args.file.now in
    let l = file_case_table f in
    let hs = headings_in c.args.tables.now in
    let is_c = held_so c.args.tables.now columns_name (option_map (λ t. t.now) c.named_table.result) c.named_table.ensures c.in-Some.table.now (ap (option_map (λ t. t.now)) c.in-Some.is) c.deref.result.now (c.deref.ensures ∙ c.in_ok-columns-in-Some.ensures.cases) in
    let is_t = held_so c.args.tables.now tables_name (option_map (λ t. t.now) c.named_table-2.result) c.named_table-2.ensures c.in-Some-named_table.table.now (ap (option_map (λ t. t.now)) c.in-Some-named_table.is) c.deref-2.result.now (c.deref-2.ensures ∙ c.in_ok-tables-in-Some-named_table.ensures.cases) in
    let f1 = c.rows_of_table.new.file in
    let rests = c.rows_of_table.ensures.only_reads in
    let m1 = means_read f f1 tree rests m in
    let there_c = columns_table l tree P s hs memory in
    let there_t = tables_table l tree P s hs memory in
    record {
      columns = ap heading_of (sym c.deref.ensures) ∙ heading_is l tree P s hs memory _ there_c (heading_of c.deref.result.now) is_c;
      tables = ap heading_of (sym c.deref-2.ensures) ∙ heading_is l tree P s hs memory _ there_t (heading_of c.deref-2.result.now) is_t;
      columns_rows = stored_so l tree P s hs memory _ there_c (heading_of c.deref.result.now) is_c l refl _ (c.in-Ok.ensures.answer tree (holds_meant f tree m));
      tables_rows = stored_so l tree P s hs memory _ there_t (heading_of c.deref-2.result.now) is_t (file_case_table f1) rests.letters _ (c.in-Ok-rows_of_table.ensures.answer tree (holds_meant f1 tree m1));
    }

pub returns-in-Err-rows_of_table-clause-only_reads : goal.returns-in-Err-rows_of_table-clause-only_reads
returns-in-Err-rows_of_table-clause-only_reads g c = file_then c.args.file.now c.rows_of_table.new.file c.rows_of_table-2.new.file c.rows_of_table.ensures.only_reads c.rows_of_table-2.ensures.only_reads

pub returns-in-Err-rows_of_table-clause-cause : goal.returns-in-Err-rows_of_table-clause-cause
returns-in-Err-rows_of_table-clause-cause g c = file_cause c.args.file.now c.rows_of_table.new.file c.rows_of_table-2.new.file c.in-Err-rows_of_table.error c.rows_of_table.ensures.only_reads c.in-Err-rows_of_table.ensures.cause

pub returns-clause-only_reads : goal.returns-clause-only_reads
returns-clause-only_reads g c = file_then c.args.file.now c.rows_of_table.new.file c.rows_of_table-2.new.file c.rows_of_table.ensures.only_reads c.rows_of_table-2.ensures.only_reads
