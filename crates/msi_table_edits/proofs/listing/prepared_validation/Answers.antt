use Rattle.std.proofs.Common.{◌∙◌, ap, inl, inr, not, sym, Err, Result}
use Rattle.std.specs.Prelude.{option_map}
use Rattle.std.specs.Rc.{rc_value}
use Rattle.cfb.specs.Views.{file_case_table, mini_of}
use Rattle.cfb_medium.specs.declared.error.Error.{Error}
use Rattle.cfb_mini.specs.Views.{allocator_of}
use Rattle.msi_columns.specs.Held.{columns_of}
use Rattle.msi_new_package.proofs.Laid.{names_free}
use Rattle.msi_row_edits.proofs.Exits.{own_causes, owns_unput}
use Rattle.msi_spec.specs.Package.{at_name, stream_name}
use Rattle.msi_schema.specs.Headings.{headings_in}
use Rattle.msi_tables.specs.Held.{heading_of}
use Rattle.msi_tables.specs.Schema.{validation_name}
use Rattle.msi_table_edits.specs.declared.listing.NewListing.{NewListing}
use Rattle.msi_table_edits.proofs.ListedSo.{full_tables, is_counting, own_two, storage_there, there_already}
use Rattle.msi_table_edits.proofs.NewSo.{own_all}
use Rattle.msi_table_edits.proofs.RowsChecked.{free_so}
use Rattle.msi_table_edits.proofs.SystemFound.{found_so, is_one, not_there}
use Rattle.msi_table_edits.proofs.listing.prepared_validation.Goals as goal

pub returns-in-Some-clause-answer : goal.returns-in-Some-clause-answer
returns-in-Some-clause-answer g c = λ tree P m s same memory.
    let l = file_case_table c.args.file.now in
    let hs = headings_in c.args.tables.now in
    let there = is_one l tree P s hs memory validation_name _ (found_so c.args.tables.now validation_name (option_map (λ t. t.now) c.named_table.result) c.named_table.ensures ∙ ap (λ r. option_map (λ t. heading_of (rc_value t)) (option_map (λ t. t.now) r)) c.in-Some.is) in
    inr (there_already l P there.0 there.1)

pub returns-then-taken-clause-answer : goal.returns-then-taken-clause-answer
returns-then-taken-clause-answer g c = λ tree P m s same memory.
    let l = file_case_table c.args.file.now in
    let hs = headings_in c.args.tables.now in
    let none = not_there l tree P s hs memory validation_name (found_so c.args.tables.now validation_name (option_map (λ t. t.now) c.named_table.result) c.named_table.ensures ∙ ap (λ r. option_map (λ t. heading_of (rc_value t)) (option_map (λ t. t.now) r)) c.in-None.is) in
    let taken = free_so (at_name l P.storages (stream_name validation_name)) c.in-Ok.taken (c.in-Ok.ensures.answer tree P m s names_free.2 none) ∙ ap not c.if-taken.true in
    inr (storage_there l P none taken)

pub returns-in-Err-listing_tables-clause-answer : goal.returns-in-Err-listing_tables-clause-answer
returns-in-Err-listing_tables-clause-answer g c = λ tree P m s same memory. inl (c.in-Err-listing_tables.ensures.answer tree P m s memory)

pub returns-in-Err-check_listing-clause-answer : goal.returns-in-Err-check_listing-clause-answer
returns-in-Err-check_listing-clause-answer g c = λ tree P m s same memory.
    let l = file_case_table c.args.file.now in
    let hs = headings_in c.args.tables.now in
    let none = not_there l tree P s hs memory validation_name (found_so c.args.tables.now validation_name (option_map (λ t. t.now) c.named_table.result) c.named_table.ensures ∙ ap (λ r. option_map (λ t. heading_of (rc_value t)) (option_map (λ t. t.now) r)) c.in-None.is) in
    let free = free_so (at_name l P.storages (stream_name validation_name)) c.in-Ok.taken (c.in-Ok.ensures.answer tree P m s names_free.2 none) ∙ ap not c.if-taken.false in
    let a = c.in-Ok-listing_tables.ensures.answer tree P m s memory in
    let refused = c.in-Err-check_listing.ensures.answer P same a c.in-Ok-listing_rows.ensures.ok in
    inr (full_tables l P none free refused.1 ∙ ap (λ e. Err e) (sym refused.0))

pub returns-clause-answer : goal.returns-clause-answer
returns-clause-answer g c = λ tree P m s same memory.
    let l = file_case_table c.args.file.now in
    let hs = headings_in c.args.tables.now in
    let none = not_there l tree P s hs memory validation_name (found_so c.args.tables.now validation_name (option_map (λ t. t.now) c.named_table.result) c.named_table.ensures ∙ ap (λ r. option_map (λ t. heading_of (rc_value t)) (option_map (λ t. t.now) r)) c.in-None.is) in
    let free = free_so (at_name l P.storages (stream_name validation_name)) c.in-Ok.taken (c.in-Ok.ensures.answer tree P m s names_free.2 none) ∙ ap not c.if-taken.false in
    let a = c.in-Ok-listing_tables.ensures.answer tree P m s memory in
    let rows = c.in-Ok-listing_rows.ensures.ok in
    c.listed_table.ensures.answer l tree P s same a memory rows (is_counting l P none free (c.in-Ok-check_listing.ensures.answer P same a rows))

pub returns-in-Err-check_listing-clause-cause : goal.returns-in-Err-check_listing-clause-cause
returns-in-Err-check_listing-clause-cause g c =
    let r : Result NewListing Error = Err c.in-Err-check_listing.error in
    own_causes (allocator_of (mini_of c.args.file.now)) (allocator_of (mini_of c.listing_tables.new.file)) r (own_two c.in-Err-check_listing.error c.in-Err-check_listing.ensures.errors)

pub returns-in-Err-check_listing-clause-errors : goal.returns-in-Err-check_listing-clause-errors
returns-in-Err-check_listing-clause-errors g c =
    let r : Result NewListing Error = Err c.in-Err-check_listing.error in
    owns_unput r (own_two c.in-Err-check_listing.error c.in-Err-check_listing.ensures.errors)

pub returns-clause-cause : goal.returns-clause-cause
returns-clause-cause g c = own_causes (allocator_of (mini_of c.args.file.now)) (allocator_of (mini_of c.listing_tables.new.file)) c.listed_table.result (own_all c.listed_table.result c.listed_table.ensures.own)

pub returns-clause-errors : goal.returns-clause-errors
returns-clause-errors g c = owns_unput c.listed_table.result (own_all c.listed_table.result c.listed_table.ensures.own)

pub listing_rows-requires : goal.listing_rows-requires
listing_rows-requires g c = ap columns_of c.deref.ensures.value ∙ c.in-Ok-listed_columns.ensures.ok
