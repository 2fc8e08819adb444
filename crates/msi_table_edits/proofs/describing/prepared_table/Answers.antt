use Rattle.std.proofs.Common.{◌≡◌, ◌∙◌, ap, inl, inr, subst, sym, Err, Ok, ⊎_elim, arith}
use Rattle.std.specs.Prelude.{length, option_map}
use Rattle.std.specs.List.{list_all}
use Rattle.std.specs.Rc.{rc_value}
use Rattle.std.proofs.lemmas.Bool.Decides.{nat_tests}
use Rattle.std.proofs.lemmas.List.{length-map}
use Rattle.std.proofs.lemmas.List.Folds.{list_all-map}
use Rattle.cfb.proofs.LiveMeaning.{means_read}
use Rattle.cfb.specs.Views.{file_case_table, mini_of}
use Rattle.cfb_mini.specs.Views.{allocator_of}
use Rattle.msi_columns.specs.Column.{length_kept}
use Rattle.msi_columns.specs.Held.{column_of, columns_of}
use Rattle.msi_row_edits.proofs.Exits.{own_causes, owns_unput}
use Rattle.msi_schema.specs.Headings.{headings_in}
use Rattle.msi_stored.proofs.StoredLaws.{file_cause}
use Rattle.msi_stored.specs.Changing.{StoresSoundPackage}
use Rattle.msi_tables.specs.Held.{heading_of}
use Rattle.msi_table_edits.specs.Describing.{AreNewRows, Passes}
use Rattle.msi_table_edits.specs.Testing.{can_be_kept, may_have_columns}
use Rattle.msi_table_edits.proofs.NewSo.{few_of, lengths_of, own_all, refused_keeping, refused_name, refused_table, refused_validation, tells_all, to_third, valid_of}
use Rattle.msi_table_edits.proofs.ReadyFrom.{there_of}
use Rattle.msi_table_edits.proofs.SystemFound.{found_so, is_one, not_there}
use Rattle.msi_table_edits.proofs.describing.prepared_table.Goals as goal

pub returns-then-not-may_have_columns-clause-answer : goal.returns-then-not-may_have_columns-clause-answer
returns-then-not-may_have_columns-clause-answer g c = λ tree P m s same memory.
    let l = file_case_table c.args.file.now in
    let name = c.args.name.now in
    let cs = columns_of c.args.columns.items in
    let may = ap (λ xs. may_have_columns c.args.name.now (columns_of xs)) (sym c.deref.ensures.value) ∙ sym c.may_have_columns.ensures ∙ c.if-not-may_have_columns.true in
    inr (refused_name l P name cs may)

pub returns-in-Some-clause-answer : goal.returns-in-Some-clause-answer
returns-in-Some-clause-answer g c = λ tree P m s same memory.
    let l = file_case_table c.args.file.now in
    let name = c.args.name.now in
    let cs = columns_of c.args.columns.items in
    let hs = headings_in c.args.tables.now in
    let may = ap (λ xs. may_have_columns c.args.name.now (columns_of xs)) (sym c.deref.ensures.value) ∙ sym c.may_have_columns.ensures ∙ c.if-not-may_have_columns.false in
    let there = is_one l tree P s hs memory name _ (found_so c.args.tables.now name (option_map (λ t. t.now) c.named_table.result) c.named_table.ensures ∙ ap (λ r. option_map (λ t. heading_of (rc_value t)) (option_map (λ t. t.now) r)) c.in-Some.is) in
    inr (refused_table l P name cs may there.0 there.1)

pub returns-in-Err-clause-answer : goal.returns-in-Err-clause-answer
returns-in-Err-clause-answer g c = λ tree P m s same memory.
    let l = file_case_table c.args.file.now in
    let name = c.args.name.now in
    let cs = columns_of c.args.columns.items in
    let hs = headings_in c.args.tables.now in
    let may = ap (λ xs. may_have_columns c.args.name.now (columns_of xs)) (sym c.deref.ensures.value) ∙ sym c.may_have_columns.ensures ∙ c.if-not-may_have_columns.false in
    let none = not_there l tree P s hs memory name (found_so c.args.tables.now name (option_map (λ t. t.now) c.named_table.result) c.named_table.ensures ∙ ap (λ r. option_map (λ t. heading_of (rc_value t)) (option_map (λ t. t.now) r)) c.in-None.is) in
    ⊎_elim (λ fault. inl fault) (λ is. inr (refused_validation l P name cs may none c.in-Err.error is)) (c.in-Err.ensures.answer tree P m s memory)

pub returns-then-not-can_be_kept-clause-answer : goal.returns-then-not-can_be_kept-clause-answer
returns-then-not-can_be_kept-clause-answer g c = λ tree P m s same memory.
    let l = file_case_table c.args.file.now in
    let name = c.args.name.now in
    let cs = columns_of c.args.columns.items in
    let hs = headings_in c.args.tables.now in
    let may = ap (λ xs. may_have_columns c.args.name.now (columns_of xs)) (sym c.deref.ensures.value) ∙ sym c.may_have_columns.ensures ∙ c.if-not-may_have_columns.false in
    let none = not_there l tree P s hs memory name (found_so c.args.tables.now name (option_map (λ t. t.now) c.named_table.result) c.named_table.ensures ∙ ap (λ r. option_map (λ t. heading_of (rc_value t)) (option_map (λ t. t.now) r)) c.in-None.is) in
    let a = c.in-Ok.ensures.answer tree P m s memory in
    let w = there_of _ a.there in
    inr (refused_keeping l P name cs may none w.0 w.1 (ap (λ xs. can_be_kept c.args.name.now (columns_of xs)) (sym c.deref-2.ensures.value) ∙ sym c.can_be_kept.ensures ∙ c.if-not-can_be_kept.true))

pub returns-in-Err-check_rows-clause-answer : goal.returns-in-Err-check_rows-clause-answer
returns-in-Err-check_rows-clause-answer g c = λ tree P m s same memory.
    let f = c.args.file.now in
    let l = file_case_table f in
    let name = c.args.name.now in
    let cs = columns_of c.args.columns.items in
    let hs = headings_in c.args.tables.now in
    let may = ap (λ xs. may_have_columns c.args.name.now (columns_of xs)) (sym c.deref.ensures.value) ∙ sym c.may_have_columns.ensures ∙ c.if-not-may_have_columns.false in
    let none = not_there l tree P s hs memory name (found_so c.args.tables.now name (option_map (λ t. t.now) c.named_table.result) c.named_table.ensures ∙ ap (λ r. option_map (λ t. heading_of (rc_value t)) (option_map (λ t. t.now) r)) c.in-None.is) in
    let a = c.in-Ok.ensures.answer tree P m s memory in
    let w = there_of _ a.there in
    let f1 = c.system_tables.new.file in
    let rests = c.system_tables.ensures.only_reads in
    let r = subst (λ xs. AreNewRows name (columns_of xs) c.in-Ok-new_rows.new_rows) c.deref-3.ensures.value c.in-Ok-new_rows.ensures.ok in
    let kept = ap (λ xs. can_be_kept c.args.name.now (columns_of xs)) (sym c.deref-2.ensures.value) ∙ sym c.can_be_kept.ensures ∙ c.if-not-can_be_kept.false in
    let passes = subst (λ l. Passes l P name cs w.0 (Err c.in-Err-check_rows.error)) rests.letters
    (subst (λ xs. Passes (file_case_table f1) P name (columns_of xs) w.0 (Err c.in-Err-check_rows.error)) c.deref-4.ensures.value
    (c.in-Err-check_rows.ensures.answer tree P w.0 (means_read f f1 tree rests m) (subst (λ l. StoresSoundPackage l tree P) (sym rests.letters) s) same a w.1 none
    (subst (λ xs. AreNewRows name (columns_of xs) c.in-Ok-new_rows.new_rows) (sym c.deref-4.ensures.value) r) (valid_of name cs may) (ap (λ xs. can_be_kept name (columns_of xs)) c.deref-4.ensures.value ∙ kept))) in
    ⊎_elim (λ fault. inl fault) (λ is. inr (to_third l P name cs may none w.0 w.1 ∙ is)) passes

pub returns-clause-answer : goal.returns-clause-answer
returns-clause-answer g c = λ tree P m s same memory.
    let f = c.args.file.now in
    let l = file_case_table f in
    let name = c.args.name.now in
    let cs = columns_of c.args.columns.items in
    let hs = headings_in c.args.tables.now in
    let may = ap (λ xs. may_have_columns c.args.name.now (columns_of xs)) (sym c.deref.ensures.value) ∙ sym c.may_have_columns.ensures ∙ c.if-not-may_have_columns.false in
    let none = not_there l tree P s hs memory name (found_so c.args.tables.now name (option_map (λ t. t.now) c.named_table.result) c.named_table.ensures ∙ ap (λ r. option_map (λ t. heading_of (rc_value t)) (option_map (λ t. t.now) r)) c.in-None.is) in
    let a = c.in-Ok.ensures.answer tree P m s memory in
    let w = there_of _ a.there in
    let f1 = c.system_tables.new.file in
    let rests = c.system_tables.ensures.only_reads in
    let r = subst (λ xs. AreNewRows name (columns_of xs) c.in-Ok-new_rows.new_rows) c.deref-3.ensures.value c.in-Ok-new_rows.ensures.ok in
    let kept = ap (λ xs. can_be_kept c.args.name.now (columns_of xs)) (sym c.deref-2.ensures.value) ∙ sym c.can_be_kept.ensures ∙ c.if-not-can_be_kept.false in
    let passes = subst (λ l. Passes l P name cs w.0 (Ok tt)) rests.letters
    (subst (λ xs. Passes (file_case_table f1) P name (columns_of xs) w.0 (Ok tt)) c.deref-4.ensures.value
    (c.in-Ok-check_rows.ensures.answer tree P w.0 (means_read f f1 tree rests m) (subst (λ l. StoresSoundPackage l tree P) (sym rests.letters) s) same a w.1 none
    (subst (λ xs. AreNewRows name (columns_of xs) c.in-Ok-new_rows.new_rows) (sym c.deref-4.ensures.value) r) (valid_of name cs may) (ap (λ xs. can_be_kept name (columns_of xs)) c.deref-4.ensures.value ∙ kept))) in
    tells_all l P name cs c.args.pool.now c.described_table.result (to_third l P name cs may none w.0 w.1 ∙ passes) (c.described_table.ensures.answer l tree P s same a memory r)

pub returns-in-Err-check_rows-clause-cause : goal.returns-in-Err-check_rows-clause-cause
returns-in-Err-check_rows-clause-cause g c = file_cause c.args.file.now c.system_tables.new.file c.system_tables.new.file c.in-Err-check_rows.error c.system_tables.ensures.only_reads c.in-Err-check_rows.ensures.cause

pub returns-clause-cause : goal.returns-clause-cause
returns-clause-cause g c = own_causes (allocator_of (mini_of c.args.file.now)) (allocator_of (mini_of c.system_tables.new.file)) c.described_table.result (own_all c.described_table.result c.described_table.ensures.own)

pub returns-clause-errors : goal.returns-clause-errors
returns-clause-errors g c = owns_unput c.described_table.result (own_all c.described_table.result c.described_table.ensures.own)

pub new_rows-requires-clause-few : goal.new_rows-requires-clause-few
new_rows-requires-clause-few g c =
    let may = ap (λ xs. may_have_columns c.args.name.now (columns_of xs)) (sym c.deref.ensures.value) ∙ sym c.may_have_columns.ensures ∙ c.if-not-may_have_columns.false in
    let few = few_of c.args.name.now (columns_of c.args.columns.items) may in
    let long : length (columns_of c.args.columns.items) ≡ length c.deref-3.result.now = length-map c.args.columns.items column_of ∙ ap length (sym c.deref-3.ensures.value) in
    grind (arith, nat_tests, few, long)

pub new_rows-requires-clause-kept : goal.new_rows-requires-clause-kept
new_rows-requires-clause-kept g c =
    let kept = ap (λ xs. can_be_kept c.args.name.now (columns_of xs)) (sym c.deref-2.ensures.value) ∙ sym c.can_be_kept.ensures ∙ c.if-not-can_be_kept.false in
    ap (λ xs. list_all (λ c. length_kept (column_of c).kind) xs) c.deref-3.ensures.value ∙ sym (list_all-map (λ c. length_kept c.kind) column_of c.args.columns.items) ∙ lengths_of c.args.name.now (columns_of c.args.columns.items) kept

pub check_rows-requires : goal.check_rows-requires
check_rows-requires g c =
    let may = ap (λ xs. may_have_columns c.args.name.now (columns_of xs)) (sym c.deref.ensures.value) ∙ sym c.may_have_columns.ensures ∙ c.if-not-may_have_columns.false in
    let few = few_of c.args.name.now (columns_of c.args.columns.items) may in
    let long : length (columns_of c.args.columns.items) ≡ length c.deref-4.result.now = length-map c.args.columns.items column_of ∙ ap length (sym c.deref-4.ensures.value) in
    grind (arith, nat_tests, few, long)
