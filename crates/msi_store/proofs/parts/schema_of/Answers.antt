use Rattle.std.proofs.Common.{rules, ◌≡◌, ◌∙◌, ap, arith, refl, sym}
use Rattle.std.specs.Prelude.{Err, Ok}
use Rattle.cfb.specs.Views.{file_case_table, mini_of}
use Rattle.cfb_mini.specs.Views.{allocator_of}
use Rattle.cfb_fat.specs.Tables.{IsJustifiedBySectors}
use Rattle.msi_columns.specs.Held.{columns_of}
use Rattle.msi_store.proofs.ShownTrees.{shown_later}
use Rattle.msi_stored.proofs.StoredLaws.{file_cause, file_then}
use Rattle.msi_stored.specs.Shown.{bytes_in}
use Rattle.msi_tables.specs.Held.{rows_held}
use Rattle.msi_tables.specs.Schema.{columns_name, tables_name, validation_name}
use Rattle.msi_store.proofs.Faults.{memory_cause}
use Rattle.msi_store.proofs.PartsRead.{Reads, Refused, columns_exit, err_at, schema_cause, schema_end, tables_exit, validation_exit}
use Rattle.msi_store.proofs.ErrorKinds.{schema_kind}
use Rattle.msi_store.proofs.parts.schema_of.Goals as goal

pub returns-in_err-tables-clause-shown : goal.returns-in_err-tables-clause-shown
returns-in_err-tables-clause-shown g c =
    let e = c.in_err-tables.field-0.0 in
    let is : c.from_residual-in_err-tables.result ≡ Err e = search (rules, c.from_residual-in_err-tables.ensures) in
    λ tree shown.
    let letters = file_case_table c.args.file.now in
    let pool = c.args.pool.now.pool in
    let long = sym c.long_string_refs-long.ensures in
    let cs = columns_of c.in_ok-tables_columns.field-0.items in
    tables_exit letters (bytes_in c.args.file.now) tree pool cs c.in_ok-tables_columns.ensures.ok c.from_residual-in_err-tables.result e is (c.in_err-tables.ensures.shown tree shown pool long (3, omega arith, refl))

pub returns-in_err-columns_columns-clause-cause : goal.returns-in_err-columns_columns-clause-cause
returns-in_err-columns_columns-clause-cause g c =
    let e = c.in_err-columns_columns.field-0.0 in
    let is : c.from_residual-in_err-columns_columns.result ≡ Err e = search (rules, c.from_residual-in_err-columns_columns.ensures) in
    let a = allocator_of (mini_of c.args.file.now) in
    let b = allocator_of (mini_of c.rows_by_columns.new.file) in
    err_at (IsJustifiedBySectors a b) c.from_residual-in_err-columns_columns.result e is (memory_cause a b e c.in_err-columns_columns.ensures.errors)

pub returns-in_err-columns-clause-shown : goal.returns-in_err-columns-clause-shown
returns-in_err-columns-clause-shown g c =
    let e = c.in_err-columns.field-0.0 in
    let is : c.from_residual-in_err-columns.result ≡ Err e = search (rules, c.from_residual-in_err-columns.ensures) in
    λ tree shown.
    let letters = file_case_table c.args.file.now in
    let pool = c.args.pool.now.pool in
    let long = sym c.long_string_refs-long.ensures in
    let cs = columns_of c.in_ok-tables_columns.field-0.items in
    let is_t = c.in_ok-tables.ensures.shown tree shown pool long (3, omega arith, refl) in
    let ds = columns_of c.in_ok-columns_columns.field-0.items in
    columns_exit letters (bytes_in c.args.file.now) tree pool cs c.in_ok-tables_columns.ensures.ok (rows_held c.in_ok-tables.tables.items) is_t ds c.in_ok-columns_columns.ensures.ok c.from_residual-in_err-columns.result e is
    (shown_later c.args.file.now c.rows_by_columns.new.file (λ l b t. Refused l b t pool columns_name ds e) c.rows_by_columns.ensures.only_reads (λ t h. c.in_err-columns.ensures.shown t h pool long (4, omega arith, refl)) tree shown)

pub returns-in_err-columns-clause-only_reads : goal.returns-in_err-columns-clause-only_reads
returns-in_err-columns-clause-only_reads g c = file_then c.args.file.now c.rows_by_columns.new.file c.rows_by_columns-2.new.file c.rows_by_columns.ensures.only_reads c.rows_by_columns-2.ensures.only_reads

pub returns-in_err-columns-clause-cause : goal.returns-in_err-columns-clause-cause
returns-in_err-columns-clause-cause g c =
    let e = c.in_err-columns.field-0.0 in
    let is : c.from_residual-in_err-columns.result ≡ Err e = search (rules, c.from_residual-in_err-columns.ensures) in
    let a = c.args.file.now in
    let b = c.rows_by_columns-2.new.file in
    err_at (IsJustifiedBySectors (allocator_of (mini_of a)) (allocator_of (mini_of b))) c.from_residual-in_err-columns.result e is
    (file_cause a c.rows_by_columns.new.file b e c.rows_by_columns.ensures.only_reads c.in_err-columns.ensures.cause)

pub returns-in_err-columns_of_validation-clause-only_reads : goal.returns-in_err-columns_of_validation-clause-only_reads
returns-in_err-columns_of_validation-clause-only_reads g c = file_then c.args.file.now c.rows_by_columns.new.file c.rows_by_columns-2.new.file c.rows_by_columns.ensures.only_reads c.rows_by_columns-2.ensures.only_reads

pub returns-in_err-validation-clause-shown : goal.returns-in_err-validation-clause-shown
returns-in_err-validation-clause-shown g c =
    let e = c.in_err-validation.field-0.0 in
    let is : c.from_residual-in_err-validation.result ≡ Err e = search (rules, c.from_residual-in_err-validation.ensures) in
    λ tree shown.
    let letters = file_case_table c.args.file.now in
    let pool = c.args.pool.now.pool in
    let long = sym c.long_string_refs-long.ensures in
    let cs = columns_of c.in_ok-tables_columns.field-0.items in
    let is_t = c.in_ok-tables.ensures.shown tree shown pool long (3, omega arith, refl) in
    let ds = columns_of c.in_ok-columns_columns.field-0.items in
    let first = c.rows_by_columns.new.file in
    let second = c.rows_by_columns-2.new.file in
    let is_c = shown_later c.args.file.now first (λ l b t. Reads l t pool columns_name ds (rows_held c.in_ok-columns.columns.items)) c.rows_by_columns.ensures.only_reads (λ t h. c.in_ok-columns.ensures.shown t h pool long (4, omega arith, refl)) tree shown in
    let vs = columns_of c.in_ok-columns_of_validation.columns_of_validation.items in
    validation_exit letters (bytes_in c.args.file.now) tree pool cs c.in_ok-tables_columns.ensures.ok (rows_held c.in_ok-tables.tables.items) is_t ds c.in_ok-columns_columns.ensures.ok
    (rows_held c.in_ok-columns.columns.items) is_c vs c.in_ok-columns_of_validation.ensures.ok c.from_residual-in_err-validation.result e is
    (shown_later c.args.file.now second (λ l b t. Refused l b t pool validation_name vs e) (file_then c.args.file.now first second c.rows_by_columns.ensures.only_reads c.rows_by_columns-2.ensures.only_reads)
    (λ t h. c.in_err-validation.ensures.shown t h pool long (5, omega arith, refl)) tree shown)

pub returns-in_err-validation-clause-only_reads : goal.returns-in_err-validation-clause-only_reads
returns-in_err-validation-clause-only_reads g c =
    let second = c.rows_by_columns-2.new.file in
    file_then c.args.file.now second c.rows_by_columns-3.new.file (file_then c.args.file.now c.rows_by_columns.new.file second c.rows_by_columns.ensures.only_reads c.rows_by_columns-2.ensures.only_reads) c.rows_by_columns-3.ensures.only_reads

pub returns-in_err-validation-clause-cause : goal.returns-in_err-validation-clause-cause
returns-in_err-validation-clause-cause g c =
    let e = c.in_err-validation.field-0.0 in
    let is : c.from_residual-in_err-validation.result ≡ Err e = search (rules, c.from_residual-in_err-validation.ensures) in
    let a = c.args.file.now in
    let second = c.rows_by_columns-2.new.file in
    let b = c.rows_by_columns-3.new.file in
    err_at (IsJustifiedBySectors (allocator_of (mini_of a)) (allocator_of (mini_of b))) c.from_residual-in_err-validation.result e is
    (file_cause a second b e (file_then a c.rows_by_columns.new.file second c.rows_by_columns.ensures.only_reads c.rows_by_columns-2.ensures.only_reads) c.in_err-validation.ensures.cause)

pub returns-clause-shown : goal.returns-clause-shown
returns-clause-shown g c tree shown =
    let letters = file_case_table c.args.file.now in
    let pool = c.args.pool.now.pool in
    let long = sym c.long_string_refs-long.ensures in
    let cs = columns_of c.in_ok-tables_columns.field-0.items in
    let is_t = c.in_ok-tables.ensures.shown tree shown pool long (3, omega arith, refl) in
    let ds = columns_of c.in_ok-columns_columns.field-0.items in
    let first = c.rows_by_columns.new.file in
    let second = c.rows_by_columns-2.new.file in
    let vs = columns_of c.in_ok-columns_of_validation.columns_of_validation.items in
    let at_t : Reads letters tree pool tables_name cs (rows_held c.deref.result.now) = is_t ∙ ap (λ xs. Ok (rows_held xs)) (sym c.deref.ensures.value) in
    let at_c : Reads letters tree pool columns_name ds (rows_held c.deref-2.result.now) =
    shown_later c.args.file.now first (λ l b t. Reads l t pool columns_name ds (rows_held c.in_ok-columns.columns.items)) c.rows_by_columns.ensures.only_reads (λ t h. c.in_ok-columns.ensures.shown t h pool long (4, omega arith, refl)) tree shown
    ∙ ap (λ xs. Ok (rows_held xs)) (sym c.deref-2.ensures.value) in
    let at_v : Reads letters tree pool validation_name vs (rows_held c.deref-3.result.now) =
    shown_later c.args.file.now second (λ l b t. Reads l t pool validation_name vs (rows_held c.in_ok-validation.validation.items))
    (file_then c.args.file.now first second c.rows_by_columns.ensures.only_reads c.rows_by_columns-2.ensures.only_reads) (λ t h. c.in_ok-validation.ensures.shown t h pool long (5, omega arith, refl)) tree shown
    ∙ ap (λ xs. Ok (rows_held xs)) (sym c.deref-3.ensures.value) in
    schema_end letters (bytes_in c.args.file.now) tree pool cs c.in_ok-tables_columns.ensures.ok (rows_held c.deref.result.now) at_t ds c.in_ok-columns_columns.ensures.ok
    (rows_held c.deref-2.result.now) at_c vs c.in_ok-columns_of_validation.ensures.ok (rows_held c.deref-3.result.now) at_v c.schema_tables.result c.schema_tables.ensures.ok c.schema_tables.ensures.errors

pub returns-clause-only_reads : goal.returns-clause-only_reads
returns-clause-only_reads g c =
    let second = c.rows_by_columns-2.new.file in
    file_then c.args.file.now second c.rows_by_columns-3.new.file (file_then c.args.file.now c.rows_by_columns.new.file second c.rows_by_columns.ensures.only_reads c.rows_by_columns-2.ensures.only_reads) c.rows_by_columns-3.ensures.only_reads

pub returns-clause-cause : goal.returns-clause-cause
returns-clause-cause g c = schema_cause (allocator_of (mini_of c.args.file.now)) (allocator_of (mini_of c.rows_by_columns-3.new.file)) _ c.schema_tables.result c.schema_tables.ensures.errors

pub returns-clause-errors : goal.returns-clause-errors
returns-clause-errors g c = schema_kind _ c.schema_tables.result c.schema_tables.ensures.errors
