use Rattle.std.proofs.Common.{rules, ◌≡◌, false, refl}
use Rattle.std.specs.Prelude.{Err}
use Rattle.cfb.specs.Views.{file_case_table, mini_of}
use Rattle.cfb_fat.specs.Tables.{IsJustifiedBySectors}
use Rattle.cfb_mini.specs.Views.{allocator_of}
use Rattle.msi_parts.specs.Parts.{HasSchema, IsBegun, IsBuilt, builder_in, built_in, schema_in}
use Rattle.msi_schema.specs.Headings.{headings_in}
use Rattle.msi_store.proofs.ShownTrees.{shown_later}
use Rattle.msi_stored.proofs.StoredLaws.{file_cause, file_then}
use Rattle.msi_stored.specs.Shown.{bytes_in}
use Rattle.msi_store.proofs.PartsHeld.{Leaves, builder_exit, kind_exit, parts_end, pool_exit, schema_exit, summary_exit}
use Rattle.msi_store.proofs.PartsRead.{err_at}
use Rattle.msi_store.proofs.parts.read_parts.Goals as goal

pub returns-in_err-kind-clause-shown : goal.returns-in_err-kind-clause-shown
returns-in_err-kind-clause-shown g c =
    let e = c.in_err-kind.field-0.0 in
    let is : c.from_residual.result ≡ Err e = search (rules, c.from_residual.ensures) in
    λ tree shown may.
    kind_exit (file_case_table c.args.file.now) (bytes_in c.args.file.now) tree may c.from_residual.result e is (c.in_err-kind.ensures.shown tree shown)

pub returns-in_err-summary-clause-shown : goal.returns-in_err-summary-clause-shown
returns-in_err-summary-clause-shown g c =
    let e = c.in_err-summary.field-0.0 in
    let is : c.from_residual-in_err-summary.result ≡ Err e = search (rules, c.from_residual-in_err-summary.ensures) in
    λ tree shown may.
    summary_exit (file_case_table c.args.file.now) (bytes_in c.args.file.now) tree may c.in_ok-kind.kind (c.in_ok-kind.ensures.shown tree shown) c.from_residual-in_err-summary.result e is
    (c.in_err-summary.ensures.shown tree shown)

pub returns-in_err-builder-clause-shown : goal.returns-in_err-builder-clause-shown
returns-in_err-builder-clause-shown g c =
    let e = c.in_err-builder.field-0.0 in
    let is : c.from_residual-in_err-builder.result ≡ Err e = search (rules, c.from_residual-in_err-builder.ensures) in
    λ tree shown may.
    let a = c.args.file.now in
    let first = c.summary_of.new.file in
    let letters = file_case_table c.args.file.now in
    let is_kind = c.in_ok-kind.ensures.shown tree shown in
    let is_summary = c.in_ok-summary.ensures.shown tree shown in
    builder_exit letters (bytes_in c.args.file.now) tree may c.in_ok-kind.kind is_kind c.in_ok-summary.summary is_summary c.from_residual-in_err-builder.result e is
    (shown_later a first (λ l b t. Leaves l b (builder_in l t) e) c.summary_of.ensures.only_reads c.in_err-builder.ensures.shown tree shown)

pub returns-in_err-builder-clause-only_reads : goal.returns-in_err-builder-clause-only_reads
returns-in_err-builder-clause-only_reads g c = file_then c.args.file.now c.summary_of.new.file c.builder_of.new.file c.summary_of.ensures.only_reads c.builder_of.ensures.only_reads

pub returns-in_err-pool-clause-shown : goal.returns-in_err-pool-clause-shown
returns-in_err-pool-clause-shown g c =
    let e = c.in_err-pool.field-0.0 in
    let is : c.from_residual-in_err-pool.result ≡ Err e = search (rules, c.from_residual-in_err-pool.ensures) in
    λ tree shown may.
    let a = c.args.file.now in
    let first = c.summary_of.new.file in
    let second = c.builder_of.new.file in
    let letters = file_case_table c.args.file.now in
    let is_kind = c.in_ok-kind.ensures.shown tree shown in
    let is_summary = c.in_ok-summary.ensures.shown tree shown in
    let is_begun = shown_later a first (λ l b t. IsBegun l t c.in_ok-builder.builder) c.summary_of.ensures.only_reads c.in_ok-builder.ensures.shown tree shown in
    pool_exit letters (bytes_in c.args.file.now) tree may c.in_ok-kind.kind is_kind c.in_ok-summary.summary is_summary c.in_ok-builder.builder is_begun c.from_residual-in_err-pool.result e is
    (shown_later a second (λ l b t. Leaves l b (built_in l t c.in_ok-builder.builder) e) (file_then a first second c.summary_of.ensures.only_reads c.builder_of.ensures.only_reads) c.in_err-pool.ensures.shown tree shown)

pub returns-in_err-pool-clause-only_reads : goal.returns-in_err-pool-clause-only_reads
returns-in_err-pool-clause-only_reads g c =
    let a = c.args.file.now in
    let first = c.summary_of.new.file in
    let second = c.builder_of.new.file in
    let third = c.built_of.new.file in
    file_then a second third (file_then a first second c.summary_of.ensures.only_reads c.builder_of.ensures.only_reads) c.built_of.ensures.only_reads

pub returns-in_err-pool-clause-cause : goal.returns-in_err-pool-clause-cause
returns-in_err-pool-clause-cause g c =
    let e = c.in_err-pool.field-0.0 in
    let is : c.from_residual-in_err-pool.result ≡ Err e = search (rules, c.from_residual-in_err-pool.ensures) in
    let a = c.args.file.now in
    let first = c.summary_of.new.file in
    let second = c.builder_of.new.file in
    err_at (IsJustifiedBySectors (allocator_of (mini_of a)) (allocator_of (mini_of c.built_of.new.file))) c.from_residual-in_err-pool.result e is
    (file_cause a second c.built_of.new.file e (file_then a first second c.summary_of.ensures.only_reads c.builder_of.ensures.only_reads) c.in_err-pool.ensures.cause)

pub returns-in_err-tables-clause-shown : goal.returns-in_err-tables-clause-shown
returns-in_err-tables-clause-shown g c =
    let e = c.in_err-tables.field-0.0 in
    let is : c.from_residual-in_err-tables.result ≡ Err e = search (rules, c.from_residual-in_err-tables.ensures) in
    λ tree shown may.
    let a = c.args.file.now in
    let first = c.summary_of.new.file in
    let second = c.builder_of.new.file in
    let third = c.built_of.new.file in
    let letters = file_case_table c.args.file.now in
    let is_kind = c.in_ok-kind.ensures.shown tree shown in
    let is_summary = c.in_ok-summary.ensures.shown tree shown in
    let is_begun = shown_later a first (λ l b t. IsBegun l t c.in_ok-builder.builder) c.summary_of.ensures.only_reads c.in_ok-builder.ensures.shown tree shown in
    let pool = c.in_ok-pool.pool in
    let is_built = shown_later a second (λ l b t. IsBuilt l t c.in_ok-builder.builder pool.pool c.in_ok-pool.gives_back × (pool.modified ≡ false)) (file_then a first second c.summary_of.ensures.only_reads c.builder_of.ensures.only_reads) c.in_ok-pool.ensures.shown tree shown in
    schema_exit letters (bytes_in c.args.file.now) tree may c.in_ok-kind.kind is_kind c.in_ok-summary.summary is_summary c.in_ok-builder.builder is_begun pool.pool c.in_ok-pool.gives_back is_built.0
    c.from_residual-in_err-tables.result e is (shown_later a third (λ l b t. Leaves l b (schema_in l t pool.pool) e) (file_then a second third (file_then a first second c.summary_of.ensures.only_reads c.builder_of.ensures.only_reads) c.built_of.ensures.only_reads) c.in_err-tables.ensures.shown tree shown)

pub returns-in_err-tables-clause-only_reads : goal.returns-in_err-tables-clause-only_reads
returns-in_err-tables-clause-only_reads g c =
    let a = c.args.file.now in
    let first = c.summary_of.new.file in
    let second = c.builder_of.new.file in
    let third = c.built_of.new.file in
    file_then a third c.schema_of.new.file (file_then a second third (file_then a first second c.summary_of.ensures.only_reads c.builder_of.ensures.only_reads) c.built_of.ensures.only_reads) c.schema_of.ensures.only_reads

pub returns-in_err-tables-clause-cause : goal.returns-in_err-tables-clause-cause
returns-in_err-tables-clause-cause g c =
    let e = c.in_err-tables.field-0.0 in
    let is : c.from_residual-in_err-tables.result ≡ Err e = search (rules, c.from_residual-in_err-tables.ensures) in
    let a = c.args.file.now in
    let first = c.summary_of.new.file in
    let second = c.builder_of.new.file in
    let third = c.built_of.new.file in
    err_at (IsJustifiedBySectors (allocator_of (mini_of a)) (allocator_of (mini_of c.schema_of.new.file))) c.from_residual-in_err-tables.result e is
    (file_cause a third c.schema_of.new.file e (file_then a second third (file_then a first second c.summary_of.ensures.only_reads c.builder_of.ensures.only_reads) c.built_of.ensures.only_reads) c.in_err-tables.ensures.cause)

pub returns-clause-shown : goal.returns-clause-shown
returns-clause-shown g c tree shown may =
    let a = c.args.file.now in
    let first = c.summary_of.new.file in
    let second = c.builder_of.new.file in
    let third = c.built_of.new.file in
    let letters = file_case_table c.args.file.now in
    let is_kind = c.in_ok-kind.ensures.shown tree shown in
    let is_summary = c.in_ok-summary.ensures.shown tree shown in
    let is_begun = shown_later a first (λ l b t. IsBegun l t c.in_ok-builder.builder) c.summary_of.ensures.only_reads c.in_ok-builder.ensures.shown tree shown in
    let pool = c.in_ok-pool.pool in
    let is_built = shown_later a second (λ l b t. IsBuilt l t c.in_ok-builder.builder pool.pool c.in_ok-pool.gives_back × (pool.modified ≡ false)) (file_then a first second c.summary_of.ensures.only_reads c.builder_of.ensures.only_reads) c.in_ok-pool.ensures.shown tree shown in
    parts_end letters (bytes_in c.args.file.now) tree may c.in_ok-kind.kind is_kind c.in_ok-summary.summary is_summary c.in_ok-builder.builder is_begun pool.pool c.in_ok-pool.gives_back is_built.0 _ refl refl refl refl is_built.1
    (shown_later a third (λ l b t. HasSchema l t pool.pool (headings_in c.in_ok-tables.tables.items)) (file_then a second third (file_then a first second c.summary_of.ensures.only_reads c.builder_of.ensures.only_reads) c.built_of.ensures.only_reads) c.in_ok-tables.ensures.shown tree shown)

pub returns-clause-only_reads : goal.returns-clause-only_reads
returns-clause-only_reads g c =
    let a = c.args.file.now in
    let first = c.summary_of.new.file in
    let second = c.builder_of.new.file in
    let third = c.built_of.new.file in
    file_then a third c.schema_of.new.file (file_then a second third (file_then a first second c.summary_of.ensures.only_reads c.builder_of.ensures.only_reads) c.built_of.ensures.only_reads) c.schema_of.ensures.only_reads
