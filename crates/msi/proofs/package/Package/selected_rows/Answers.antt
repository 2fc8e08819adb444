use Rattle.std.proofs.Common.{rules, ◌≡◌, ◌∙◌, ◌⊎◌, false, inl, length, map, refl, subst, sym, true}
use Rattle.std.specs.Prelude.{Err, IfErr, IfOk}
use Rattle.cfb.specs.Views.{file_case_table, mini_of}
use Rattle.cfb_fat.specs.Tables.{IsJustifiedBySectors}
use Rattle.cfb_medium.specs.declared.error.Error.{Error}
use Rattle.cfb_medium.specs.declared.error.Error.TheVariants.{Memory}
use Rattle.cfb_mini.specs.Views.{allocator_of}
use Rattle.msi_parts.specs.Whole.{Wide}
use Rattle.msi_query.specs.Answered.{answered}
use Rattle.msi_query.specs.Said.{query_of}
use Rattle.msi_store.proofs.Faults.{memory_cause}
use Rattle.msi_store.specs.Stores.{stored_in}
use Rattle.msi_tables.specs.Held.{heading_of, rows_held}
use Rattle.msi_tables.specs.Table.{row_data, table_named}
use Rattle.msi_tables.specs.declared.table.Table.{Table}
use Rattle.msi.proofs.OpenedPackages.{if_err_then}
use Rattle.msi.proofs.Selected.{held_whole, query_cause, read_answer, read_refused, read_tables, read_whole, refused_answer, refused_by, rows_answer, rows_by, tables_held, whole_answer}
use Rattle.msi.specs.Opened.{file_in, pool_in, tables_in}
use Rattle.msi.specs.Rows.{rows_shown}
use Rattle.msi.specs.Selected.{IsQueryError, tables_at}
use Rattle.msi.proofs.package.Package.selected_rows.Goals as goal

pub returns-then-not-are_wide-clause-answer : goal.returns-then-not-are_wide-clause-answer
returns-then-not-are_wide-clause-answer g c P h =
    let it = c.args.self.now in
    let whole = whole_answer it (table_named P.tables) (tables_held it P h) (held_whole it P h) (query_of c.args.query.now) (answered (c.in-Ok.table, c.in-Ok.rows)) (c.in-Ok.ensures.answer (table_named P.tables) (tables_held it P h)) in
    let is : c.are_wide.result ≡ true = c.are_wide.ensures.1 (subst (λ rows. Wide (length (heading_of c.in-Ok.table).columns) (rows_held rows)) (sym c.deref.ensures.value) whole) in
    let both : true ≡ false = sym is ∙ c.if-not-are_wide.true in
    absurd (cc)

pub returns-then-not-are_wide-clause-read : goal.returns-then-not-are_wide-clause-read
returns-then-not-are_wide-clause-read g c tree held =
    let it = c.args.self.now in
    let whole = whole_answer it (tables_at (file_case_table (file_in it)) tree (tables_in it)) (read_tables it tree held) (read_whole it tree held) (query_of c.args.query.now) (answered (c.in-Ok.table, c.in-Ok.rows)) (c.in-Ok.ensures.answer (tables_at (file_case_table (file_in it)) tree (tables_in it)) (read_tables it tree held)) in
    let is : c.are_wide.result ≡ true = c.are_wide.ensures.1 (subst (λ rows. Wide (length (heading_of c.in-Ok.table).columns) (rows_held rows)) (sym c.deref.ensures.value) whole) in
    let both : true ≡ false = sym is ∙ c.if-not-are_wide.true in
    absurd (cc)

pub returns-in_err-new-in-Ok-clause-cause : goal.returns-in_err-new-in-Ok-clause-cause
returns-in_err-new-in-Ok-clause-cause g c =
    let a = allocator_of (mini_of (file_in c.args.self.now)) in
    let b = allocator_of (mini_of (stored_in c.apply.new.source).0) in
    let is : c.from_residual.result ≡ Err Memory = search (rules, c.from_residual.ensures) in
    subst (λ r. IfErr r (λ e. IsJustifiedBySectors a b e ⊎ IsQueryError c.args.self.now c.args.query.now e)) (sym is) (inl (memory_cause a b Memory refl))

pub returns-in_ok-new-in-Ok-clause-answer : goal.returns-in_ok-new-in-Ok-clause-answer
returns-in_ok-new-in-Ok-clause-answer g c P h =
    let it = c.args.self.now in
    rows_answer it P h (query_of c.args.query.now) c.rows_of_cells.result
    (rows_by it (table_named P.tables) (tables_held it P h) (held_whole it P h) (query_of c.args.query.now) (answered (c.in-Ok.table, c.in-Ok.rows)) (c.in-Ok.ensures.answer (table_named P.tables) (tables_held it P h)) c.rows_of_cells.result
    (subst (λ (t : Table). IfOk c.rows_of_cells.result (λ rows. rows_shown rows ≡ (map (λ c. c.name) (heading_of t).columns, map (row_data (pool_in it).pool) (rows_held c.in-Ok.rows.items))))
    c.in_ok-new-in-Ok.ensures.ok c.rows_of_cells.ensures.shown)
    c.rows_of_cells.ensures.errors)

pub returns-in_ok-new-in-Ok-clause-read : goal.returns-in_ok-new-in-Ok-clause-read
returns-in_ok-new-in-Ok-clause-read g c tree held =
    let it = c.args.self.now in
    read_answer it tree held c.args.query.now c.rows_of_cells.result
    (rows_by it (tables_at (file_case_table (file_in it)) tree (tables_in it)) (read_tables it tree held) (read_whole it tree held) (query_of c.args.query.now) (answered (c.in-Ok.table, c.in-Ok.rows)) (c.in-Ok.ensures.answer (tables_at (file_case_table (file_in it)) tree (tables_in it)) (read_tables it tree held)) c.rows_of_cells.result
    (subst (λ (t : Table). IfOk c.rows_of_cells.result (λ rows. rows_shown rows ≡ (map (λ c. c.name) (heading_of t).columns, map (row_data (pool_in it).pool) (rows_held c.in-Ok.rows.items))))
    c.in_ok-new-in-Ok.ensures.ok c.rows_of_cells.ensures.shown)
    c.rows_of_cells.ensures.errors)

pub returns-in_ok-new-in-Ok-clause-cause : goal.returns-in_ok-new-in-Ok-clause-cause
returns-in_ok-new-in-Ok-clause-cause g c =
    let a = allocator_of (mini_of (file_in c.args.self.now)) in
    let b = allocator_of (mini_of (stored_in c.apply.new.source).0) in
    if_err_then (λ (e : Error). e ≡ Memory) (λ e. IsJustifiedBySectors a b e ⊎ IsQueryError c.args.self.now c.args.query.now e) c.rows_of_cells.result c.rows_of_cells.ensures.errors
    (λ e memory. inl (memory_cause a b e memory))

pub returns-in-Err-clause-answer : goal.returns-in-Err-clause-answer
returns-in-Err-clause-answer g c P h =
    let it = c.args.self.now in
    refused_answer it P h (query_of c.args.query.now) c.in-Err.error
    (refused_by it (table_named P.tables) (tables_held it P h) (held_whole it P h) (query_of c.args.query.now) (stored_in c.apply.new.source) c.in-Err.error c.in-Err.ensures.answer)

pub returns-in-Err-clause-read : goal.returns-in-Err-clause-read
returns-in-Err-clause-read g c tree held =
    let it = c.args.self.now in
    read_refused it tree held c.args.query.now c.in-Err.error
    (refused_by it (tables_at (file_case_table (file_in it)) tree (tables_in it)) (read_tables it tree held) (read_whole it tree held) (query_of c.args.query.now) (stored_in c.apply.new.source) c.in-Err.error c.in-Err.ensures.answer)

pub returns-in-Err-clause-cause : goal.returns-in-Err-clause-cause
returns-in-Err-clause-cause g c = query_cause c.args.self.now (stored_in c.apply.new.source) (query_of c.args.query.now) c.in-Err.error c.in-Err.ensures.answer
