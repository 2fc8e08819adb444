use Rattle.std.proofs.Common.{Ok, Err, subst}
use Rattle.cfb.specs.Views.{mini_of}
use Rattle.cfb_mini.specs.Views.{allocator_of}
use Rattle.cfb_chain_io.proofs.GoingOn.{goes_cause, goes_then}
use Rattle.msi_row_edits.specs.Edited.{PutsTable}
use Rattle.msi_tables.specs.Schema.{tables_name, validation_name}
use Rattle.msi_table_edits.proofs.ReplacedStreams.{later_cause, rest_replaced, tables_unput, validation_unput}
use Rattle.msi_table_edits.proofs.replacing.replace_rest.Goals as goal

pub returns-in-Err-clause-replaces : goal.returns-in-Err-clause-replaces
returns-in-Err-clause-replaces g c =
    let b = c.args.bytes.now in
    tables_unput c.args.name.now b.columns.items b.tables.items b.validation.items c.args.file.now c.put_table_bytes.new.file c.in-Err.error
    (subst (λ x. PutsTable tables_name x (Err c.in-Err.error) c.args.file.now c.put_table_bytes.new.file) c.deref.ensures.value c.in-Err.ensures.puts)

pub returns-in-Err-put_table_bytes-clause-replaces : goal.returns-in-Err-put_table_bytes-clause-replaces
returns-in-Err-put_table_bytes-clause-replaces g c =
    let b = c.args.bytes.now in
    validation_unput c.args.name.now b.columns.items b.tables.items b.validation.items c.args.file.now c.put_table_bytes.new.file
    (subst (λ x. PutsTable tables_name x (Ok tt) c.args.file.now c.put_table_bytes.new.file) c.deref.ensures.value c.in-Ok.ensures.puts) c.put_table_bytes-2.new.file c.in-Err-put_table_bytes.error
    (subst (λ x. PutsTable validation_name x (Err c.in-Err-put_table_bytes.error) c.put_table_bytes.new.file c.put_table_bytes-2.new.file) c.deref-2.ensures.value c.in-Err-put_table_bytes.ensures.puts)

pub returns-in-Err-put_table_bytes-clause-invariants : goal.returns-in-Err-put_table_bytes-clause-invariants
returns-in-Err-put_table_bytes-clause-invariants g c = goes_then _ _ _ c.put_table_bytes.ensures.invariants c.put_table_bytes-2.ensures.invariants

pub returns-in-Err-put_table_bytes-clause-cause : goal.returns-in-Err-put_table_bytes-clause-cause
returns-in-Err-put_table_bytes-clause-cause g c =
    goes_cause (allocator_of (mini_of c.args.file.now)) (allocator_of (mini_of c.put_table_bytes.new.file)) (allocator_of (mini_of c.put_table_bytes-2.new.file)) c.in-Err-put_table_bytes.error
    c.put_table_bytes.ensures.invariants c.in-Ok.ensures.not_failed c.in-Err-put_table_bytes.ensures.cause

pub returns-clause-replaces : goal.returns-clause-replaces
returns-clause-replaces g c =
    let b = c.args.bytes.now in
    rest_replaced c.args.name.now b.columns.items b.tables.items b.validation.items c.args.file.now c.put_table_bytes.new.file
    (subst (λ x. PutsTable tables_name x (Ok tt) c.args.file.now c.put_table_bytes.new.file) c.deref.ensures.value c.in-Ok.ensures.puts) c.put_table_bytes-2.new.file
    (subst (λ x. PutsTable validation_name x (Ok tt) c.put_table_bytes.new.file c.put_table_bytes-2.new.file) c.deref-2.ensures.value c.in-Ok-put_table_bytes.ensures.puts) c.remove_table.new.file c.remove_table.result
    c.remove_table.ensures.removes

pub returns-clause-invariants : goal.returns-clause-invariants
returns-clause-invariants g c = goes_then _ _ _ c.put_table_bytes.ensures.invariants (goes_then _ _ _ c.put_table_bytes-2.ensures.invariants c.remove_table.ensures.invariants)

pub returns-clause-cause : goal.returns-clause-cause
returns-clause-cause g c =
    later_cause (allocator_of (mini_of c.args.file.now)) (allocator_of (mini_of c.put_table_bytes-2.new.file)) (allocator_of (mini_of c.remove_table.new.file)) c.remove_table.result
    (goes_then _ _ _ c.put_table_bytes.ensures.invariants c.put_table_bytes-2.ensures.invariants) c.in-Ok-put_table_bytes.ensures.not_failed c.remove_table.ensures.cause
