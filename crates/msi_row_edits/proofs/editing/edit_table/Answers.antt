use Rattle.std.proofs.Common.{◌∙◌, ℕ, inl, length, rules, subst, sym, List, Ok, Err}
use Rattle.cfb.specs.Views.{mini_of}
use Rattle.cfb_medium.specs.Calls.{IsFaultOrInvalidInputIf}
use Rattle.cfb_mini.specs.Views.{allocator_of}
use Rattle.cfb_chain_io.proofs.GoingOn.{goes_then, rests_go_on}
use Rattle.msi_pool.specs.PoolDraft.{adopted}
use Rattle.msi_tables.specs.Held.{heading_of}
use Rattle.msi_row_edits.specs.Edited.{EditsTable, PutsTable}
use Rattle.std.specs.Rc.{rc_value}
use Rattle.msi_row_edits.specs.Asked.{asked, rule_of}
use Rattle.cfb_fat.specs.Keeping.{rests_cause}
use Rattle.msi_row_edits.proofs.Refusals.{own_kind, own_so, own_unput, unput_kind, unput_not_full, IsOwn}
use Rattle.msi_spec.specs.Package.{stream_name}
use Rattle.msi_stored.specs.Room.{IsFullForName}
use Rattle.msi_row_edits.proofs.Exits.{edit_done, edit_fault, edit_full, edit_refused}
use Rattle.msi_row_edits.proofs.editing.edit_table.Goals as goal

pub returns-in-Err-clause-edits : goal.returns-in-Err-clause-edits
returns-in-Err-clause-edits g c =
    edit_refused (asked c.args.query.now) (heading_of (rc_value c.args.table.now)) c.args.file.now c.prepared_edit.new.file c.args.pool c.in-Err.error c.in-Err.ensures.only_reads c.in-Err.ensures.answer

pub returns-in-Err-make_room-clause-edits : goal.returns-in-Err-make_room-clause-edits
returns-in-Err-make_room-clause-edits g c =
    let h = heading_of (rc_value c.args.table.now) in
    let q = asked c.args.query.now in
    subst (λ after. EditsTable (rule_of q h.name) h (Err c.in-Err-make_room.error) c.args.file.now c.prepared_edit.new.file c.args.pool after) (sym c.in-Err-make_room.ensures.after_error)
    (edit_refused q h c.args.file.now c.prepared_edit.new.file c.args.pool c.in-Err-make_room.error c.in-Ok.ensures.only_reads (λ tree held wide rows read. inl (subst (IsFaultOrInvalidInputIf ⊥) (sym c.in-Err-make_room.ensures.errors) tt)))

pub returns-in-Err-put_bytes-clause-edits : goal.returns-in-Err-put_bytes-clause-edits
returns-in-Err-put_bytes-clause-edits g c =
    let h = heading_of (rc_value c.args.table.now) in
    let q = asked c.args.query.now in
    subst (λ after. EditsTable (rule_of q h.name) h (Err c.in-Err-put_bytes.error) c.args.file.now c.put_bytes.new.file c.args.pool after) (sym (c.give_up.ensures ∙ c.in-Ok-make_room.ensures.state))
    (edit_fault q h c.args.file.now c.prepared_edit.new.file c.put_bytes.new.file c.in-Ok.ensures.only_reads c.deref-2.result.now c.args.pool c.in-Err-put_bytes.error
    (subst (λ t. PutsTable (heading_of t).name c.deref-2.result.now (Err c.in-Err-put_bytes.error) c.prepared_edit.new.file c.put_bytes.new.file) c.deref.ensures c.in-Err-put_bytes.ensures.puts))

pub returns-in-Err-put_bytes-clause-invariants : goal.returns-in-Err-put_bytes-clause-invariants
returns-in-Err-put_bytes-clause-invariants g c =
    goes_then (allocator_of (mini_of c.args.file.now)) (allocator_of (mini_of c.prepared_edit.new.file)) (allocator_of (mini_of c.put_bytes.new.file))
    (rests_go_on (allocator_of (mini_of c.args.file.now)) (allocator_of (mini_of c.prepared_edit.new.file)) (search (rules, c.in-Ok.ensures.only_reads))) c.in-Err-put_bytes.ensures.invariants

pub returns-clause-edits : goal.returns-clause-edits
returns-clause-edits g c =
    let h = heading_of (rc_value c.args.table.now) in
    let q = asked c.args.query.now in
    let puts : PutsTable h.name c.in-Ok.it.0.items (Ok tt) c.prepared_edit.new.file c.put_bytes.new.file =
    subst (λ b. PutsTable h.name b (Ok tt) c.prepared_edit.new.file c.put_bytes.new.file) c.deref-2.ensures.value
    (subst (λ t. PutsTable (heading_of t).name c.deref-2.result.now (Ok tt) c.prepared_edit.new.file c.put_bytes.new.file) c.deref.ensures c.in-Ok-put_bytes.ensures.puts) in
    subst (λ after. EditsTable (rule_of q h.name) h (Ok tt) c.args.file.now c.put_bytes.new.file c.args.pool after) (sym (c.adopt.ensures ∙ c.in-Ok-make_room.ensures.next))
    (edit_done q h c.args.file.now c.prepared_edit.new.file c.put_bytes.new.file c.in-Ok.ensures.only_reads c.in-Ok.it.0.items c.args.pool (adopted c.args.pool.pool.places c.in-Ok.it.1) c.in-Ok.ensures.changes.marked c.in-Ok.ensures.answer puts)

pub returns-clause-invariants : goal.returns-clause-invariants
returns-clause-invariants g c =
    goes_then (allocator_of (mini_of c.args.file.now)) (allocator_of (mini_of c.prepared_edit.new.file)) (allocator_of (mini_of c.put_bytes.new.file))
    (rests_go_on (allocator_of (mini_of c.args.file.now)) (allocator_of (mini_of c.prepared_edit.new.file)) (search (rules, c.in-Ok.ensures.only_reads))) c.in-Ok-put_bytes.ensures.invariants

pub returns-in-Err-make_room-clause-cause : goal.returns-in-Err-make_room-clause-cause
returns-in-Err-make_room-clause-cause g c =
    own_so (allocator_of (mini_of c.args.file.now)) (allocator_of (mini_of c.prepared_edit.new.file)) c.in-Err-make_room.error (subst IsOwn (sym c.in-Err-make_room.ensures.errors) tt)

pub returns-in-Err-put_bytes-clause-cause : goal.returns-in-Err-put_bytes-clause-cause
returns-in-Err-put_bytes-clause-cause g c =
    rests_cause (allocator_of (mini_of c.args.file.now)) (allocator_of (mini_of c.prepared_edit.new.file)) (allocator_of (mini_of c.put_bytes.new.file)) c.in-Err-put_bytes.error
    (search (rules, c.in-Ok.ensures.only_reads)) c.in-Err-put_bytes.ensures.cause

pub returns-in-Err-make_room-clause-errors : goal.returns-in-Err-make_room-clause-errors
returns-in-Err-make_room-clause-errors g c = own_kind c.in-Err-make_room.error (subst IsOwn (sym c.in-Err-make_room.ensures.errors) tt)

pub returns-in-Err-clause-full_only_if : goal.returns-in-Err-clause-full_only_if
returns-in-Err-clause-full_only_if g c = λ is live tree P t m s of_it. unput_not_full c.in-Err.error c.in-Err.ensures.errors is

pub returns-in-Err-make_room-clause-full_only_if : goal.returns-in-Err-make_room-clause-full_only_if
returns-in-Err-make_room-clause-full_only_if g c = λ is live tree P t m s of_it. unput_not_full c.in-Err-make_room.error (own_unput c.in-Err-make_room.error (subst IsOwn (sym c.in-Err-make_room.ensures.errors) tt)) is

pub returns-in-Err-put_bytes-clause-full_only_if : goal.returns-in-Err-put_bytes-clause-full_only_if
returns-in-Err-put_bytes-clause-full_only_if g c = λ is live tree P t m s of_it.
    let h = heading_of (rc_value c.args.table.now) in
    let bytes = c.in-Ok.it.0.items in
    let mid = c.prepared_edit.new.file in
    let full = c.in-Err-put_bytes.ensures.full_only_if is live in
    let named : IsFullForName mid (stream_name h.name) (length c.deref-2.result.now) = subst (λ t. IsFullForName mid (stream_name (heading_of t).name) (length c.deref-2.result.now)) c.deref.ensures full in
    edit_full (asked c.args.query.now) h c.args.file.now mid c.put_bytes.new.file c.in-Ok.ensures.only_reads bytes c.args.pool (adopted c.args.pool.pool.places c.in-Ok.it.1).pool c.in-Ok.ensures.answer
    (subst (λ (b : List ℕ). IsFullForName mid (stream_name h.name) (length b)) c.deref-2.ensures.value named) tree P t m s of_it

pub returns-in-Err-clause-errors : goal.returns-in-Err-clause-errors
returns-in-Err-clause-errors g c = unput_kind c.in-Err.error c.in-Err.ensures.errors
