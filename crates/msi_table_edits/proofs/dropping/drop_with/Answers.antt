use Rattle.std.proofs.Common.{◌∙◌, Ok, Err, inl, refl, rules, subst, sym}
use Rattle.cfb.specs.Views.{mini_of}
use Rattle.cfb_fat.specs.Keeping.{rests_cause}
use Rattle.cfb_medium.specs.Calls.{IsFaultOrInvalidInputIf}
use Rattle.cfb_mini.specs.Views.{allocator_of}
use Rattle.cfb_chain_io.proofs.GoingOn.{goes_then, rests_go_on}
use Rattle.msi_row_edits.proofs.Exits.{first_cause, first_kind, first_unput}
use Rattle.msi_row_edits.specs.Edited.{IsEditErrorButFull}
use Rattle.msi_row_edits.proofs.Refusals.{own_kind, own_so, unput_kind, unput_not_full, IsOwn}
use Rattle.msi_pool.specs.PoolDraft.{adopted}
use Rattle.msi_schema.specs.Headings.{headings_in}
use Rattle.msi_store.specs.Stores.{file_in}
use Rattle.msi_table_edits.specs.Drops.{DropsTable}
use Rattle.msi_table_edits.specs.Remains.{MemoryLacksDropped}
use Rattle.msi_table_edits.proofs.DropExits.{drop_first, drop_full, drop_unprepared, drop_unwritten, drop_written}
use Rattle.msi_table_edits.proofs.dropping.drop_with.Goals as goal

pub returns-in-Err-clause-drops : goal.returns-in-Err-clause-drops
returns-in-Err-clause-drops g c = drop_first c.args.name.now c.args.store.now c.args.pool c.in-Err.error c.in-Err.ensures.refused_only_if

pub returns-in-Err-clause-cause : goal.returns-in-Err-clause-cause
returns-in-Err-clause-cause g c = first_cause (file_in c.args.store.now) c.in-Err.error c.in-Err.ensures.refused_only_if

pub returns-in-Err-clause-errors : goal.returns-in-Err-clause-errors
returns-in-Err-clause-errors g c = first_kind (file_in c.args.store.now) c.in-Err.error c.in-Err.ensures.refused_only_if

pub returns-in-Err-prepared_drop-clause-drops : goal.returns-in-Err-prepared_drop-clause-drops
returns-in-Err-prepared_drop-clause-drops g c =
    let old = c.args.store.now in
    drop_unprepared c.args.name.now old c.in-Ok.ensures.open c.args.pool (record old { file = c.prepared_drop.new.file }) c.in-Err-prepared_drop.error c.in-Err-prepared_drop.ensures.only_reads refl
    (λ tree P m s held. c.in-Err-prepared_drop.ensures.answer tree P m s (subst (λ ts. MemoryLacksDropped (headings_in ts) c.args.pool.pool P) (sym c.deref.ensures.value) held))

pub returns-in-Err-make_room-clause-drops : goal.returns-in-Err-make_room-clause-drops
returns-in-Err-make_room-clause-drops g c =
    let old = c.args.store.now in
    let e = c.in-Err-make_room.error in
    subst (λ after. DropsTable c.args.name.now (Err e) old (record old { file = c.prepared_drop.new.file }) c.args.pool after) (sym c.in-Err-make_room.ensures.after_error)
    (drop_unprepared c.args.name.now old c.in-Ok.ensures.open c.args.pool (record old { file = c.prepared_drop.new.file }) e c.in-Ok-prepared_drop.ensures.only_reads refl
    (λ tree P m s held. inl (subst (IsFaultOrInvalidInputIf ⊥) (sym c.in-Err-make_room.ensures.errors) tt)))

pub returns-in-Err-make_room-clause-cause : goal.returns-in-Err-make_room-clause-cause
returns-in-Err-make_room-clause-cause g c =
    own_so (allocator_of (mini_of (file_in c.args.store.now))) (allocator_of (mini_of c.prepared_drop.new.file)) c.in-Err-make_room.error (subst IsOwn (sym c.in-Err-make_room.ensures.errors) tt)

pub returns-in-Err-make_room-clause-errors : goal.returns-in-Err-make_room-clause-errors
returns-in-Err-make_room-clause-errors g c = own_kind c.in-Err-make_room.error (subst IsOwn (sym c.in-Err-make_room.ensures.errors) tt)

pub returns-in-Err-replace_streams-clause-drops : goal.returns-in-Err-replace_streams-clause-drops
returns-in-Err-replace_streams-clause-drops g c =
    let old = c.args.store.now in
    let e = c.in-Err-replace_streams.error in
    let b = c.in-Ok-prepared_drop.remains.0 in
    subst (λ after. DropsTable c.args.name.now (Err e) old (record old { file = c.replace_streams.new.file }) c.args.pool after) (sym (c.give_up.ensures ∙ c.in-Ok-make_room.ensures.state))
    (drop_unwritten c.args.name.now old c.in-Ok.ensures.open c.args.pool c.prepared_drop.new.file c.in-Ok-prepared_drop.ensures.only_reads b.columns.items b.tables.items b.validation.items (adopted c.args.pool.pool.places c.in-Ok-prepared_drop.remains.1)
    (λ tree P m s held. c.in-Ok-prepared_drop.ensures.answer tree P m s (subst (λ ts. MemoryLacksDropped (headings_in ts) c.args.pool.pool P) (sym c.deref.ensures.value) held))
    (record old { file = c.replace_streams.new.file }) e refl c.in-Err-replace_streams.ensures.replaces)

pub returns-in-Err-replace_streams-clause-invariants : goal.returns-in-Err-replace_streams-clause-invariants
returns-in-Err-replace_streams-clause-invariants g c =
    goes_then (allocator_of (mini_of (file_in c.args.store.now))) (allocator_of (mini_of c.prepared_drop.new.file)) (allocator_of (mini_of c.replace_streams.new.file))
    (rests_go_on (allocator_of (mini_of (file_in c.args.store.now))) (allocator_of (mini_of c.prepared_drop.new.file)) (search (rules, c.in-Ok-prepared_drop.ensures.only_reads))) c.in-Err-replace_streams.ensures.invariants

pub returns-in-Err-replace_streams-clause-cause : goal.returns-in-Err-replace_streams-clause-cause
returns-in-Err-replace_streams-clause-cause g c =
    rests_cause (allocator_of (mini_of (file_in c.args.store.now))) (allocator_of (mini_of c.prepared_drop.new.file)) (allocator_of (mini_of c.replace_streams.new.file)) c.in-Err-replace_streams.error
    (search (rules, c.in-Ok-prepared_drop.ensures.only_reads)) c.in-Err-replace_streams.ensures.cause

pub returns-clause-drops : goal.returns-clause-drops
returns-clause-drops g c =
    let old = c.args.store.now in
    let b = c.in-Ok-prepared_drop.remains.0 in
    let next = adopted c.args.pool.pool.places c.in-Ok-prepared_drop.remains.1 in
    let new = record old { file = c.replace_streams.new.file; tables = c.take_out.new.tables } in
    subst (λ after. DropsTable c.args.name.now (Ok tt) old new c.args.pool after) (sym (c.adopt.ensures ∙ c.in-Ok-make_room.ensures.next))
    (drop_written c.args.name.now old c.in-Ok.ensures.open c.args.pool c.prepared_drop.new.file c.in-Ok-prepared_drop.ensures.only_reads b.columns.items b.tables.items b.validation.items next
    (λ tree P m s held. c.in-Ok-prepared_drop.ensures.answer tree P m s (subst (λ ts. MemoryLacksDropped (headings_in ts) c.args.pool.pool P) (sym c.deref.ensures.value) held))
    new c.in-Ok-prepared_drop.ensures.changes.marked c.take_out.ensures c.in-Ok-replace_streams.ensures.replaces)

pub returns-clause-invariants : goal.returns-clause-invariants
returns-clause-invariants g c =
    goes_then (allocator_of (mini_of (file_in c.args.store.now))) (allocator_of (mini_of c.prepared_drop.new.file)) (allocator_of (mini_of c.replace_streams.new.file))
    (rests_go_on (allocator_of (mini_of (file_in c.args.store.now))) (allocator_of (mini_of c.prepared_drop.new.file)) (search (rules, c.in-Ok-prepared_drop.ensures.only_reads))) c.in-Ok-replace_streams.ensures.invariants

pub returns-in-Err-clause-full_only_if : goal.returns-in-Err-clause-full_only_if
returns-in-Err-clause-full_only_if g c = λ is live tree P m s memory. unput_not_full c.in-Err.error (first_unput (file_in c.args.store.now) c.in-Err.error c.in-Err.ensures.refused_only_if) is

pub returns-in-Err-prepared_drop-clause-full_only_if : goal.returns-in-Err-prepared_drop-clause-full_only_if
returns-in-Err-prepared_drop-clause-full_only_if g c = λ is live tree P m s memory. unput_not_full c.in-Err-prepared_drop.error c.in-Err-prepared_drop.ensures.errors is

pub returns-in-Err-prepared_drop-clause-errors : goal.returns-in-Err-prepared_drop-clause-errors
returns-in-Err-prepared_drop-clause-errors g c = unput_kind c.in-Err-prepared_drop.error c.in-Err-prepared_drop.ensures.errors

pub returns-in-Err-make_room-clause-full_only_if : goal.returns-in-Err-make_room-clause-full_only_if
returns-in-Err-make_room-clause-full_only_if g c = λ is live tree P m s memory. unput_not_full c.in-Err-make_room.error (subst IsEditErrorButFull (sym c.in-Err-make_room.ensures.errors) tt) is

pub returns-in-Err-replace_streams-clause-full_only_if : goal.returns-in-Err-replace_streams-clause-full_only_if
returns-in-Err-replace_streams-clause-full_only_if g c = λ is live tree P m s memory.
    let old = c.args.store.now in
    let b = c.in-Ok-prepared_drop.remains.0 in
    drop_full c.args.name.now old c.in-Ok.ensures.open c.args.pool c.prepared_drop.new.file c.in-Ok-prepared_drop.ensures.only_reads b.columns.items b.tables.items b.validation.items (adopted c.args.pool.pool.places c.in-Ok-prepared_drop.remains.1)
    (λ tree P m s held. c.in-Ok-prepared_drop.ensures.answer tree P m s (subst (λ ts. MemoryLacksDropped (headings_in ts) c.args.pool.pool P) (sym c.deref.ensures.value) held))
    (c.in-Err-replace_streams.ensures.full_only_if is live) tree P m s memory
