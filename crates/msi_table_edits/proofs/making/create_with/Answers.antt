use Rattle.std.proofs.Common.{◌∙◌, ℕ, ap, inl, length, refl, rules, subst, sym, Err, List, Ok}
use Rattle.cfb.specs.Views.{file_case_table, mini_of}
use Rattle.cfb_fat.specs.Keeping.{rests_cause}
use Rattle.cfb_medium.specs.Calls.{IsFaultOrInvalidInputIf}
use Rattle.cfb_mini.specs.Views.{allocator_of}
use Rattle.cfb_chain_io.proofs.GoingOn.{goes_then, rests_go_on}
use Rattle.msi_columns.specs.Held.{columns_of}
use Rattle.msi_row_edits.proofs.Exits.{first_cause, first_kind, first_unput}
use Rattle.msi_row_edits.proofs.Refusals.{unput_kind, unput_not_full}
use Rattle.msi_row_edits.specs.Edited.{IsEditErrorButFull}
use Rattle.msi_spec.specs.Calls.{Creates}
use Rattle.msi_spec.specs.Package.{stream_name}
use Rattle.msi_pool.specs.PoolDraft.{adopted}
use Rattle.msi_schema.specs.Headings.{headings_in}
use Rattle.msi_store.specs.Stores.{file_in}
use Rattle.msi_stored.specs.Room.{IsFullForName}
use Rattle.msi_tables.specs.Schema.{columns_name}
use Rattle.msi_table_edits.specs.Making.{ChangesTableSet, PutsThree}
use Rattle.msi_table_edits.proofs.Exits.{first_unmade, made, unmade, unput, unroomed}
use Rattle.msi_table_edits.proofs.making.create_with.Goals as goal

pub returns-in-Err-clause-makes : goal.returns-in-Err-clause-makes
returns-in-Err-clause-makes g c = first_unmade c.args.name.now (columns_of c.args.columns.items) c.args.store.now c.args.pool c.in-Err.error c.in-Err.ensures.refused_only_if

pub returns-in-Err-clause-cause : goal.returns-in-Err-clause-cause
returns-in-Err-clause-cause g c = first_cause (file_in c.args.store.now) c.in-Err.error c.in-Err.ensures.refused_only_if

pub returns-in-Err-clause-errors : goal.returns-in-Err-clause-errors
returns-in-Err-clause-errors g c = first_kind (file_in c.args.store.now) c.in-Err.error c.in-Err.ensures.refused_only_if

pub returns-in-Err-prepared_table-clause-makes : goal.returns-in-Err-prepared_table-clause-makes
returns-in-Err-prepared_table-clause-makes g c =
    unmade c.args.name.now (columns_of c.args.columns.items) c.args.store.now c.args.pool c.in-Ok.ensures.open c.prepared_table.new.file c.in-Err-prepared_table.ensures.only_reads c.in-Err-prepared_table.error
    (λ tree P m s memory. c.in-Err-prepared_table.ensures.answer tree P m s memory.pool (ap headings_in c.deref.ensures.value ∙ memory.tables))

pub returns-in-Err-make_room-clause-makes : goal.returns-in-Err-make_room-clause-makes
returns-in-Err-make_room-clause-makes g c =
    let old = c.args.store.now in
    let name = c.args.name.now in
    let cs = columns_of c.args.columns.items in
    subst (λ after. ChangesTableSet (λ P Q answer. Creates (file_case_table (file_in old)) P name cs Q answer) (Err c.in-Err-make_room.error) old (record old { file = c.prepared_table.new.file }) c.args.pool after) (sym c.in-Err-make_room.ensures.after_error)
    (unmade name cs old c.args.pool c.in-Ok.ensures.open c.prepared_table.new.file c.in-Ok-prepared_table.ensures.only_reads c.in-Err-make_room.error
    (λ tree P m s memory. inl (inl (subst (IsFaultOrInvalidInputIf ⊥) (sym c.in-Err-make_room.ensures.errors) tt))))

pub returns-in-Err-put_three-clause-makes : goal.returns-in-Err-put_three-clause-makes
returns-in-Err-put_three-clause-makes g c =
    let old = c.args.store.now in
    let name = c.args.name.now in
    let cs = columns_of c.args.columns.items in
    let mid = c.prepared_table.new.file in
    let it = c.in-Ok-prepared_table.it in
    let new = c.put_three.new.file in
    let puts = subst (λ x. PutsThree {T = Unit {0}} x it.tables_bytes.items it.validation_bytes.items (Err c.in-Err-put_three.error) mid new) c.deref-2.ensures.value
    (subst (λ x. PutsThree {T = Unit {0}} c.deref-2.result.now x it.validation_bytes.items (Err c.in-Err-put_three.error) mid new) c.deref-3.ensures.value
    (subst (λ x. PutsThree {T = Unit {0}} c.deref-2.result.now c.deref-3.result.now x (Err c.in-Err-put_three.error) mid new) c.deref-4.ensures.value c.in-Err-put_three.ensures.puts)) in
    subst (λ after. ChangesTableSet (λ P Q answer. Creates (file_case_table (file_in old)) P name cs Q answer) (Err c.in-Err-put_three.error) old (record old { file = new }) c.args.pool after) (sym (c.give_up.ensures ∙ c.in-Ok-make_room.ensures.state))
    (unput name cs old c.args.pool c.in-Ok.ensures.open mid c.in-Ok-prepared_table.ensures.only_reads (adopted c.args.pool.pool.places it.changes).pool (headings_in it.tables.items) it.columns_bytes.items it.tables_bytes.items it.validation_bytes.items
    (λ tree P m s memory.
    let r = c.in-Ok-prepared_table.ensures.answer tree P m s memory.pool (ap headings_in c.deref.ensures.value ∙ memory.tables) in
    (r.c, r.t, r.v, r.accepted, r.read, r.tables, r.written)) new c.in-Err-put_three.error puts)

pub returns-in-Err-put_three-clause-invariants : goal.returns-in-Err-put_three-clause-invariants
returns-in-Err-put_three-clause-invariants g c =
    goes_then (allocator_of (mini_of (file_in c.args.store.now))) (allocator_of (mini_of c.prepared_table.new.file)) (allocator_of (mini_of c.put_three.new.file))
    (rests_go_on (allocator_of (mini_of (file_in c.args.store.now))) (allocator_of (mini_of c.prepared_table.new.file)) (search (rules, c.in-Ok-prepared_table.ensures.only_reads))) c.in-Err-put_three.ensures.invariants

pub returns-in-Err-put_three-clause-cause : goal.returns-in-Err-put_three-clause-cause
returns-in-Err-put_three-clause-cause g c =
    rests_cause (allocator_of (mini_of (file_in c.args.store.now))) (allocator_of (mini_of c.prepared_table.new.file)) (allocator_of (mini_of c.put_three.new.file)) c.in-Err-put_three.error
    (search (rules, c.in-Ok-prepared_table.ensures.only_reads)) c.in-Err-put_three.ensures.cause

pub returns-clause-makes : goal.returns-clause-makes
returns-clause-makes g c =
    let old = c.args.store.now in
    let name = c.args.name.now in
    let cs = columns_of c.args.columns.items in
    let mid = c.prepared_table.new.file in
    let it = c.in-Ok-prepared_table.it in
    let next = adopted c.args.pool.pool.places it.changes in
    let new = c.put_three.new.file in
    let puts = subst (λ x. PutsThree {T = Unit {0}} x it.tables_bytes.items it.validation_bytes.items (Ok tt) mid new) c.deref-2.ensures.value
    (subst (λ x. PutsThree {T = Unit {0}} c.deref-2.result.now x it.validation_bytes.items (Ok tt) mid new) c.deref-3.ensures.value
    (subst (λ x. PutsThree {T = Unit {0}} c.deref-2.result.now c.deref-3.result.now x (Ok tt) mid new) c.deref-4.ensures.value c.in-Ok-put_three.ensures.puts)) in
    let store = record old { file = new; tables = it.tables } in
    subst (λ after. ChangesTableSet (λ P Q answer. Creates (file_case_table (file_in old)) P name cs Q answer) (Ok tt) old store c.args.pool after) (sym (c.adopt.ensures ∙ c.in-Ok-make_room.ensures.next))
    (made name cs old c.args.pool c.in-Ok.ensures.open mid c.in-Ok-prepared_table.ensures.only_reads next.pool (headings_in it.tables.items) it.columns_bytes.items it.tables_bytes.items it.validation_bytes.items
    (λ tree P m s memory.
    let r = c.in-Ok-prepared_table.ensures.answer tree P m s memory.pool (ap headings_in c.deref.ensures.value ∙ memory.tables) in
    (r.c, r.t, r.v, r.accepted, r.read, r.tables, r.written)) new store refl refl next refl c.in-Ok-prepared_table.ensures.changes.marked puts)

pub returns-clause-invariants : goal.returns-clause-invariants
returns-clause-invariants g c =
    goes_then (allocator_of (mini_of (file_in c.args.store.now))) (allocator_of (mini_of c.prepared_table.new.file)) (allocator_of (mini_of c.put_three.new.file))
    (rests_go_on (allocator_of (mini_of (file_in c.args.store.now))) (allocator_of (mini_of c.prepared_table.new.file)) (search (rules, c.in-Ok-prepared_table.ensures.only_reads))) c.in-Ok-put_three.ensures.invariants

pub returns-in-Err-clause-full_only_if : goal.returns-in-Err-clause-full_only_if
returns-in-Err-clause-full_only_if g c = λ is live tree P m s memory. unput_not_full c.in-Err.error (first_unput (file_in c.args.store.now) c.in-Err.error c.in-Err.ensures.refused_only_if) is

pub returns-in-Err-prepared_table-clause-full_only_if : goal.returns-in-Err-prepared_table-clause-full_only_if
returns-in-Err-prepared_table-clause-full_only_if g c = λ is live tree P m s memory. unput_not_full c.in-Err-prepared_table.error c.in-Err-prepared_table.ensures.errors is

pub returns-in-Err-prepared_table-clause-errors : goal.returns-in-Err-prepared_table-clause-errors
returns-in-Err-prepared_table-clause-errors g c = unput_kind c.in-Err-prepared_table.error c.in-Err-prepared_table.ensures.errors

pub returns-in-Err-make_room-clause-full_only_if : goal.returns-in-Err-make_room-clause-full_only_if
returns-in-Err-make_room-clause-full_only_if g c = λ is live tree P m s memory. unput_not_full c.in-Err-make_room.error (subst IsEditErrorButFull (sym c.in-Err-make_room.ensures.errors) tt) is

pub returns-in-Err-put_three-clause-full_only_if : goal.returns-in-Err-put_three-clause-full_only_if
returns-in-Err-put_three-clause-full_only_if g c = λ is live tree P m s memory.
    let old = c.args.store.now in
    let mid = c.prepared_table.new.file in
    let it = c.in-Ok-prepared_table.it in
    let full = subst (λ (b : List ℕ). IsFullForName mid (stream_name columns_name) (length b)) c.deref-2.ensures.value (c.in-Err-put_three.ensures.full_only_if is live) in
    unroomed c.args.name.now (columns_of c.args.columns.items) old c.args.pool c.in-Ok.ensures.open mid c.in-Ok-prepared_table.ensures.only_reads (adopted c.args.pool.pool.places it.changes).pool (headings_in it.tables.items)
    it.columns_bytes.items it.tables_bytes.items it.validation_bytes.items
    (λ tree P m s memory.
    let r = c.in-Ok-prepared_table.ensures.answer tree P m s memory.pool (ap headings_in c.deref.ensures.value ∙ memory.tables) in
    (r.c, r.t, r.v, r.accepted, r.read, r.tables, r.written)) c.put_three.new.file full tree P m s memory
