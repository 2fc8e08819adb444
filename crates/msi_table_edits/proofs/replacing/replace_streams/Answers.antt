use Rattle.std.proofs.Common.{◌≡◌, ◌∙◌, ℕ, [], false, inl, inr, length, List, Ok, Err, subst, sym, true}
use Rattle.cfb.specs.Views.{mini_of}
use Rattle.cfb_fat.specs.Keeping.{fails_cause}
use Rattle.cfb_fat.specs.OnlyReads.{all_rest_refl}
use Rattle.cfb_medium.specs.Calls.{IsFaultOrInvalidInputIf}
use Rattle.cfb_mini.specs.Views.{allocator_of}
use Rattle.cfb_chain_io.proofs.GoingOn.{fails_go_on, goes_cause, goes_then}
use Rattle.msi_row_edits.specs.Edited.{IsEditErrorButFull, PutsTable}
use Rattle.msi_row_edits.proofs.Refusals.{unput_not_full}
use Rattle.msi_spec.specs.Package.{stream_name}
use Rattle.msi_stored.specs.Room.{IsFullForName}
use Rattle.msi_tables.specs.Schema.{columns_name}
use Rattle.msi_table_edits.proofs.ReplacedStreams.{all_replaced, columns_unput, none_replaced, rest_unreplaced}
use Rattle.msi_table_edits.proofs.replacing.replace_streams.Goals as goal

pub returns-in-Err-clause-replaces : goal.returns-in-Err-clause-replaces
returns-in-Err-clause-replaces g c =
    let b = c.args.bytes.now in
    none_replaced c.args.name.now b.columns.items b.tables.items b.validation.items c.args.file.now c.in-Err.error (inl (subst (IsFaultOrInvalidInputIf ⊥) (sym c.in-Err.ensures.errors) tt))

pub returns-in-Err-put_table_bytes-clause-replaces : goal.returns-in-Err-put_table_bytes-clause-replaces
returns-in-Err-put_table_bytes-clause-replaces g c =
    let b = c.args.bytes.now in
    columns_unput c.args.name.now b.columns.items b.tables.items b.validation.items c.args.file.now c.put_table_bytes.new.file c.in-Err-put_table_bytes.error
    (subst (λ x. PutsTable columns_name x (Err c.in-Err-put_table_bytes.error) c.args.file.now c.put_table_bytes.new.file) c.deref.ensures.value c.in-Err-put_table_bytes.ensures.puts)

pub returns-in-Err-replace_rest-clause-replaces : goal.returns-in-Err-replace_rest-clause-replaces
returns-in-Err-replace_rest-clause-replaces g c =
    let b = c.args.bytes.now in
    rest_unreplaced c.args.name.now b.columns.items b.tables.items b.validation.items c.args.file.now c.put_table_bytes.new.file c.replace_rest.new.file
    (subst (λ x. PutsTable columns_name x (Ok tt) c.args.file.now c.put_table_bytes.new.file) c.deref.ensures.value c.in-Ok-put_table_bytes.ensures.puts) c.fail.new.self c.in-Err-replace_rest.error
    c.in-Err-replace_rest.ensures.replaces c.fail.ensures.fails.sectors.failed c.fail.ensures.seen

pub returns-in-Err-replace_rest-clause-invariants : goal.returns-in-Err-replace_rest-clause-invariants
returns-in-Err-replace_rest-clause-invariants g c =
    let b = allocator_of (mini_of c.replace_rest.new.file) in
    fails_go_on 0 [] (allocator_of (mini_of c.args.file.now)) b b (allocator_of (mini_of c.fail.new.self)) (goes_then _ _ _ c.put_table_bytes.ensures.invariants c.replace_rest.ensures.invariants) (inr (all_rest_refl b)) c.fail.ensures.fails

pub returns-in-Err-replace_rest-clause-cause : goal.returns-in-Err-replace_rest-clause-cause
returns-in-Err-replace_rest-clause-cause g c =
    let a = allocator_of (mini_of c.args.file.now) in
    let m = allocator_of (mini_of c.put_table_bytes.new.file) in
    let b = allocator_of (mini_of c.replace_rest.new.file) in
    fails_cause a b (allocator_of (mini_of c.fail.new.self)) c.in-Err-replace_rest.error
    (goes_cause a m b c.in-Err-replace_rest.error c.put_table_bytes.ensures.invariants c.in-Ok-put_table_bytes.ensures.not_failed c.in-Err-replace_rest.ensures.cause) c.fail.ensures.fails

pub returns-clause-replaces : goal.returns-clause-replaces
returns-clause-replaces g c =
    let b = c.args.bytes.now in
    all_replaced c.args.name.now b.columns.items b.tables.items b.validation.items c.args.file.now c.put_table_bytes.new.file c.replace_rest.new.file
    (subst (λ x. PutsTable columns_name x (Ok tt) c.args.file.now c.put_table_bytes.new.file) c.deref.ensures.value c.in-Ok-put_table_bytes.ensures.puts) c.in-Ok-replace_rest.ensures.replaces

pub returns-clause-invariants : goal.returns-clause-invariants
returns-clause-invariants g c = goes_then _ _ _ c.put_table_bytes.ensures.invariants c.replace_rest.ensures.invariants

pub returns-in-Err-clause-full_only_if : goal.returns-in-Err-clause-full_only_if
returns-in-Err-clause-full_only_if g c = λ is live. unput_not_full c.in-Err.error (subst IsEditErrorButFull (sym c.in-Err.ensures.errors) tt) is

pub returns-in-Err-put_table_bytes-clause-full_only_if : goal.returns-in-Err-put_table_bytes-clause-full_only_if
returns-in-Err-put_table_bytes-clause-full_only_if g c = λ is live.
    subst (λ (b : List ℕ). IsFullForName c.args.file.now (stream_name columns_name) (length b)) c.deref.ensures.value (c.in-Err-put_table_bytes.ensures.full_only_if is live)

pub returns-in-Err-replace_rest-clause-full_only_if : goal.returns-in-Err-replace_rest-clause-full_only_if
returns-in-Err-replace_rest-clause-full_only_if g c = λ is live. let never : true ≡ false = sym c.fail.ensures.fails.sectors.failed ∙ live in absurd (cc)
