use Rattle.std.proofs.Common.{◌≡◌, Bool, false, true, ◌∙◌, ⊎_elim, ap, inl, inr, refl, subst}
use Rattle.cfb.specs.Views.{file_case_table, mini_of, sound_of}
use Rattle.cfb_mini.specs.Views.{allocator_of}
use Rattle.cfb_chain_io.proofs.GoingOn.{goes_cause, goes_then}
use Rattle.msi_tables.specs.Schema.{columns_name, tables_name, validation_name}
use Rattle.msi_new_package.specs.New.{LaysDown}
use Rattle.msi_new_package.proofs.Laid.{names_free}
use Rattle.msi_new_package.proofs.Steps.{put_fault, put_so, start_fault, started, storages_in}
use Rattle.msi_new_package.proofs.creating.lay_down.Goals as goal

pub returns-in-Err-clause-errors : goal.returns-in-Err-clause-errors
returns-in-Err-clause-errors g c = λ tree means none. start_fault (file_case_table c.args.file.now) c.class_of.result c.args.file.now c.set_storage_clsid.new.self refl c.in-Err.error c.in-Err.ensures.tree_rule tree means

pub returns-in-Err-clause-kinds : goal.returns-in-Err-clause-kinds
returns-in-Err-clause-kinds g c =
    ⊎_elim (λ fault. inl fault) (λ refused. inr (inl (inl (⊎_elim (λ missing. inr (inr missing)) (⊎_elim (λ input. inr (inl input)) (λ broken. inl broken)) refused)))) c.in-Err.ensures.error_contract.fault

pub returns-in-Err-put_table_bytes-clause-errors : goal.returns-in-Err-put_table_bytes-clause-errors
returns-in-Err-put_table_bytes-clause-errors g c = λ tree means none.
    let l = file_case_table c.args.file.now in
    let s = started l c.class_of.result c.args.file.now c.set_storage_clsid.new.self refl c.in-Ok.ensures.tree_rule tree means none in
    put_fault l columns_name c.deref.result.now names_free.0 c.set_storage_clsid.new.self c.put_table_bytes.new.file c.in-Ok.ensures.tree_rule.seen.0 c.in-Err-put_table_bytes.error c.in-Err-put_table_bytes.ensures.puts
    s.tree s.means (ap storages_in s.nothing)

pub returns-in-Err-put_table_bytes-clause-invariants : goal.returns-in-Err-put_table_bytes-clause-invariants
returns-in-Err-put_table_bytes-clause-invariants g c = goes_then _ _ _ c.in-Ok.ensures.invariants c.put_table_bytes.ensures.invariants

pub returns-in-Err-put_table_bytes-clause-cause : goal.returns-in-Err-put_table_bytes-clause-cause
returns-in-Err-put_table_bytes-clause-cause g c =
    goes_cause (allocator_of (mini_of c.args.file.now)) (allocator_of (mini_of c.set_storage_clsid.new.self)) (allocator_of (mini_of c.put_table_bytes.new.file)) c.in-Err-put_table_bytes.error
    c.in-Ok.ensures.invariants c.in-Ok.ensures.error_contract.live.1 c.in-Err-put_table_bytes.ensures.cause

pub returns-in-Err-put_table_bytes-2-clause-errors : goal.returns-in-Err-put_table_bytes-2-clause-errors
returns-in-Err-put_table_bytes-2-clause-errors g c = λ tree means none.
    let l = file_case_table c.args.file.now in
    let s = started l c.class_of.result c.args.file.now c.set_storage_clsid.new.self refl c.in-Ok.ensures.tree_rule tree means none in
    let p = put_so l columns_name c.deref.result.now names_free.0 c.set_storage_clsid.new.self c.put_table_bytes.new.file c.in-Ok.ensures.tree_rule.seen.0 c.in-Ok-put_table_bytes.ensures.puts s.tree s.means (ap storages_in s.nothing) in
    put_fault l tables_name c.deref-2.result.now names_free.1 c.put_table_bytes.new.file c.put_table_bytes-2.new.file (c.in-Ok-put_table_bytes.ensures.puts.seen.0 ∙ c.in-Ok.ensures.tree_rule.seen.0)
    c.in-Err-put_table_bytes-2.error c.in-Err-put_table_bytes-2.ensures.puts p.after p.means p.none

pub returns-in-Err-put_table_bytes-2-clause-invariants : goal.returns-in-Err-put_table_bytes-2-clause-invariants
returns-in-Err-put_table_bytes-2-clause-invariants g c = goes_then _ _ _ c.in-Ok.ensures.invariants (goes_then _ _ _ c.put_table_bytes.ensures.invariants c.put_table_bytes-2.ensures.invariants)

pub returns-in-Err-put_table_bytes-2-clause-cause : goal.returns-in-Err-put_table_bytes-2-clause-cause
returns-in-Err-put_table_bytes-2-clause-cause g c =
    goes_cause (allocator_of (mini_of c.args.file.now)) (allocator_of (mini_of c.put_table_bytes.new.file)) (allocator_of (mini_of c.put_table_bytes-2.new.file)) c.in-Err-put_table_bytes-2.error
    (goes_then _ _ _ c.in-Ok.ensures.invariants c.put_table_bytes.ensures.invariants) c.in-Ok-put_table_bytes.ensures.not_failed c.in-Err-put_table_bytes-2.ensures.cause

pub returns-in-Err-put_table_bytes-3-clause-errors : goal.returns-in-Err-put_table_bytes-3-clause-errors
returns-in-Err-put_table_bytes-3-clause-errors g c = λ tree means none.
    let l = file_case_table c.args.file.now in
    let s = started l c.class_of.result c.args.file.now c.set_storage_clsid.new.self refl c.in-Ok.ensures.tree_rule tree means none in
    let p = put_so l columns_name c.deref.result.now names_free.0 c.set_storage_clsid.new.self c.put_table_bytes.new.file c.in-Ok.ensures.tree_rule.seen.0 c.in-Ok-put_table_bytes.ensures.puts s.tree s.means (ap storages_in s.nothing) in
    let seen = c.in-Ok-put_table_bytes.ensures.puts.seen.0 ∙ c.in-Ok.ensures.tree_rule.seen.0 in
    let q = put_so l tables_name c.deref-2.result.now names_free.1 c.put_table_bytes.new.file c.put_table_bytes-2.new.file seen c.in-Ok-put_table_bytes-2.ensures.puts p.after p.means p.none in
    put_fault l validation_name c.deref-3.result.now names_free.2 c.put_table_bytes-2.new.file c.put_table_bytes-3.new.file (c.in-Ok-put_table_bytes-2.ensures.puts.seen.0 ∙ seen)
    c.in-Err-put_table_bytes-3.error c.in-Err-put_table_bytes-3.ensures.puts q.after q.means q.none

pub returns-in-Err-put_table_bytes-3-clause-invariants : goal.returns-in-Err-put_table_bytes-3-clause-invariants
returns-in-Err-put_table_bytes-3-clause-invariants g c =
    goes_then _ _ _ c.in-Ok.ensures.invariants (goes_then _ _ _ c.put_table_bytes.ensures.invariants (goes_then _ _ _ c.put_table_bytes-2.ensures.invariants c.put_table_bytes-3.ensures.invariants))

pub returns-in-Err-put_table_bytes-3-clause-cause : goal.returns-in-Err-put_table_bytes-3-clause-cause
returns-in-Err-put_table_bytes-3-clause-cause g c =
    goes_cause (allocator_of (mini_of c.args.file.now)) (allocator_of (mini_of c.put_table_bytes-2.new.file)) (allocator_of (mini_of c.put_table_bytes-3.new.file)) c.in-Err-put_table_bytes-3.error
    (goes_then _ _ _ c.in-Ok.ensures.invariants (goes_then _ _ _ c.put_table_bytes.ensures.invariants c.put_table_bytes-2.ensures.invariants)) c.in-Ok-put_table_bytes-2.ensures.not_failed c.in-Err-put_table_bytes-3.ensures.cause

pub returns-clause-laid : goal.returns-clause-laid
returns-clause-laid g c = λ tree means none.
    let l = file_case_table c.args.file.now in
    let s = started l c.class_of.result c.args.file.now c.set_storage_clsid.new.self refl c.in-Ok.ensures.tree_rule tree means none in
    let p = put_so l columns_name c.deref.result.now names_free.0 c.set_storage_clsid.new.self c.put_table_bytes.new.file c.in-Ok.ensures.tree_rule.seen.0 c.in-Ok-put_table_bytes.ensures.puts s.tree s.means (ap storages_in s.nothing) in
    let seen = c.in-Ok-put_table_bytes.ensures.puts.seen.0 ∙ c.in-Ok.ensures.tree_rule.seen.0 in
    let q = put_so l tables_name c.deref-2.result.now names_free.1 c.put_table_bytes.new.file c.put_table_bytes-2.new.file seen c.in-Ok-put_table_bytes-2.ensures.puts p.after p.means p.none in
    let r = put_so l validation_name c.deref-3.result.now names_free.2 c.put_table_bytes-2.new.file c.put_table_bytes-3.new.file (c.in-Ok-put_table_bytes-2.ensures.puts.seen.0 ∙ seen) c.in-Ok-put_table_bytes-3.ensures.puts q.after q.means q.none in
    let old = c.args.file.now in
    let new = c.put_table_bytes-3.new.file in
    let laid : LaysDown c.args.kind c.deref.result.now c.deref-2.result.now c.deref-3.result.now old new = record {
      after = r.after;
      means = r.means;
      laid = record {
        start = s.tree;
        first = p.after;
        second = q.after;
        class = s.class_is ∙ c.class_of.ensures;
        nothing = s.nothing;
        columns = p.put;
        tables = q.put;
        validation = r.put;
      };
    } in
    subst (λ b. LaysDown c.args.kind b c.args.parts.now.tables_bytes.items c.args.parts.now.validation_bytes.items old new) c.deref.ensures.value
    (subst (λ b. LaysDown c.args.kind c.deref.result.now b c.args.parts.now.validation_bytes.items old new) c.deref-2.ensures.value
    (subst (λ b. LaysDown c.args.kind c.deref.result.now c.deref-2.result.now b old new) c.deref-3.ensures.value laid))

-- only a sound file is changed
changed_sound : (b : Bool) → (b ≡ false → ⊥) → b ≡ true
changed_sound true never = refl
changed_sound false never = absurd (never refl)

pub returns-clause-seen : goal.returns-clause-seen
returns-clause-seen g c =
    let start = c.in-Ok.ensures in
    let first = c.in-Ok-put_table_bytes.ensures.puts.seen in
    let second = c.in-Ok-put_table_bytes-2.ensures.puts.seen in
    let third = c.in-Ok-put_table_bytes-3.ensures.puts.seen in
    let sound = changed_sound (sound_of c.args.file.now) (λ unsound. let never = (start.tree_rule.unsound start.error_contract.live.0 unsound).0 in absurd (cc)) in
    (third.0 ∙ second.0 ∙ first.0 ∙ start.tree_rule.seen.0, third.1 ∙ second.1 ∙ first.1 ∙ start.tree_rule.seen.1 ∙ sound)

pub returns-clause-invariants : goal.returns-clause-invariants
returns-clause-invariants g c =
    goes_then _ _ _ c.in-Ok.ensures.invariants (goes_then _ _ _ c.put_table_bytes.ensures.invariants (goes_then _ _ _ c.put_table_bytes-2.ensures.invariants c.put_table_bytes-3.ensures.invariants))
