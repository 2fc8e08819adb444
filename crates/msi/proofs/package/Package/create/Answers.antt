use Rattle.std.proofs.Common.{◌∙◌, ap, inl, inr, refl, sym, ⊎_elim}
use Rattle.cfb.specs.Views.{mini_of}
use Rattle.cfb_creating.specs.NewFile.{empty_tree}
use Rattle.cfb_mini.specs.Views.{allocator_of}
use Rattle.cfb_chain_io.proofs.GoingOn.{goes_cause, goes_then}
use Rattle.cfb_tree.specs.CaseTableViews.{case_table_of}
use Rattle.msi_spec.specs.Opening.{keeps_encoded_names}
use Rattle.msi_parts.proofs.Touching.{may_be_used, may_not_be_used}
use Rattle.msi.proofs.Created.{create_fault, created_package, goes_first, left_made, letters_first, live_first, new_of, not_both, since_made, unwritten_fault}
use Rattle.msi.specs.Opened.{file_in}
use Rattle.msi.proofs.package.Package.create.Goals as goal

pub returns-in-Err-clause-letters : goal.returns-in-Err-clause-letters
returns-in-Err-clause-letters g c = not_both (may_be_used (case_table_of c.args.letters) (sym c.touches.ensures ∙ c.if-touches.false))

pub returns-in-Err-clause-errors : goal.returns-in-Err-clause-errors
returns-in-Err-clause-errors g c = create_fault g.F.ReadMedium.honest c.args.medium c.in-Err.refusal.1 c.in-Err.ensures.errors

pub returns-in-Err-create_package-clause-letters : goal.returns-in-Err-create_package-clause-letters
returns-in-Err-create_package-clause-letters g c = not_both (may_be_used (case_table_of c.args.letters) (sym c.touches.ensures ∙ c.if-touches.false))

pub returns-in-Err-create_package-clause-errors : goal.returns-in-Err-create_package-clause-errors
returns-in-Err-create_package-clause-errors g c = c.in-Err-create_package.ensures.kinds

pub returns-in-Err-write_parts-clause-letters : goal.returns-in-Err-write_parts-clause-letters
returns-in-Err-write_parts-clause-letters g c = not_both (may_be_used (case_table_of c.args.letters) (sym c.touches.ensures ∙ c.if-touches.false))

pub returns-clause-letters : goal.returns-clause-letters
returns-clause-letters g c = not_both (may_be_used (case_table_of c.args.letters) (sym c.touches.ensures ∙ c.if-touches.false))

pub returns-in-Err-create_package-clause-left : goal.returns-in-Err-create_package-clause-left
returns-in-Err-create_package-clause-left g c =
    rw c.into_inner.ensures (left_made (case_table_of c.args.letters) c.args.medium c.in-Ok.file c.in-Ok.ensures.created c.in-Err-create_package.file c.in-Err-create_package.ensures.left)

pub returns-in-Err-create_package-clause-cause : goal.returns-in-Err-create_package-clause-cause
returns-in-Err-create_package-clause-cause g c =
    let made = c.in-Ok.ensures.created in
    rw c.into_inner.ensures (
    since_made (case_table_of c.args.letters) c.args.medium c.in-Ok.file made made.live c.in-Err-create_package.file c.in-Err-create_package.error c.in-Err-create_package.ensures.cause
    )

pub returns-in-Err-write_parts-clause-left : goal.returns-in-Err-write_parts-clause-left
returns-in-Err-write_parts-clause-left g c =
    let a = c.in-Ok.file in
    let first = goes_first a c.in-Ok-create_package.made.store c.from_new-it.result c.from_new-it.ensures.store c.in-Ok-create_package.ensures.invariants in
    rw c.into_medium.ensures (
    left_made (case_table_of c.args.letters) c.args.medium a c.in-Ok.ensures.created c.write_parts.new.file
    (goes_then (allocator_of (mini_of a)) (allocator_of (mini_of (file_in c.from_new-it.result))) (allocator_of (mini_of c.write_parts.new.file)) first c.write_parts.ensures.invariants)
    )

pub returns-in-Err-write_parts-clause-cause : goal.returns-in-Err-write_parts-clause-cause
returns-in-Err-write_parts-clause-cause g c =
    let a = c.in-Ok.file in
    let made = c.in-Ok.ensures.created in
    let m = allocator_of (mini_of (file_in c.from_new-it.result)) in
    let first = goes_first a c.in-Ok-create_package.made.store c.from_new-it.result c.from_new-it.ensures.store c.in-Ok-create_package.ensures.invariants in
    rw c.into_medium.ensures (
    since_made (case_table_of c.args.letters) c.args.medium a made made.live c.write_parts.new.file c.in-Err-write_parts.error
    (goes_cause (allocator_of (mini_of a)) m (allocator_of (mini_of c.write_parts.new.file)) c.in-Err-write_parts.error first
    (live_first c.in-Ok-create_package.made.store c.from_new-it.result c.from_new-it.ensures.store c.in-Ok-create_package.ensures.not_failed) c.in-Err-write_parts.ensures.error_contract.cause)
    )

pub returns-clause-created : goal.returns-clause-created
returns-clause-created g c =
    let a = c.in-Ok.file in
    let first = c.from_new-it.result in
    let made = c.in-Ok-create_package.made in
    let is = c.from_new-it.ensures.store in
    let did = c.in_default.ensures in
    let goes = goes_first a made.store first is c.in-Ok-create_package.ensures.invariants in
    created_package (case_table_of c.args.letters) c.args.medium a c.in-Ok.ensures.created c.args.kind first _ (may_be_used (case_table_of c.args.letters) (sym c.touches.ensures ∙ c.if-touches.false))
    (letters_first a made.store first is c.in-Ok-create_package.ensures.seen.0) c.from_new-it.ensures.parts.0 c.from_new-it.ensures.flags.0 did.error_contract.live.1
    (goes_then (allocator_of (mini_of a)) (allocator_of (mini_of (file_in first))) (allocator_of (mini_of c.write_parts.new.file)) goes c.write_parts.ensures.invariants)
    (record { letters = did.changes.seen.0; tables = refl; kind = refl; pool = refl; summary = refl; parts = λ tree P m s. did.changes.done tree P m s })
    (λ tree means none may. new_of c.args.kind made.store made.pool made.summary first is c.from_new-it.ensures.parts.1 c.from_new-it.ensures.parts.2 (c.in-Ok-create_package.ensures.made tree means none may))

pub returns-then-touches-clause-refused_only_if : goal.returns-then-touches-clause-refused_only_if
returns-then-touches-clause-refused_only_if g c = λ honest few. inl (refl, may_not_be_used (case_table_of c.args.letters) (sym c.touches.ensures ∙ c.if-touches.true))

pub returns-in-Err-clause-refused_only_if : goal.returns-in-Err-clause-refused_only_if
returns-in-Err-clause-refused_only_if g c = λ honest few. inr (⊎_elim (λ fault. inl fault) (λ broken. absurd (broken.1 honest)) c.in-Err.ensures.errors)

pub returns-in-Err-create_package-clause-refused_only_if : goal.returns-in-Err-create_package-clause-refused_only_if
returns-in-Err-create_package-clause-refused_only_if g c = λ honest few. inr (c.in-Err-create_package.ensures.errors empty_tree (c.in-Ok.ensures.created.means honest few) refl)

pub returns-in-Err-write_parts-clause-refused_only_if : goal.returns-in-Err-write_parts-clause-refused_only_if
returns-in-Err-write_parts-clause-refused_only_if g c = λ honest few.
    let made = c.in-Ok-create_package.made in
    let created = c.in-Ok.ensures.created in
    let may = ap keeps_encoded_names created.compared ∙ may_be_used (case_table_of c.args.letters) (sym c.touches.ensures ∙ c.if-touches.false) in
    let is_new = c.in-Ok-create_package.ensures.made empty_tree (created.means honest few) refl may in
    inr (
    unwritten_fault c.args.kind c.from_new-it.result
    (new_of c.args.kind made.store made.pool made.summary c.from_new-it.result c.from_new-it.ensures.store c.from_new-it.ensures.parts.1 c.from_new-it.ensures.parts.2 is_new) c.in-Err-write_parts.error c.write_parts.new.file
    c.in-Err-write_parts.ensures.refused_only_if
    )
