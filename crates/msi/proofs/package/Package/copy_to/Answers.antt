use Rattle.std.proofs.Common.{◌∙◌, inl, inr, refl, sym, ⊎_elim}
use Rattle.std.specs.Prelude.{◌⊎◌}
use Rattle.std.proofs.lemmas.Result.{IfErr-weaker}
use Rattle.cfb.specs.Views.{mini_of}
use Rattle.cfb_copying.specs.Chains.{IsCopyError}
use Rattle.cfb_mini.specs.Views.{allocator_of}
use Rattle.cfb_chain_io.proofs.GoingOn.{goes_cause, goes_then, rests_go_on}
use Rattle.msi.specs.Changing.{IsChangeError}
use Rattle.msi.specs.Opened.{file_in}
use Rattle.msi.proofs.Copied.{failed_copies, saved_copies, unsaved_copies, unsound_cause, unsound_copies}
use Rattle.msi.proofs.Flushed.{failed_cause, here_live}
use Rattle.msi.proofs.package.Package.copy_to.Goals as goal

pub returns-then-has_failed-clause-copies : goal.returns-then-has_failed-clause-copies
returns-then-has_failed-clause-copies g c = failed_copies _ _ c.args.self.now (sym c.has_failed.ensures ∙ c.if-has_failed.true)

pub returns-then-has_failed-clause-cause : goal.returns-then-has_failed-clause-cause
returns-then-has_failed-clause-cause g c = inl (failed_cause g.met.F.ReadMedium.continues_keeps c.args.self.now (sym c.has_failed.ensures ∙ c.if-has_failed.true))

pub returns-then-has_failed-clause-errors : goal.returns-then-has_failed-clause-errors
returns-then-has_failed-clause-errors g c = inl (inl tt)

pub returns-then-not-self-clause-copies : goal.returns-then-not-self-clause-copies
returns-then-not-self-clause-copies g c = unsound_copies _ _ c.args.self.now (sym c.has_failed.ensures ∙ c.if-has_failed.false) c.if-not-self.true

pub returns-then-not-self-clause-cause : goal.returns-then-not-self-clause-cause
returns-then-not-self-clause-cause g c = inl (unsound_cause c.args.self.now)

pub returns-then-not-self-clause-errors : goal.returns-then-not-self-clause-errors
returns-then-not-self-clause-errors g c = inl (inr (inl (inl (inl refl))))

pub returns-in-Err-clause-copies : goal.returns-in-Err-clause-copies
returns-in-Err-clause-copies g c = unsaved_copies _ _ c.args.self.now _ (sym c.has_failed.ensures ∙ c.if-has_failed.false) c.if-not-self.false c.in-Err.error c.in-Err.ensures.writes

pub returns-in-Err-clause-cause : goal.returns-in-Err-clause-cause
returns-in-Err-clause-cause g c = inl c.in-Err.ensures.cause

pub returns-in-Err-clause-errors : goal.returns-in-Err-clause-errors
returns-in-Err-clause-errors g c = inl c.in-Err.ensures.errors

pub returns-clause-copies : goal.returns-clause-copies
returns-clause-copies g c =
    let did = c.copy_to.ensures in
    saved_copies _ _ c.args.self.now c.flush.new.self (sym c.has_failed.ensures ∙ c.if-has_failed.false) c.if-not-self.false _ c.in_default.ensures.writes _
    (record { letters = did.only_reads.letters; tables = refl; kind = refl; summary = refl; sound = refl; written = refl }) refl did.only_reads c.copy_to.result c.flush.ensures.invariants.version did.copied did.refused_only_if

pub returns-clause-invariants : goal.returns-clause-invariants
returns-clause-invariants g c =
    let m = allocator_of (mini_of (file_in c.flush.new.self)) in
    goes_then (allocator_of (mini_of (file_in c.args.self.now))) m _ c.flush.ensures.invariants (rests_go_on m _ c.copy_to.ensures.only_reads.mini.directory.allocator)

pub returns-clause-cause : goal.returns-clause-cause
returns-clause-cause g c =
    let a = allocator_of (mini_of (file_in c.args.self.now)) in
    let m = allocator_of (mini_of (file_in c.flush.new.self)) in
    IfErr-weaker c.copy_to.result _ _ (λ e cause. ⊎_elim (λ below. inl (goes_cause a m (allocator_of (mini_of c.copy_to.new.self)) e c.flush.ensures.invariants (here_live c.flush.new.self c.in_default.ensures.not_failed) below)) (λ there. inr there) cause) c.copy_to.ensures.cause

pub returns-clause-errors : goal.returns-clause-errors
returns-clause-errors g c = IfErr-weaker c.copy_to.result IsCopyError (λ e. IsChangeError e ⊎ IsCopyError e) (λ e fault. inr fault) c.copy_to.ensures.errors
