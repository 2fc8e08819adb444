use Rattle.std.proofs.Common.{◌∙◌, ◌<◌, inl, inr, length, subst, sym, ⊎_elim}
use Rattle.std.specs.Prelude.{IsTrue}
use Rattle.std.proofs.lemmas.Result.{IfErr-weaker}
use Rattle.cfb.specs.Views.{mini_of}
use Rattle.cfb_fat.specs.Tables.{has_failed_here, version_of}
use Rattle.cfb_medium.specs.Versions.{stream_len_mask}
use Rattle.cfb_mini.specs.Views.{allocator_of}
use Rattle.cfb_tree.specs.CaseTableViews.{case_table_of}
use Rattle.msi_stored.proofs.StoredLaws.{file_cause, file_then}
use Rattle.msi_adopting.proofs.Whole.{by_failed, copy_here, first_refused, gets_here, holds, left_then, match_ok, may_here, means_here, packs_here, refused_long}
use Rattle.msi_adopting.specs.Adopted.{IsAdopted, IsUnadopted}
use Rattle.msi_adopting.proofs.adopting.adopt.Goals as goal

pub returns-in-Ok-copy_to-clause-adopted : goal.returns-in-Ok-copy_to-clause-adopted
returns-in-Ok-copy_to-clause-adopted g c tree P honest is =
    let a = c.args.source.now in
    let letters = case_table_of c.args.letters in
    let m = c.recounted_pool.new.file in
    let gets = gets_here a letters tree P is c.in-Ok.pool.items c.deref.result.now c.deref.ensures.value
    (c.in-Ok.ensures.answer tree P (holds a letters tree P is) (may_here a letters tree P is) (packs_here a letters tree P is)) in
    let copy = copy_here a letters tree P is m c.in-Ok.ensures.only_reads (g.T.ReadMedium.bytes c.copy_to.new.target) (c.in-Ok-copy_to.ensures.copied honest tree (means_here a letters tree P is m c.in-Ok.ensures.only_reads)) in
    match_ok (λ medium. IsAdopted letters tree P (g.T.ReadMedium.bytes medium))
    (λ e. IsUnadopted letters tree P (stream_len_mask (version_of (allocator_of (mini_of a))) < length c.deref.result.now) e.1) c.with_pool.result (c.with_pool.ensures.answer (version_of (allocator_of (mini_of a))) tree P (subst IsTrue (sym c.copy_to.ensures.honest) honest) copy gets)

pub returns-in-Ok-copy_to-clause-refused_only_if : goal.returns-in-Ok-copy_to-clause-refused_only_if
returns-in-Ok-copy_to-clause-refused_only_if g c tree P honest is =
    let a = c.args.source.now in
    let letters = case_table_of c.args.letters in
    let m = c.recounted_pool.new.file in
    let gets = gets_here a letters tree P is c.in-Ok.pool.items c.deref.result.now c.deref.ensures.value
    (c.in-Ok.ensures.answer tree P (holds a letters tree P is) (may_here a letters tree P is) (packs_here a letters tree P is)) in
    let copy = copy_here a letters tree P is m c.in-Ok.ensures.only_reads (g.T.ReadMedium.bytes c.copy_to.new.target) (c.in-Ok-copy_to.ensures.copied honest tree (means_here a letters tree P is m c.in-Ok.ensures.only_reads)) in
    refused_long letters tree P (version_of (allocator_of (mini_of a))) c.deref.result.now gets _ c.with_pool.result
    (c.with_pool.ensures.answer (version_of (allocator_of (mini_of a))) tree P (subst IsTrue (sym c.copy_to.ensures.honest) honest) copy gets)

pub returns-in-Ok-copy_to-clause-unsound : goal.returns-in-Ok-copy_to-clause-unsound
returns-in-Ok-copy_to-clause-unsound g c wrong =
    absurd (by_failed (has_failed_here (allocator_of (mini_of c.recounted_pool.new.file))) (λ failed. let never = c.in-Ok-copy_to.ensures.when_failed failed in absurd (cc))
    (λ live. let never = c.in-Ok-copy_to.ensures.unsound live (c.in-Ok.ensures.only_reads.sound ∙ wrong) in absurd (cc)))

pub returns-in-Ok-copy_to-clause-unopened : goal.returns-in-Ok-copy_to-clause-unopened
returns-in-Ok-copy_to-clause-unopened g c tree expected shown may is = absurd (c.in-Ok.ensures.unopened tree expected shown may is)

pub returns-in-Ok-copy_to-clause-cause : goal.returns-in-Ok-copy_to-clause-cause
returns-in-Ok-copy_to-clause-cause g c =
    IfErr-weaker c.with_pool.result _ _ (λ e cause. inr (λ start from. cause start (c.copy_to.ensures.continues start from))) c.with_pool.ensures.cause

pub returns-in-Ok-copy_to-clause-left : goal.returns-in-Ok-copy_to-clause-left
returns-in-Ok-copy_to-clause-left g c =
    left_then g.T.ReadMedium.honest g.T.ReadMedium.continues c.args.target c.copy_to.new.target c.copy_to.ensures.honest c.copy_to.ensures.continues c.with_pool.result c.with_pool.ensures.left

pub returns-in-Ok-copy_to-clause-only_reads : goal.returns-in-Ok-copy_to-clause-only_reads
returns-in-Ok-copy_to-clause-only_reads g c = file_then c.args.source.now c.recounted_pool.new.file c.copy_to.new.self c.recounted_pool.ensures.only_reads c.copy_to.ensures.only_reads

pub returns-in-Err-copy_to-clause-refused_only_if : goal.returns-in-Err-copy_to-clause-refused_only_if
returns-in-Err-copy_to-clause-refused_only_if g c tree P honest is =
    inl (c.in-Err-copy_to.ensures.refused_only_if tree (means_here c.args.source.now (case_table_of c.args.letters) tree P is c.recounted_pool.new.file c.in-Ok.ensures.only_reads))

pub returns-in-Err-copy_to-clause-unopened : goal.returns-in-Err-copy_to-clause-unopened
returns-in-Err-copy_to-clause-unopened g c tree expected shown may is = absurd (c.in-Ok.ensures.unopened tree expected shown may is)

pub returns-in-Err-copy_to-clause-cause : goal.returns-in-Err-copy_to-clause-cause
returns-in-Err-copy_to-clause-cause g c =
    ⊎_elim (λ below. inl (file_cause c.args.source.now c.recounted_pool.new.file c.copy_to.new.self c.in-Err-copy_to.error c.in-Ok.ensures.only_reads below)) (λ there. inr there) c.in-Err-copy_to.ensures.cause

pub returns-in-Err-copy_to-clause-only_reads : goal.returns-in-Err-copy_to-clause-only_reads
returns-in-Err-copy_to-clause-only_reads g c = file_then c.args.source.now c.recounted_pool.new.file c.copy_to.new.self c.recounted_pool.ensures.only_reads c.copy_to.ensures.only_reads

pub returns-in-Err-clause-refused_only_if : goal.returns-in-Err-clause-refused_only_if
returns-in-Err-clause-refused_only_if g c tree P honest is =
    let a = c.args.source.now in
    let letters = case_table_of c.args.letters in
    first_refused a letters tree P is _ c.in-Err.error (c.in-Err.ensures.answer tree P (holds a letters tree P is) (may_here a letters tree P is) (packs_here a letters tree P is))
