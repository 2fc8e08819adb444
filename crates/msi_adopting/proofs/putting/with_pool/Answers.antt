use Rattle.std.proofs.Common.{inl, ⊎_elim}
use Rattle.std.specs.Prelude.{Err, Ok}
use Rattle.cfb_tree.specs.CaseTableViews.{case_table_of}
use Rattle.msi_adopting.proofs.JudgedCopies.{copy_told, since_opened}
use Rattle.msi_adopting.proofs.Refusals.{can_open}
use Rattle.msi_adopting.proofs.putting.with_pool.Goals as goal

pub returns-in-Err-clause-answer : goal.returns-in-Err-clause-answer
returns-in-Err-clause-answer g c version tree P honest copy gets =
    ⊎_elim (λ fault. inl (inl fault))
    (λ broken. absurd (c.in-Err.ensures.refused_only_if broken honest (can_open (case_table_of c.args.letters) (g.T.ReadMedium.bytes c.args.medium) tree (copy.tight.layout, copy.tight.sound.means))))
    c.in-Err.ensures.errors

pub returns-in-Ok-put_judged-clause-answer : goal.returns-in-Ok-put_judged-clause-answer
returns-in-Ok-put_judged-clause-answer g c version tree P honest copy gets =
    rw c.into_inner.ensures (
    copy_told c.args.medium c.in-Ok.file c.in-Ok.ensures.opens {X = Unit {0}} (case_table_of c.args.letters) c.in-Ok.ensures.letters honest (c.in-Ok.ensures.opened honest) version tree copy P c.args.pool.now gets
    c.put_judged.new.file (Ok tt) c.in-Ok-put_judged.ensures.answer
    )

pub returns-in-Err-put_judged-clause-answer : goal.returns-in-Err-put_judged-clause-answer
returns-in-Err-put_judged-clause-answer g c version tree P honest copy gets =
    copy_told c.args.medium c.in-Ok.file c.in-Ok.ensures.opens {X = Unit {0}} (case_table_of c.args.letters) c.in-Ok.ensures.letters honest (c.in-Ok.ensures.opened honest) version tree copy P c.args.pool.now gets
    c.put_judged.new.file (Err c.in-Err-put_judged.error) c.in-Err-put_judged.ensures.answer

pub returns-in-Err-put_judged-clause-cause : goal.returns-in-Err-put_judged-clause-cause
returns-in-Err-put_judged-clause-cause g c =
    rw c.into_inner-in-Err-put_judged.ensures (since_opened c.args.medium c.in-Ok.file c.in-Ok.ensures.opens c.put_judged.new.file c.in-Err-put_judged.error c.in-Err-put_judged.ensures.cause)
