use Rattle.std.proofs.Common.{◌∙◌, inl, inr, refl, sym, ⊎_elim}
use Rattle.cfb_tree.specs.CaseTableViews.{case_table_of}
use Rattle.msi_parts.proofs.Touching.{may_be_used, may_not_be_used}
use Rattle.msi.proofs.FoundDefects.{checked_left, checked_none, checked_told}
use Rattle.msi.proofs.OpenedPackages.{answer_cause, answer_left, answer_refused}
use Rattle.msi.proofs.checking.defects.Goals as goal

pub returns-then-touches-clause-refused_only_if : goal.returns-then-touches-clause-refused_only_if
returns-then-touches-clause-refused_only_if g c honest = inr (inl (refl, may_not_be_used (case_table_of c.args.letters) (sym c.touches.ensures ∙ c.if-touches.true)))

pub returns-in-Ok-clause-answer : goal.returns-in-Ok-clause-answer
returns-in-Ok-clause-answer g c =
    checked_told c.args.medium c.in-Ok.file c.in-Ok.ensures.opens c.file_defects.result c.file_defects.ensures.ok
    (case_table_of c.args.letters) c.in-Ok.ensures.letters (may_be_used (case_table_of c.args.letters) (sym c.touches.ensures ∙ c.if-touches.false)) c.in-Ok.ensures.opened

pub returns-in-Ok-clause-none : goal.returns-in-Ok-clause-none
returns-in-Ok-clause-none g c =
    checked_none c.args.medium c.in-Ok.file c.in-Ok.ensures.opens c.file_defects.result c.file_defects.ensures.ok
    (case_table_of c.args.letters) c.in-Ok.ensures.letters (may_be_used (case_table_of c.args.letters) (sym c.touches.ensures ∙ c.if-touches.false)) c.in-Ok.ensures.opened

pub returns-in-Ok-clause-given_back : goal.returns-in-Ok-clause-given_back
returns-in-Ok-clause-given_back g c = checked_left c.args.medium c.in-Ok.file c.in-Ok.ensures.opens c.file_defects.result c.file_defects.ensures.ok

pub returns-in-Err-clause-refused_only_if : goal.returns-in-Err-clause-refused_only_if
returns-in-Err-clause-refused_only_if g c = λ honest. ⊎_elim (λ fault. inl fault)
    (λ is. inr (inr (may_be_used (case_table_of c.args.letters) (sym c.touches.ensures ∙ c.if-touches.false), inl (is, c.in-Err.ensures.refused_only_if is honest)))) c.in-Err.ensures.errors

pub returns-in-Ok-clause-refused_only_if : goal.returns-in-Ok-clause-refused_only_if
returns-in-Ok-clause-refused_only_if g c =
    answer_refused c.args.medium c.in-Ok.file c.in-Ok.ensures.opens c.file_defects.result c.file_defects.ensures.after_error
    (case_table_of c.args.letters) c.in-Ok.ensures.letters (may_be_used (case_table_of c.args.letters) (sym c.touches.ensures ∙ c.if-touches.false)) c.in-Ok.ensures.opened

pub returns-in-Ok-clause-cause : goal.returns-in-Ok-clause-cause
returns-in-Ok-clause-cause g c = answer_cause c.args.medium c.in-Ok.file c.in-Ok.ensures.opens c.file_defects.result c.file_defects.ensures.after_error

pub returns-in-Ok-clause-left : goal.returns-in-Ok-clause-left
returns-in-Ok-clause-left g c = answer_left c.args.medium c.in-Ok.file c.in-Ok.ensures.opens c.file_defects.result c.file_defects.ensures.after_error
