use Rattle.std.proofs.Common.{subst}
use Rattle.msi_row_edits.specs.Asked.{asked, rule_of}
use Rattle.msi_row_edits.specs.Edited.{EditsPackageRows, EditFullOnlyWithoutRoom}
use Rattle.msi_row_edits.proofs.editing.edit.Goals as goal

pub returns-clause-edits : goal.returns-clause-edits
returns-clause-edits g c =
    subst (λ before. EditsPackageRows (rule_of (asked c.args.query.now) c.args.name.now) c.edit_with-back.result.1 c.args.store.now c.edit_with-back.new.store before c.edit_with-back.result.0)
    c.replace.ensures.value c.edit_with-back.ensures.edits

pub returns-clause-full_only_if : goal.returns-clause-full_only_if
returns-clause-full_only_if g c =
    subst (λ before. EditFullOnlyWithoutRoom (rule_of (asked c.args.query.now) c.args.name.now) c.edit_with-back.result.1 c.args.store.now c.edit_with-back.new.store before) c.replace.ensures.value c.edit_with-back.ensures.full_only_if
