use Rattle.std.proofs.Common.{◌++◌, ◌∷◌, ◌∙◌, [], Some, ap, sym, subst}
use Rattle.installer.specs.Reply.{Reply}
use Rattle.installer.specs.Reply as told
use Rattle.installer.specs.RepliesOf.{reply_of}
use Rattle.installer_runs.proofs.Tallying.{heard_fault, heard_other, heard_rule}
use Rattle.installer_runs.specs.Tallies.{HasHeard}
use Rattle.installer_runs.proofs.tally.Tally.note.Goals as goal

pub returns-then-is_fault : goal.returns-then-is_fault
returns-then-is_fault c before heard =
    let so = heard_fault c.args.self.now before c.in-Refused.error (sym c.is_fault.ensures ∙ c.if-is_fault.true) heard in
    let noted = subst (λ e. HasHeard (record { refusal = c.args.self.now.refusal; fault = Some e }) (before ++ told.refused c.in-Refused.error ∷ [])) (sym c.unwrap_or.ensures) so in
    subst (λ (r : Reply). HasHeard (record { refusal = c.args.self.now.refusal; fault = Some c.unwrap_or.result }) (before ++ r ∷ [])) (sym (ap reply_of c.in-Refused.is)) noted

pub returns-else-is_fault : goal.returns-else-is_fault
returns-else-is_fault c before heard =
    let so = heard_rule c.args.self.now before c.in-Refused.error (sym c.is_fault.ensures ∙ c.if-is_fault.false) heard in
    let noted = subst (λ e. HasHeard (record { refusal = Some e; fault = c.args.self.now.fault }) (before ++ told.refused c.in-Refused.error ∷ [])) (sym c.unwrap_or-else-is_fault.ensures) so in
    subst (λ (r : Reply). HasHeard (record { refusal = Some c.unwrap_or-else-is_fault.result; fault = c.args.self.now.fault }) (before ++ r ∷ [])) (sym (ap reply_of c.in-Refused.is)) noted

pub returns-in_default : goal.returns-in_default
returns-in_default c before heard = heard_other c.args.self.now before c.args.answer.now c.in_default.not-Refused heard
