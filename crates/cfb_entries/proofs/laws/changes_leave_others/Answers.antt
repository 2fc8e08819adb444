use Rattle.cfb_entries.proofs.Others.{added_keeps, added_stands, changed_keeps, changed_stands, removed_gone, removed_keeps}
use Rattle.cfb_entries.proofs.laws.changes_leave_others.Goals as goal

pub returns-clause-added : goal.returns-clause-added
returns-clause-added c letters tree object path it = added_stands letters tree object path it

pub returns-clause-besides_added : goal.returns-clause-besides_added
returns-clause-besides_added c letters tree object path it = added_keeps letters tree object path it

pub returns-clause-removed : goal.returns-clause-removed
returns-clause-removed c letters tree path some ordered = removed_gone letters tree path some ordered

pub returns-clause-besides_removed : goal.returns-clause-besides_removed
returns-clause-besides_removed c letters tree path some = removed_keeps letters tree path some

pub returns-clause-changed : goal.returns-clause-changed
returns-clause-changed c letters change tree path object named some at = changed_stands letters change named tree path object some at

pub returns-clause-besides_changed : goal.returns-clause-besides_changed
returns-clause-besides_changed c letters change tree path named = changed_keeps letters change named tree path
