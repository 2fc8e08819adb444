use Rattle.cfb_tree.specs.CaseTableViews.{case_table_of}
use Rattle.msi_reread.proofs.OpenedTrees.{goes_left, left_then, opens_reread}
use Rattle.msi_reread.proofs.opening.open_by.Goals as goal

pub returns-in-Ok-clause-opened : goal.returns-in-Ok-clause-opened
returns-in-Ok-clause-opened g c tree m same =
    opens_reread (case_table_of c.args.letters) c.args.pages.texts c.args.pages.summary c.args.file c.reread.new.file c.reread.ensures.letters same tree c.in-Ok.lacking (c.in-Ok.ensures.reread tree m) c.open_reread.result
    c.open_reread.ensures.opened

pub returns-in-Ok-clause-left : goal.returns-in-Ok-clause-left
returns-in-Ok-clause-left g c = left_then c.args.file c.reread.new.file c.reread.ensures.invariants c.open_reread.result c.open_reread.ensures.left

pub returns-in-Err-clause-left : goal.returns-in-Err-clause-left
returns-in-Err-clause-left g c = rw c.into_inner.ensures (goes_left c.args.file c.reread.new.file c.reread.ensures.invariants)
