use Rattle.std.proofs.Common.{refl}
use Rattle.cfb_tree.specs.CaseTableViews.{case_table_of}
use Rattle.msi_reread.proofs.OpenedTrees.{opens_left, opens_tree}
use Rattle.msi_reread.proofs.opening.open_reread.Goals as goal

pub returns-in-Ok-clause-opened : goal.returns-in-Ok-clause-opened
returns-in-Ok-clause-opened g c tree m same =
    (opens_tree (case_table_of c.args.letters) c.args.file c.into_inner.result c.into_inner.ensures c.in-Ok.package c.in-Ok.ensures.opened tree m same, refl)

pub returns-in-Ok-clause-left : goal.returns-in-Ok-clause-left
returns-in-Ok-clause-left g c = opens_left (case_table_of c.args.letters) c.args.file c.into_inner.result c.into_inner.ensures c.in-Ok.package c.in-Ok.ensures.opens
