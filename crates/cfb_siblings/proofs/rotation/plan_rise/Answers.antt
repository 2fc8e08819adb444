use Rattle.std.specs.Prelude.{map}
use Rattle.cfb_tree.specs.EntryViews.{entry_in}
use Rattle.cfb_tree.specs.CaseTableViews.{case_table_of}
use Rattle.cfb_siblings.proofs.Raising.{rises}
use Rattle.cfb_siblings.proofs.rotation.plan_rise.Goals as goal

pub returns-in-Right : goal.returns-in-Right
returns-in-Right c = rises (case_table_of c.args.letters.now) (map entry_in c.args.entries.now) c.args.parent c.in-Some.outer c.holder-above.result
    c.raise_right.result c.raise_right.ensures c.in-Some.ensures

pub returns-in_default-link : goal.returns-in_default-link
returns-in_default-link c = rises (case_table_of c.args.letters.now) (map entry_in c.args.entries.now) c.args.parent c.in-Some.outer c.holder-above.result
    c.raise_left.result c.raise_left.ensures c.in-Some.ensures
