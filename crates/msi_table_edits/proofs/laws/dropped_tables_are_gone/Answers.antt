use Rattle.msi_table_edits.proofs.Without.{found_left, none_left, rises_left}
use Rattle.msi_table_edits.proofs.laws.dropped_tables_are_gone.Goals as goal

pub returns-clause-rising : goal.returns-clause-rising
returns-clause-rising c = rises_left

pub returns-clause-gone : goal.returns-clause-gone
returns-clause-gone c = none_left

pub returns-clause-beside : goal.returns-clause-beside
returns-clause-beside c = λ name ts other apart. found_left name other apart ts
