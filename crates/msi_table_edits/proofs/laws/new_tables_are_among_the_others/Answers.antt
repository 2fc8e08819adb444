use Rattle.msi_table_edits.proofs.Among.{put_beside, put_found, put_uses, rises_put}
use Rattle.msi_table_edits.proofs.laws.new_tables_are_among_the_others.Goals as goal

pub returns-clause-rising : goal.returns-clause-rising
returns-clause-rising c = rises_put

pub returns-clause-found : goal.returns-clause-found
returns-clause-found c = put_found

pub returns-clause-beside : goal.returns-clause-beside
returns-clause-beside c = λ t ts name apart. put_beside t name apart ts

pub returns-clause-uses : goal.returns-clause-uses
returns-clause-uses c = put_uses
