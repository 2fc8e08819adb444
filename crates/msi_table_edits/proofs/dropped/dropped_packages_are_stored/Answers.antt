use Rattle.msi_table_edits.proofs.LeftPackage.{keeps_left, stores_left}
use Rattle.msi_table_edits.proofs.dropped.dropped_packages_are_stored.Goals as goal

pub returns-clause-stores : goal.returns-clause-stores
returns-clause-stores c = λ letters old new P s name x cs ts vs d cb tb vb h read. stores_left letters old P s name x cs ts vs d new cb tb vb h read

pub returns-clause-keeps : goal.returns-clause-keeps
returns-clause-keeps c = λ letters old new P s name x cs ts vs d cb tb vb h. keeps_left letters old P s name x cs ts vs d new cb tb vb h
