use Rattle.msi_texts.proofs.NamesReadBack.{marked_name_reads_back, spelled_names_differ}
use Rattle.msi_texts.proofs.laws.names_are_read_back.Goals as goal

pub returns-clause-name : goal.returns-clause-name
returns-clause-name c = λ table name plain own. (marked_name_reads_back table name plain own).0

pub returns-clause-table : goal.returns-clause-table
returns-clause-table c = λ table name plain own. (marked_name_reads_back table name plain own).1

pub returns-clause-apart : goal.returns-clause-apart
returns-clause-apart c = λ one other plain also alike. spelled_names_differ one other plain also alike
