use Rattle.msi_spec.proofs.EncodedKeys.{keys_tell, name_encoded, one_table}
use Rattle.msi_spec.proofs.laws.encoded_names_are_told_by_their_characters.Goals as goal

pub returns-clause-key : goal.returns-clause-key
returns-clause-key c = keys_tell

pub returns-clause-tables : goal.returns-clause-tables
returns-clause-tables c = name_encoded

pub returns-clause-apart : goal.returns-clause-apart
returns-clause-apart c = one_table
