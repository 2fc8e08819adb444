use Rattle.msi_spec.proofs.NewRows.{columns_begin, columns_filled, columns_keys, keys_apart, validation_begins, validation_keys}
use Rattle.msi_spec.proofs.laws.new_rows_have_keys.Goals as goal

pub returns-clause-columns : goal.returns-clause-columns
returns-clause-columns c = λ table n cs. (columns_keys table n cs, columns_filled table n cs, columns_begin table n cs)

pub returns-clause-validation : goal.returns-clause-validation
returns-clause-validation c = λ table cs distinct. (validation_keys table cs distinct, validation_begins table cs)

pub returns-clause-apart : goal.returns-clause-apart
returns-clause-apart c = keys_apart
