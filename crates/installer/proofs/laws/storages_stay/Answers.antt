use Rattle.installer.proofs.Settled.{runs_keep, runs_storing}
use Rattle.installer.proofs.laws.storages_stay.Goals as goal

pub returns-clause-on : goal.returns-clause-on
returns-clause-on c = λ letters start end requests replies marks. runs_keep letters start end requests replies marks

pub returns-clause-back : goal.returns-clause-back
returns-clause-back c = λ letters start end requests replies marks. runs_storing letters start end requests replies marks
