use Rattle.installer.proofs.Once.{step_once}
use Rattle.installer.proofs.Settled.{runs_once}
use Rattle.installer.proofs.laws.runs_are_one.Goals as goal

pub returns-clause-once : goal.returns-clause-once
returns-clause-once c = λ letters P Q R request r s h k. step_once P Q R r s letters request h k

pub returns-clause-runs : goal.returns-clause-runs
returns-clause-runs c = λ letters a b c d requests rs ss ms ns. runs_once letters a b c d requests rs ss ms ns
