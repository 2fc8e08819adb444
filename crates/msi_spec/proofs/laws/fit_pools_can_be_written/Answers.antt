use Rattle.msi_spec.proofs.Fitting.{fit_pool_is_writable}
use Rattle.msi_spec.proofs.laws.fit_pools_can_be_written.Goals as goal

pub returns : goal.returns
returns c = fit_pool_is_writable
