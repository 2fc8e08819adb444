use Rattle.msi_pool.proofs.PoolRoundTrip.{written_pool_is_read}
use Rattle.msi_pool.proofs.laws.written_pools_are_read.Goals as goal

pub returns : goal.returns
returns c = λ pool kept. written_pool_is_read pool kept
