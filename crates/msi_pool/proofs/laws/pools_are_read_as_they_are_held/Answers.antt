use Rattle.std.proofs.Common.{ap}
use Rattle.std.specs.Prelude.{Ok}
use Rattle.std.specs.List.{list_all}
use Rattle.msi_texts.specs.Results.{◌>>=◌}
use Rattle.msi_pool.specs.PoolReading.{text_round_trips}
use Rattle.msi_pool.proofs.PoolReads.{read_pool_is_pooled, bytes_by_index}
use Rattle.msi_pool.proofs.PoolFound.{pool_is_begun, pooled_pool_is_read, texts_are_stored, told}
use Rattle.msi_pool.proofs.laws.pools_are_read_as_they_are_held.Goals as goal

pub returns-clause-found : goal.returns-clause-found
returns-clause-found c = λ pool_bytes data_bytes pool pooled. (
  told pool_bytes data_bytes pool pooled,
  pool_is_begun pool_bytes data_bytes pool pooled,
  pooled_pool_is_read pool_bytes data_bytes pool pooled,
  ap (λ r. r >>= λ stored. Ok (list_all (λ s. text_round_trips pool.page s.0) stored)) (texts_are_stored pool_bytes data_bytes pool pooled),
)

pub returns-clause-held : goal.returns-clause-held
returns-clause-held c = λ pool_bytes data_bytes builder pool bytes first second. read_pool_is_pooled pool_bytes data_bytes builder pool (bytes_by_index pool_bytes bytes) first second
