use Rattle.std.proofs.Common.{◌∙◌, ap, sym}
use Rattle.std.specs.Prelude.{Ok}
use Rattle.msi_pool.specs.Pool.{data_stream, pool_stream}
use Rattle.msi_pool.proofs.PoolRoundTrip.{written_pool_is_read}
use Rattle.msi_props.specs.Props.{props_bytes}
use Rattle.msi_props.proofs.Comeback.{written_set_is_read}
use Rattle.msi_streams.proofs.parts.written_parts_are_held.Goals as goal

pub returns-clause-pool : goal.returns-clause-pool
returns-clause-pool c letters tree pool writable at data_at =
    record { pool_bytes = pool_stream pool; data_bytes = data_stream pool; pool_at = at; data_at = data_at; pooled = written_pool_is_read pool writable }

pub returns-clause-summary : goal.returns-clause-summary
returns-clause-summary c letters tree summary writable one kind at =
    record { summary_bytes = props_bytes summary; summary_at = at; read = written_set_is_read summary writable ∙ ap (λ n. Ok (record summary { sections = n })) (sym one); of_kind = kind }
