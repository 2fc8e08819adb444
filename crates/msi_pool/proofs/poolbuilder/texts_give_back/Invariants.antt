use Rattle.std.proofs.Common.{◌≡◌, drop, Ok}
use Rattle.std.specs.Prelude.{◌&&◌}
use Rattle.std.specs.List.{list_all}
use Rattle.msi_texts.specs.Results.{◌>>=◌}
use Rattle.msi_pool.specs.PoolReading.{text_round_trips, stored_give_back, texts_at}
use Rattle.msi_pool.proofs.poolbuilder.texts_give_back.Given as goal

-- whether the texts so far do, and those to come
abbrev pub invariant-loop-len : goal.invariant-loop-len
invariant-loop-len l =
    stored_give_back l.codepage l.heads l.bytes ≡ (texts_at (drop l.len-index l.heads) l.rest >>= λ more. Ok (l.all && list_all (λ s. text_round_trips l.codepage s.0) more))
