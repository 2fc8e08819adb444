use Rattle.std.proofs.Common.{◌≡◌, ◌++◌, drop, length, map, Ok}
use Rattle.msi_pool.specs.PoolReading.{texts_at}
use Rattle.msi_texts.specs.Results.{◌>>=◌}
use Rattle.reread_texts.specs.Pools.{text_seen}
use Rattle.reread_texts.proofs.pool.split_texts.Given as goal

-- the texts so far, and those to come
abbrev pub invariant-loop-len : goal.invariant-loop-len
invariant-loop-len l = record {
  texts : texts_at l.heads l.bytes ≡ (texts_at (drop l.len-index l.heads) l.rest >>= λ more. Ok (map text_seen l.texts.items ++ more));
  len : length l.texts.items ≡ l.len-index;
}
