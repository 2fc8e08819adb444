use Rattle.std.proofs.Common.{◌≡◌, ◌++◌, length, drop, Ok}
use Rattle.msi_texts.specs.Results.{◌>>=◌}
use Rattle.msi_pool.specs.Pool.{places_of}
use Rattle.msi_pool.specs.PoolReading.{places_at, text_len}
use Rattle.msi_pool.proofs.poolbuilder.read_texts.Given as goal

-- the places so far, and those to come
abbrev pub invariant-loop-len : goal.invariant-loop-len
invariant-loop-len l = record {
  places : places_at l.codepage l.heads l.initial.reader.now ≡ (places_at l.codepage (drop l.len-index l.heads) l.reader.now >>= λ more. Ok (places_of l.strings.items ++ more));
  rest : drop (text_len (drop l.len-index l.heads)) l.reader.now ≡ drop (text_len l.heads) l.initial.reader.now;
  len : length l.strings.items ≡ l.len-index;
}
