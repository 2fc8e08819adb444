use Rattle.std.proofs.Common.{◌≡◌, ◌+◌, ◌++◌, drop, Ok}
use Rattle.msi_pool.specs.PoolReading.{texts_at}
use Rattle.msi_texts.specs.Results.{◌>>=◌}
use Rattle.msi_findings.specs.Unkept.{unkept_at, unkept_from}
use Rattle.msi_findings.proofs.unkept.unkept_places.Given as goal

-- the places so far, and those to come
abbrev pub invariant-loop-len : goal.invariant-loop-len
invariant-loop-len l = record {
  place : l.place ≡ l.len-index;
  found : unkept_at l.codepage l.heads l.bytes ≡ (texts_at (drop l.len-index l.heads) l.rest >>= λ more. Ok (l.found.items ++ unkept_from l.codepage (l.place + 1) more));
}
