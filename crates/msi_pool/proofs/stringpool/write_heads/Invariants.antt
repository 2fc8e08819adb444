use Rattle.std.proofs.Common.{◌≡◌, ◌++◌, drop, map, length}
use Rattle.std.specs.Prelude.{nat_lt}
use Rattle.std.specs.List.{flat_map, list_all}
use Rattle.msi_pool.specs.Pool.{stored_place, places_of, head_of}
use Rattle.msi_pool.specs.PoolState.{length_limit}
use Rattle.msi_pool.proofs.stringpool.write_heads.Given as goal

-- the bytes so far and those to come are all, and what was written was short enough
abbrev pub invariant-loop-text : goal.invariant-loop-text
invariant-loop-text l = record {
  bytes : l.bytes.items ++ flat_map head_of (map (stored_place l.codepage) (places_of (drop l.text-index l.strings)))
      ≡ l.initial.bytes.items ++ flat_map head_of (map (stored_place l.codepage) (places_of l.strings));
  in_size : list_all (λ s. nat_lt (length s.0) length_limit) (map (stored_place l.codepage) (places_of (drop l.text-index l.strings)))
      ≡ list_all (λ s. nat_lt (length s.0) length_limit) (map (stored_place l.codepage) (places_of l.strings));
}
