use Rattle.std.proofs.Common.{◌≡◌, ◌++◌, drop, map}
use Rattle.std.specs.List.{flat_map}
use Rattle.msi_pool.specs.Pool.{stored_place, places_of}
use Rattle.msi_pool.proofs.stringpool.text_bytes.Given as goal

-- the bytes so far and those to come are all
abbrev pub invariant-loop-text : goal.invariant-loop-text
invariant-loop-text l =
    l.bytes.items ++ flat_map (λ s. s.0) (map (stored_place l.codepage) (places_of (drop l.text-index l.strings)))
    ≡ flat_map (λ s. s.0) (map (stored_place l.codepage) (places_of l.strings))
