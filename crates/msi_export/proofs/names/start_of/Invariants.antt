use Rattle.std.proofs.Common.{◌≡◌, ◌++◌, drop, take}
use Rattle.std.specs.String.{string_bytes}
use Rattle.msi_export.proofs.names.start_of.Given as goal

-- what stands and the bytes that are left
abbrev pub invariant-loop-byte : goal.invariant-loop-byte
invariant-loop-byte l = string_bytes l.start ++ drop l.byte-index (take 200 l.safe) ≡ take 200 l.safe
