use Rattle.std.proofs.Common.{◌≡◌, ◌++◌, ◌==◌, length, drop, true}
use Rattle.std.specs.String.{string_bytes}
use Rattle.msi_export.specs.FileNames.{file_name}
use Rattle.msi_export.proofs.names.safe_name.Given as goal

-- what stands and the bytes that are left
abbrev pub invariant-loop-byte : goal.invariant-loop-byte
invariant-loop-byte l = string_bytes l.safe ++ file_name (length (string_bytes l.safe) == 0) (drop l.byte-index l.name) ≡ file_name true l.name
