use Rattle.std.proofs.Common.{◌≡◌, map, take}
use Rattle.std.specs.Prelude.{string_bytes}
use Rattle.msi_building.specs.Saying.{said_streams}
use Rattle.msi_building.proofs.copies.names_said.Given as goal

-- the names so far
abbrev pub invariant-loop-stream : goal.invariant-loop-stream
invariant-loop-stream l = map string_bytes l.names.items ≡ said_streams (take l.stream-index l.streams)
