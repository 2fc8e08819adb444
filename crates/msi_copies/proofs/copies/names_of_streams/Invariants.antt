use Rattle.std.proofs.Common.{◌≡◌, ◌++◌, map}
use Rattle.std.specs.Prelude.{string_bytes}
use Rattle.msi.specs.Lists.{streams_left}
use Rattle.msi_copies.proofs.copies.names_of_streams.Given as goal

-- the names so far, and those that are to come
abbrev pub invariant-loop-name : goal.invariant-loop-name
invariant-loop-name l = map string_bytes l.names.items ++ map string_bytes (streams_left l.name-iterator) ≡ map string_bytes (streams_left l.fn.streams)
