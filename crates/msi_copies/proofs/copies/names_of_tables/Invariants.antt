use Rattle.std.proofs.Common.{◌≡◌, ◌++◌, map}
use Rattle.std.specs.Prelude.{string_bytes}
use Rattle.msi.specs.Lists.{tables_left}
use Rattle.msi_copies.proofs.copies.names_of_tables.Given as goal

-- the names so far, and those that are to come
abbrev pub invariant-loop-name : goal.invariant-loop-name
invariant-loop-name l = map string_bytes l.names.items ++ map string_bytes (tables_left l.name-iterator) ≡ map string_bytes (tables_left l.fn.tables)
