use Rattle.std.proofs.Common.{◌≡◌, map}
use Rattle.cfb_medium.specs.Numbers.{pieces}
use Rattle.cfb_tree.specs.Directory.{entry_of}
use Rattle.cfb_directory.specs.Entries.{entries_in}
use Rattle.cfb_directory.proofs.reading.entries_from.Given as goal

abbrev pub invariant-loop-i : goal.invariant-loop-i
invariant-loop-i l = entries_in l.entries.items ≡ map (entry_of l.version) (pieces 128 l.i l.bytes)
