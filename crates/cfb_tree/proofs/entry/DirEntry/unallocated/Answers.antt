use Rattle.std.proofs.Common.{refl}
use Rattle.cfb_tree.specs.Directory.{entry_bytes}
use Rattle.cfb_tree.proofs.entry.DirEntry.unallocated.Goals as goal

pub returns-clause-bytes : goal.returns-clause-bytes
unfolding entry_bytes
returns-clause-bytes c = rw (c.as_byte.ensures, c.as_byte-2.ensures, c.nil.ensures, c.zero.ensures, c.zero-2.ensures) refl
