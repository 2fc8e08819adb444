use Rattle.std.proofs.Common.{◌≡◌, vec_len}
use Rattle.cfb_directory.specs.Entries.{entries_in}
use Rattle.cfb_directory.proofs.directory.Entries.find_unused.Given as goal

abbrev pub invariant-search : goal.invariant-search
invariant-search l = entries_in l.self.items.items ≡ entries_in l.fn.self.items.items

abbrev pub decreases-search : goal.decreases-search
decreases-search l = vec_len l.self.unused
