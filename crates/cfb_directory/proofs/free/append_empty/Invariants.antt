use Rattle.std.proofs.Common.{◌≡◌, ◌+◌, ◌++◌, replicate, vec_len}
use Rattle.std.specs.Prelude.{vec_capacity}
use Rattle.cfb_tree.specs.Entries.{empty_entry}
use Rattle.cfb_directory.specs.Entries.{entries_in}
use Rattle.cfb_directory.proofs.free.append_empty.Given as goal

abbrev pub invariant-loop : goal.invariant-loop
invariant-loop l = record {
  items : entries_in l.items.items ≡ entries_in l.fn.items.items ++ replicate l.counter empty_entry;
  len : vec_len l.items ≡ vec_len l.fn.items + l.counter;
  capacity : vec_capacity l.items ≡ vec_capacity l.fn.items;
}
