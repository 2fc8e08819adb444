use Rattle.std.proofs.Common.{◌≡◌, ◌*◌, length, take}
use Rattle.cfb_directory.specs.Entries.{entries_in}
use Rattle.cfb_tree.specs.Directory.{entries_of}
use Rattle.cfb_copying.proofs.entries.directory_bytes.Given as goal

abbrev pub invariant-write : goal.invariant-write
invariant-write l = record {
  size : length l.bytes.items ≡ l.entry-index * 128;
  held : entries_of l.fn.version l.bytes.items ≡ entries_in (take l.entry-index l.entries);
}
