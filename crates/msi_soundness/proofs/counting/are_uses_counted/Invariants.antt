use Rattle.std.proofs.Common.{◌↔◌, drop}
use Rattle.cfb.specs.Streams.{FileHoldsTree}
use Rattle.cfb.specs.Views.{file_case_table, OnlyReadsFile}
use Rattle.cfb_tree.specs.Tree.{Tree}
use Rattle.msi_spec.specs.Uses.{counts_of}
use Rattle.msi_schema.specs.Headings.{headings_in}
use Rattle.msi_soundness.proofs.Taken.{AreLeft}
use Rattle.msi_soundness.proofs.counting.are_uses_counted.Given as goal

-- the pool counts the uses of all tables just where what is left is those of the tables that come
abbrev pub invariant-loop-table : goal.invariant-loop-table
invariant-loop-table g l = record {
  rests : OnlyReadsFile {g = g.F.ReadMedium} l.fn.file l.file;
  left : (tree : Tree) → FileHoldsTree {g = g.F.ReadMedium} l.fn.file tree
      → AreLeft (file_case_table {g = g.F.ReadMedium} l.fn.file) tree (counts_of l.pool.pool.places) (headings_in l.tables)
      ↔ AreLeft (file_case_table {g = g.F.ReadMedium} l.fn.file) tree l.left.items (headings_in (drop l.table-index l.tables));
}
