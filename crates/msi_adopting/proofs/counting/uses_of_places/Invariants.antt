use Rattle.std.proofs.Common.{◌≡◌, drop, length}
use Rattle.cfb.specs.Streams.{FileHoldsTree}
use Rattle.cfb.specs.Views.{file_case_table, OnlyReadsFile}
use Rattle.cfb_tree.specs.Tree.{Tree}
use Rattle.msi_schema.specs.Headings.{headings_in}
use Rattle.msi_adopting.proofs.Uses.{SoFar}
use Rattle.msi_adopting.proofs.counting.uses_of_places.Given as goal

-- what the tables so far use and what is left make the greatest count
abbrev pub invariant-loop-table : goal.invariant-loop-table
invariant-loop-table g l = record {
  rests : OnlyReadsFile {g = g.F.ReadMedium} l.fn.file l.file;
  size : length l.left.items ≡ length l.pool.pool.places;
  so_far : (tree : Tree) → FileHoldsTree {g = g.F.ReadMedium} l.fn.file tree
      → SoFar (file_case_table {g = g.F.ReadMedium} l.fn.file) tree (length l.pool.pool.places) (headings_in l.tables) (headings_in (drop l.table-index l.tables)) l.left.items;
}
