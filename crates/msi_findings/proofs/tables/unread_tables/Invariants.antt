use Rattle.std.proofs.Common.{◌≡◌, ◌++◌, drop}
use Rattle.cfb.specs.Streams.{FileHoldsTree}
use Rattle.cfb.specs.Views.{file_case_table, OnlyReadsFile}
use Rattle.cfb_tree.specs.Tree.{Tree}
use Rattle.msi_findings.specs.Findings.{unread}
use Rattle.msi_findings.proofs.tables.unread_tables.Given as goal
use Rattle.msi_schema.specs.Headings.{headings_in}

-- those that were found, and those to come
abbrev pub invariant-loop-table : goal.invariant-loop-table
invariant-loop-table g l = record {
  rests : OnlyReadsFile {g = g.F.ReadMedium} l.fn.file l.file;
  found : (tree : Tree) → FileHoldsTree {g = g.F.ReadMedium} l.fn.file tree
      → headings_in l.found.items ++ unread (file_case_table {g = g.F.ReadMedium} l.fn.file) tree (headings_in (drop l.table-index l.tables))
      ≡ unread (file_case_table {g = g.F.ReadMedium} l.fn.file) tree (headings_in l.tables);
}
