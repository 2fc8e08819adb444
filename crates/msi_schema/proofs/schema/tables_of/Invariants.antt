use Rattle.std.proofs.Common.{◌≡◌, ◌++◌, map}
use Rattle.std.specs.BTreeMap.{btree_map_len}
use Rattle.msi_schema.specs.Headings.{headings_in}
use Rattle.msi_schema.proofs.FoundMore.{as_heading}
use Rattle.msi_schema.proofs.schema.tables_of.Given as goal

-- the tables so far and those that are left are all
abbrev pub invariant-loop-name : goal.invariant-loop-name
invariant-loop-name l = headings_in l.tables.items ++ map (as_heading l.long) l.left.entries ≡ map (as_heading l.long) l.fn.found.entries

abbrev pub decreases-loop-name : goal.decreases-loop-name
decreases-loop-name l = btree_map_len l.left
