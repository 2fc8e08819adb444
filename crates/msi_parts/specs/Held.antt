-- The parts of a package in memory.
use Rattle.std.specs.Prelude.{◌≡◌, false, true, List, map, IfSome}
use Rattle.std.specs.Rc.{rc_value}
use Rattle.cfb_tree.specs.Names.{CaseTable}
use Rattle.cfb_tree.specs.Tree.{Tree}
use Rattle.msi_parts.specs.Judged.{are_free_names, heading_named, IsUsual}
use Rattle.msi_parts.specs.Parts.{AreParts}
use Rattle.msi_pool.specs.PoolKept.{AreFreeEmpty}
use Rattle.msi_tables.specs.Schema.{validation_name}
use Rattle.msi_tables.specs.Held.{heading_of}
use Rattle.msi_tables.specs.Table.{Heading}
use Rattle.msi_parts.specs.declared.parts.PackageParts.{PackageParts}

-- the tables without their rows
abbrev pub headings_in : PackageParts → List Heading
headings_in it = map (λ t. heading_of (rc_value t)) it.tables.items

-- they are those of the tree, and nothing was changed
pub record ArePartsOfTree (letters : CaseTable) (tree : Tree) (it : PackageParts) : Type 0 where
  pub parts : AreParts letters tree it.kind it.summary it.pool.pool it.gives_back (headings_in it)
  pub unmodified : it.pool.modified ≡ false

-- what memory has is as a sound package has it
pub record AreWell (it : PackageParts) : Type 0 where
  pub pool_whole : it.gives_back ≡ true
  pub summary_whole : it.summary.whole ≡ true
  pub one_section : it.summary.props.sections ≡ 1
  pub free : AreFreeEmpty it.pool.pool.places
  pub names : are_free_names (headings_in it) ≡ true
  pub usual : IfSome (heading_named (headings_in it) validation_name) IsUsual
