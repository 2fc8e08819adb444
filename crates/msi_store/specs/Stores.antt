-- What the tables in memory and their file show.
use Rattle.std.specs.Prelude.{List}
use Rattle.cfb.specs.declared.compound_file.CompoundFile.{CompoundFile}
use Rattle.cfb_medium.specs.declared.medium.ReadMedium.{Ghosts}
use Rattle.msi_schema.specs.Headings.{headings_in}
use Rattle.msi_store.specs.declared.store.Store.{Store}
use Rattle.msi_stored.specs.StoredPackages.{StoredTables}
use Rattle.msi_tables.specs.Table.{Heading}

module _ {F : Type 0} {g : Ghosts F} where
  -- the file
  abbrev pub file_in : Store F g → CompoundFile F g
  file_in it = it.file

  -- the tables without their rows
  abbrev pub tables_in : Store F g → List Heading
  tables_in it = headings_in it.tables.items

  -- both
  abbrev pub stored_in : Store F g → StoredTables F g
  stored_in it = (file_in it, tables_in it)
