-- What `OpenOptions` ask for.
use Rattle.std.specs.Prelude.{◌≡◌, ℕ, max}
use Rattle.cfb_medium.specs.declared.medium.ReadMedium.{Ghosts}
use Rattle.cfb_sectors.specs.declared.validation.Validation.{Validation}
use Rattle.cfb_tree.specs.CaseTableViews.{case_table_of}
use Rattle.cfb_tree.specs.Names.{CaseTable}
use Rattle.cfb.specs.Views.{file_case_table, most_ahead_of, validation_of}
use Rattle.cfb.specs.declared.compound_file.CompoundFile.{CompoundFile}
use Rattle.cfb.specs.declared.options.OpenOptions.{OpenOptions}

-- as which reader
abbrev pub validation_asked : OpenOptions → Validation
validation_asked it = it.validation

-- under which case table ([MS-CFB] 2.6.4)
abbrev pub case_table_asked : OpenOptions → CaseTable
case_table_asked it = case_table_of it.letters

-- how many bytes of a stream are read ahead at most
abbrev pub most_asked : OpenOptions → ℕ
most_asked it = max it.limit 1024

-- the file is read as they ask
pub record IsReadAsAsked {F : Type 0} {g : Ghosts F} (asked : OpenOptions) (it : CompoundFile F g) : Type 0 where
  pub letters : file_case_table it ≡ case_table_asked asked
  pub validation : validation_of it ≡ validation_asked asked
  pub most : most_ahead_of it ≡ most_asked asked
