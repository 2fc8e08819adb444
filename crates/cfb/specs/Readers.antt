-- As which reader a file is opened, and under which case table.
use Rattle.std.specs.Prelude.{◌≡◌, ◌⊎◌, ℕ}
use Rattle.cfb_medium.specs.declared.medium.ReadMedium.{Ghosts}
use Rattle.cfb_sectors.specs.declared.validation.Validation.{Validation}
use Rattle.cfb_stream_reads.specs.Content.{most_of}
use Rattle.cfb_tree.specs.CaseTableViews.{case_table_of}
use Rattle.cfb_tree.specs.Names.{CaseTable}
use Rattle.cfb.specs.Views.{file_case_table, most_ahead_of, validation_of}
use Rattle.cfb.specs.declared.compound_file.CompoundFile.{CompoundFile}
use Rattle.cfb.specs.declared.opening.Reader.{Reader}

-- the case table under which he compares names ([MS-CFB] 2.6.4)
abbrev pub letters_by : Reader → CaseTable
letters_by it = case_table_of it.letters

-- whether he is a strict one
abbrev pub validation_by : Reader → Validation
validation_by it = it.validation

-- so many bytes of a stream he reads ahead at most
abbrev pub most_by : Reader → ℕ
most_by it = most_of it.ahead

-- the same reader
pub record IsSameReader (old new : Reader) : Type 0 where
  pub letters : letters_by new ≡ letters_by old
  pub validation : validation_by new ≡ validation_by old
  pub most : most_by new ≡ most_by old

module _ {F : Type 0} {g : Ghosts F} where
  -- the file is read by him
  pub record IsReadBy (reader : Reader) (it : CompoundFile F g) : Type 0 where
    pub letters : file_case_table it ≡ letters_by reader
    pub validation : validation_of it ≡ validation_by reader
    pub most : most_ahead_of it ≡ most_by reader

  -- the second file is read as the first was
  pub record IsReadAlike (old new : CompoundFile F g) : Type 0 where
    pub letters : file_case_table new ≡ file_case_table old
    pub validation : validation_of new ≡ validation_of old
    pub most : most_ahead_of new ≡ most_ahead_of old

  -- it is read so, or by a reader of this kind
  pub record IsReadAs (other : Validation) (old new : CompoundFile F g) : Type 0 where
    pub letters : file_case_table new ≡ file_case_table old
    pub validation : (validation_of new ≡ validation_of old) ⊎ (validation_of new ≡ other)
    pub most : most_ahead_of new ≡ most_ahead_of old
