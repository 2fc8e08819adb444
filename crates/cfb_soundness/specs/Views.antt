-- What judging a file looks at.
use Rattle.std.specs.Prelude.{◌≡◌, ℕ, ◌++◌, Bool, false, List, IsTrue}
use Rattle.cfb_medium.specs.declared.medium.ReadMedium.{Ghosts}
use Rattle.cfb_fat.specs.Tables.{difat_sectors_of, fat_of, fat_sectors_of, has_failed_here, is_honest, version_of}
use Rattle.cfb_directory.specs.Views.{directory_ids, entries_held}
use Rattle.cfb_mini.specs.Views.{allocator_of, directory_of, mini_fat_ids, mini_fat_of, mini_stream_ids, mini_stream_len, MiniMatchesBytes}
use Rattle.cfb_mini.specs.declared.mini_allocator.MiniAllocator.{MiniAllocator}
use Rattle.cfb_spec.specs.Means.{Layout}
use Rattle.cfb_soundness.specs.Marks.{CanTake, MarksEachOnce}
use Rattle.cfb_soundness.specs.Uses.{SectorTables}
use Rattle.cfb_soundness.specs.declared.marks.Marks.{Marks}
use Rattle.cfb_soundness.specs.declared.streams.Taken.{Taken}

-- the marks, by the parts' numbers
abbrev pub marks_of : Marks → List Bool
marks_of it = it.items.items

-- these sectors and these mini sectors were marked, each once, and none was marked before
pub record TakesBoth (sectors minis : List ℕ) (old new : Taken) : Type 0 where
  pub of_sectors : MarksEachOnce sectors (marks_of old.sectors) (marks_of new.sectors)
  pub of_minis : MarksEachOnce minis (marks_of old.minis) (marks_of new.minis)

-- there are marks for these sectors and mini sectors, none of them is marked, and none stands twice among them
pub record CanTakeBoth (sectors minis : List ℕ) (it : Taken) : Type 0 where
  pub of_sectors : CanTake sectors (marks_of it.sectors)
  pub of_minis : CanTake minis (marks_of it.minis)

module _ {F : Type 0} {g : Ghosts F} where
  -- the tables in memory, of a file of so many bytes
  abbrev pub tables_in : MiniAllocator F g → ℕ → SectorTables
  tables_in it file_len = record {
    version = version_of (allocator_of it);
    fat = fat_of (allocator_of it);
    mini_fat = mini_fat_of it;
    mini_stream = mini_stream_ids it;
    mini_len = mini_stream_len it;
    entries = entries_held (directory_of it);
    file_len = file_len;
  }

  -- memory is that of an honest file's bytes, whose parts lie so; nothing failed
  pub record LiesSo (it : MiniAllocator F g) (l : Layout) : Type 0 where
    pub live : has_failed_here (allocator_of it) ≡ false
    pub honest : IsTrue (is_honest (allocator_of it))
    pub memory : MiniMatchesBytes it
    pub version : l.version ≡ version_of (allocator_of it)
    pub difat_sectors : l.difat_sectors ≡ difat_sectors_of (allocator_of it)
    pub fat_sectors : l.fat_sectors ≡ fat_sectors_of (allocator_of it)
    pub directory_sectors : l.directory_sectors ≡ directory_ids (directory_of it)
    pub mini_fat_sectors : l.mini_fat_sectors ≡ mini_fat_ids it
    pub mini_stream_sectors : l.mini_stream_sectors ≡ mini_stream_ids it

  -- the sectors of FAT, DIFAT, directory, mini FAT and mini stream, one after the other
  abbrev pub table_sectors : MiniAllocator F g → List ℕ
  table_sectors it = fat_sectors_of (allocator_of it) ++ difat_sectors_of (allocator_of it) ++ directory_ids (directory_of it) ++ mini_fat_ids it ++ mini_stream_ids it
