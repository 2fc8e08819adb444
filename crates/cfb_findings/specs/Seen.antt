-- What is looked at of a file.
use Rattle.std.specs.Prelude.{ℕ, ◌*◌, length}
use Rattle.cfb_medium.specs.Versions.{sector_len}
use Rattle.cfb_medium.specs.declared.medium.ReadMedium.{Ghosts}
use Rattle.cfb_fat.specs.Tables.{fat_of, version_of}
use Rattle.cfb_directory.specs.Views.{entries_held}
use Rattle.cfb_mini.specs.Views.{allocator_of, directory_of, mini_fat_of, mini_stream_ids}
use Rattle.cfb_mini.specs.declared.mini_allocator.MiniAllocator.{MiniAllocator}
use Rattle.cfb_soundness.specs.Uses.{SectorTables}

module _ {F : Type 0} {g : Ghosts F} where
  -- the tables in memory, of a file of so many bytes: the mini stream has the bytes of its sectors ([MS-CFB] 2.6.2)
  abbrev pub tables_seen : MiniAllocator F g → ℕ → SectorTables
  tables_seen it file_len = record {
    version = version_of (allocator_of it);
    fat = fat_of (allocator_of it);
    mini_fat = mini_fat_of it;
    mini_stream = mini_stream_ids it;
    mini_len = length (mini_stream_ids it) * sector_len (version_of (allocator_of it));
    entries = entries_held (directory_of it);
    file_len = file_len;
  }
