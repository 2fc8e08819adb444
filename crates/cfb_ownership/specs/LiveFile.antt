-- What is seen of a live file: its bytes, and what memory has of them.
use Rattle.std.specs.Prelude.{◌≡◌, ℕ, List, ◌++◌, length, take}
use Rattle.cfb_medium.specs.declared.version.Version.{Version}
use Rattle.cfb_sectors.specs.Sectors.{fat_in, sectors_in}
use Rattle.cfb_tree.specs.Directory.{Entry}
use Rattle.cfb_spec.specs.Means.{directory, fat, mini_fat, Layout}
use Rattle.cfb_fat.specs.Listed.{Lists}
use Rattle.cfb_fat.specs.Orderly.{AreBelow, AreTablesConsistent}

-- so many sectors, the FAT, which sectors hold it and the DIFAT, the mini FAT, and the directory's entries
pub record LiveFile : Type 0 where
  pub version : Version
  pub bytes : List ℕ
  pub count : ℕ
  pub fat : List ℕ
  pub fat_sectors : List ℕ
  pub difat_sectors : List ℕ
  pub mini_fat : List ℕ
  pub entries : List Entry

-- the sectors that the FAT and the DIFAT lie in
abbrev pub tables_of : LiveFile → List ℕ
tables_of s = s.difat_sectors ++ s.fat_sectors

-- memory has the FAT of the bytes, cut to the file's sectors, and the tables that the bytes list can be changed
pub record HoldsTables (s : LiveFile) : Type 0 where
  pub counted : s.count ≡ sectors_in s.version (length s.bytes)
  pub same : s.fat ≡ take s.count (fat_in s.version s.bytes s.fat_sectors)
  pub there : AreBelow s.count s.fat_sectors
  pub orderly : AreTablesConsistent s.version s.count s.fat s.fat_sectors s.difat_sectors
  pub listed : ∥ Lists s.version s.bytes s.difat_sectors s.fat_sectors ∥₁

-- the live file of these bytes, laid out so
abbrev pub live_file : List ℕ → Layout → LiveFile
live_file bytes l = record {
  version = l.version;
  bytes = bytes;
  count = sectors_in l.version (length bytes);
  fat = take (sectors_in l.version (length bytes)) (fat bytes l);
  fat_sectors = l.fat_sectors;
  difat_sectors = l.difat_sectors;
  mini_fat = mini_fat bytes l;
  entries = directory bytes l;
}
