-- How memory stands to the bytes of a live file ([MS-CFB] 2).
use Rattle.std.specs.Prelude.{◌≡◌, ℕ, ◌+◌, ◌*◌, ◌≤◌, List, [], length, slice_get, Some}
use Rattle.std.specs.List.{AllByRecursion}
use Rattle.cfb_medium.specs.Versions.{sector_len}
use Rattle.cfb_sectors.specs.Header.{first_difat_sector, first_directory_sector, first_mini_fat_sector, IsHeader}
use Rattle.cfb_sectors.specs.Sectors.{fat_in, joined}
use Rattle.cfb_chains.specs.Owned.{OwnDisjointChains}
use Rattle.cfb_fat.specs.Listed.{stop_behind}
use Rattle.cfb_tree.specs.Directory.{entries_of, kind_root, Entry}
use Rattle.cfb_spec.specs.Means.{Layout}
use Rattle.cfb_ownership.specs.Owners.{directory_owner, first_of, mini_fat_owner, mini_stream_owner, Owners}
use Rattle.cfb_ownership.specs.LiveFile.{tables_of, HoldsTables, LiveFile}

-- memory is that of the bytes, and each sector and each mini sector has one owner at most
pub record LiveFileInvariant (s : LiveFile) (who : Owners) (root : Entry) : Type 0 where
  pub header : IsHeader s.version s.bytes
  pub tables : HoldsTables s
  pub owned : OwnDisjointChains s.fat (tables_of s) who.sectors
  pub directory_at : first_directory_sector s.bytes ≡ first_of (who.sectors directory_owner)
  pub entries : s.entries ≡ entries_of s.version (joined s.version s.bytes (who.sectors directory_owner))
  pub mini_fat_at : first_mini_fat_sector s.bytes ≡ first_of (who.sectors mini_fat_owner)
  pub mini_fat : s.mini_fat ≡ fat_in s.version s.bytes (who.sectors mini_fat_owner)
  pub root_found : slice_get s.entries 0 ≡ Some root
  pub root_kind : root.kind ≡ kind_root
  pub mini_stream_at : root.start ≡ first_of (who.sectors mini_stream_owner)
  pub minis_owned : OwnDisjointChains s.mini_fat [] who.minis
  pub minis_there : (k : ℕ) → AllByRecursion (λ n. 64 * n + 64 ≤ length (who.sectors mini_stream_owner) * sector_len s.version) (who.minis k)
  pub minis_of_streams : (k : ℕ) → k ≤ mini_stream_owner → who.minis k ≡ []

-- the layout in which each owner's sectors are its part of the file
abbrev pub layout_of : LiveFile → Owners → Entry → List ℕ → Layout
layout_of s who root ids = record {
  version = s.version;
  difat_sectors = s.difat_sectors;
  difat_stop = stop_behind s.version s.bytes (first_difat_sector s.bytes) s.difat_sectors;
  fat_sectors = s.fat_sectors;
  directory_sectors = who.sectors directory_owner;
  mini_fat_sectors = who.sectors mini_fat_owner;
  root = root;
  mini_stream_sectors = who.sectors mini_stream_owner;
  entries = ids;
}
