-- A new file: header, FAT and directory, a sector each, and a root that holds nothing ([MS-CFB] 2.1 to 2.6).
use Rattle.std.specs.Prelude.{ℕ, ◌-◌, ◌/◌, List, ◌∷◌, ◌++◌, replicate}
use Rattle.cfb_medium.specs.Numbers.{number_bytes}
use Rattle.cfb_medium.specs.Versions.{dir_entries_per_sector, sector_len}
use Rattle.cfb_medium.specs.declared.version.Version.{Version}
use Rattle.cfb_sectors.specs.Copies.{copies, unused_entry}
use Rattle.cfb_sectors.specs.Header.{header_bytes, HeaderFields}
use Rattle.cfb_sectors.specs.Sectors.{end_of_chain, fat_sector, free}
use Rattle.cfb_tree.specs.Changes.{made_at}
use Rattle.cfb_tree.specs.Directory.{entry_bytes}
use Rattle.cfb_tree.specs.Entries.{empty_root}
use Rattle.cfb_tree.specs.Tree.{nothing, Tree}
use Rattle.cfb_spec.specs.Means.{directory_count}

-- the tree of a new file: a root without children, whose facts are zeros ([MS-CFB] 2.6.2)
abbrev pub empty_tree : Tree
empty_tree = record { root = made_at 0; content = nothing }

-- its header: sector 0 holds the FAT and sector 1 the directory, and there are no mini FAT and no sectors of the DIFAT ([MS-CFB] 2.2)
unfoldable pub new_header : Version → HeaderFields
new_header version = record {
  version = version;
  directory_count = directory_count version 1;
  fat_count = 1;
  first_directory = 1;
  first_mini_fat = end_of_chain;
  mini_fat_count = 0;
  first_difat = end_of_chain;
  difat_count = 0;
  difat = 0 ∷ replicate 108 free;
}

-- its FAT ([MS-CFB] 2.3)
unfoldable pub new_fat : Version → List ℕ
new_fat version = fat_sector ∷ end_of_chain ∷ replicate (sector_len version / 4 - 2) free

-- its directory: the root, and entries in no use ([MS-CFB] 2.6)
unfoldable pub new_directory : Version → List ℕ
new_directory version = entry_bytes empty_root ++ copies (dir_entries_per_sector version - 1) unused_entry

-- THE BYTES OF A NEW FILE: its header, and zeros up to the sector's end; its FAT; its directory ([MS-CFB] 2.1)
unfoldable pub new_file : Version → List ℕ
new_file version =
    header_bytes (new_header version) ++ replicate (sector_len version - 512) 0 ++ number_bytes (new_fat version) ++ new_directory version
