-- Header, DIFAT and FAT of a file, as they are read before its directory ([MS-CFB] 2.2 to 2.5).
use Rattle.std.specs.Prelude.{◌≡◌, ◌%◌, ℕ, Bool, List, length, take, IsTrue, ⊤}
use Rattle.cfb_medium.specs.Calls.{Reaches}
use Rattle.cfb_medium.specs.Versions.{sector_len}
use Rattle.cfb_medium.specs.declared.version.Version.{Version}
use Rattle.cfb_sectors.specs.Header.{first_difat_sector, HeaderFields}
use Rattle.cfb_sectors.specs.Sectors.{end_of_chain, fat_in, sectors_in, AreInFile, DifatChain}
use Rattle.cfb_sectors.specs.declared.validation.Validation.{Validation}
use Rattle.cfb_sectors.specs.declared.validation.Validation.TheVariants.{Permissive, Strict}
use Rattle.cfb_fat.specs.Listed.{IsStop, Lists}
use Rattle.cfb_spec.specs.Means.{directory_count}

-- nothing but reads of a medium was done
pub record OnlyReadsMedium {M : Type 0} (honest : M → Bool) (bytes : M → List ℕ) (continues : M → M → Type 0) (old new : M) : Type 0 where
  pub as_honest : honest new ≡ honest old
  pub same : IsTrue (honest old) → bytes new ≡ bytes old
  pub extends : Reaches continues old new

-- these sectors are the DIFAT's, whose chain comes to the stop, and those are the FAT's, which the file has; and this is the FAT,
-- for the file's sectors alone ([MS-CFB] 2.3, 2.5)
pub record AreSectorTables (version : Version) (bytes difat_sectors : List ℕ) (difat_stop : ℕ) (fat_sectors fat : List ℕ) : Type 0 where
  pub stops : IsStop difat_stop
  pub chain : DifatChain version bytes (first_difat_sector bytes) difat_sectors difat_stop
  pub lists : Lists version bytes difat_sectors fat_sectors
  pub in_file : AreInFile version bytes fat_sectors
  pub fat_is : fat ≡ take (sectors_in version (length bytes)) (fat_in version bytes fat_sectors)

-- the header counts so many sectors of directory, FAT, mini FAT and DIFAT, the DIFAT's chain ends as it should, and the file is
-- whole sectors ([MS-CFB] 2.1, 2.2, 2.5)
pub record IsExact (header : HeaderFields) (difat_stop len directory_len fat_len mini_fat_len difat_len : ℕ) : Type 0 where
  pub directory : header.directory_count ≡ directory_count header.version directory_len
  pub fat : header.fat_count ≡ fat_len
  pub mini_fat : header.mini_fat_count ≡ mini_fat_len
  pub difat : header.difat_count ≡ difat_len
  pub difat_end : difat_stop ≡ end_of_chain
  pub whole_sectors : len % sector_len header.version ≡ 0

-- a strict reader asks for that
abbrev pub IsExactFor : Validation → HeaderFields → ℕ → ℕ → ℕ → ℕ → ℕ → ℕ → Type 0
IsExactFor Permissive header difat_stop len directory_len fat_len mini_fat_len difat_len = ⊤
IsExactFor Strict header difat_stop len directory_len fat_len mini_fat_len difat_len =
    IsExact header difat_stop len directory_len fat_len mini_fat_len difat_len
