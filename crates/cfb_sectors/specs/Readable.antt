-- Which headers a permissive and a strict reader take.
use Rattle.std.specs.Prelude.{◌≡◌, ℕ, List, ⊤}
use Rattle.cfb_medium.specs.declared.version.Version.{Version}
use Rattle.cfb_medium.specs.declared.version.Version.TheVariants.{V3, V4}
use Rattle.cfb_sectors.specs.declared.validation.Validation.{Validation}
use Rattle.cfb_sectors.specs.declared.validation.Validation.TheVariants.{Permissive, Strict}
use Rattle.cfb_sectors.specs.Header.{IsHeader, directory_sector_count}

-- the reader takes a header with this number of directory sectors: a strict one wants 0 in version 3 ([MS-CFB] 2.2)
abbrev pub IsTaken : Validation → Version → ℕ → Type 0
IsTaken Permissive version count = ⊤
IsTaken Strict V3 count = count ≡ 0
IsTaken Strict V4 count = ⊤

-- the bytes begin with a header of this version that the reader takes ([MS-CFB] 2.2)
abbrev pub IsReadable : Validation → Version → List ℕ → Type 0
IsReadable validation version bytes = IsHeader version bytes × IsTaken validation version (directory_sector_count bytes)
