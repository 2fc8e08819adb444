-- Chains that the FAT has, and that may be written.
use Rattle.std.specs.Prelude.{ℕ, ◌⊎◌, List, slice_index_or}
use Rattle.std.specs.List.{AllByRecursion}
use Rattle.cfb_medium.specs.declared.version.Version.{Version}
use Rattle.cfb_medium.specs.Versions.{sector_len}
use Rattle.cfb_sectors.specs.Sectors.{end_of_chain, sector_start, Chain as IsChain}

-- the FAT has the chain of these sectors ([MS-CFB] 2.3)
abbrev pub IsChainInTable : List ℕ → List ℕ → Type 0
IsChainInTable fat sectors = IsChain fat (slice_index_or sectors 0 end_of_chain) sectors

-- the second state comes from the first by a write or by reads alone, or by one of these and being made to fail then
abbrev pub EndsInWriteOrRead : {H : Type 0} → (H → H → Type 0) → (H → H → Type 0) → (H → H → Type 0) → H → H → Type 0
EndsInWriteOrRead {H} writes rests fails old new = writes old new ⊎ rests old new ⊎ ((mid : H) × (writes old mid ⊎ rests old mid) × fails mid new)

-- each of these sectors may be written whole
abbrev pub AreSectorsWritable : (ℕ → ℕ → Type 0) → Version → List ℕ → Type 0
AreSectorsWritable may_write version sectors = AllByRecursion (λ n. may_write (sector_start version n) (sector_len version)) sectors
