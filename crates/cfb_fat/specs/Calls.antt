-- What calls that change the file say of its state and of errors.
use Rattle.std.specs.Prelude.{◌≡◌, ℕ, ◌+◌, ◌-◌, ◌*◌, ◌/◌, ◌<◌, ◌≤◌, ◌⊎◌, false, true, [], ◌∷◌, ◌++◌, length, slice_get, slice_index, Some, IfErr, IsErrOf, IsTrue, OnErr, OnOk, Result}
use Rattle.cfb_medium.specs.Calls.{IsFaultOrInvalidInputIf}
use Rattle.cfb_medium.specs.Versions.{sector_len}
use Rattle.cfb_medium.specs.declared.error.Error.{Error}
use Rattle.cfb_medium.specs.declared.error.Error.TheVariants.{Failed, Full}
use Rattle.cfb_medium.specs.declared.medium.ReadMedium.{Ghosts}
use Rattle.cfb_sectors.specs.Held as held
use Rattle.cfb_sectors.specs.Initial.{first_bytes, initial}
use Rattle.cfb_sectors.specs.Sectors.{end_of_chain, free, greatest_regular, joined, sector, sector_start, Chain as IsChain}
use Rattle.cfb_sectors.specs.declared.initial.NewSector.{NewSector}
use Rattle.cfb_sectors.specs.declared.initial.SectorInit.{SectorInit}
use Rattle.cfb_sectors.specs.declared.sectors.Sectors.{Sectors}
use Rattle.cfb_sectors.specs.Copies.{copies}
use Rattle.cfb_chains.specs.Changes.{IsFreeIn, IsNotIn}
use Rattle.cfb_chains.specs.Grown.{AreSectorsWritable, IsChainInTable}
use Rattle.cfb_chains.specs.LinkViews.{ids_of, links_version}
use Rattle.cfb_chains.specs.declared.links.Links.{Links}
use Rattle.cfb_fat_runs.specs.Tables.{IsEasy}
use Rattle.cfb_fat.specs.Changing.{MayWrite}
use Rattle.cfb_fat.specs.Growing.{GrowsFat, HasWhole, MarksBehind}
use Rattle.cfb_fat.specs.Tables.{bytes_of, capacity_of, difat_sectors_of, fat_of, fat_sectors_of, has_failed_here, is_honest, orderly_of, runs_of, tables_of, version_of, OnlyReadsAllocator, IsJustifiedBySectors}
use Rattle.cfb_fat.specs.declared.allocator.Allocator.{Allocator}

-- a refusal since no sector's number is left
abbrev pub IsTheLast : Error → Type 0
IsTheLast e = e ≡ Full

module _ {F : Type 0} {g : Ghosts F} where
  -- A change by writes alone: done, the sectors have not failed; after an error they have. It is a fault, and has its cause.
  pub record WriteErrorContract {T : Type 0} (result : Result T Error) (old new : Sectors F g) : Type 0 where
    pub live : OnOk result (held.has_failed_here new ≡ false)
    pub err : OnErr result (held.has_failed_here new ≡ true)
    pub cause : IfErr result (held.IsJustifiedByMedium old new)
    pub fault : IfErr result (IsFaultOrInvalidInputIf ⊥)

  -- A change that may want memory: done, it has not failed; after a fault it has, or nothing but reads happened. Else the error
  -- is such a refusal. Each has its cause.
  pub record MemoryErrorContract {T : Type 0} (refuses : Error → Type 0) (result : Result T Error) (old new : Allocator F g) : Type 0 where
    pub live : OnOk result (has_failed_here new ≡ false)
    pub cause : IfErr result (IsJustifiedBySectors old new)
    pub fault : IfErr result (λ e. (IsFaultOrInvalidInputIf ⊥ e × ((has_failed_here new ≡ true) ⊎ OnlyReadsAllocator old new)) ⊎ refuses e)

  -- A change of tables: done only where it had not failed and its tables could be changed, and then it has not failed. One that
  -- had failed answers `Failed`, and rests. After a fault it has failed, or nothing but reads happened.
  pub record TableErrorContract {T : Type 0} (refuses : Error → Type 0) (result : Result T Error) (old new : Allocator F g) : Type 0 where
    pub live : OnOk result ((has_failed_here old ≡ false) × IsTrue (orderly_of old) × (has_failed_here new ≡ false))
    pub failed : has_failed_here old ≡ true → IsErrOf result Failed × OnlyReadsAllocator old new
    pub cause : IfErr result (IsJustifiedBySectors old new)
    pub fault : IfErr result (λ e. (IsFaultOrInvalidInputIf ⊥ e × ((has_failed_here new ≡ true) ⊎ OnlyReadsAllocator old new)) ⊎ refuses e)

  -- A change by several of these: after any error it has failed, or nothing but reads happened.
  pub record FatErrorContract {T : Type 0} (refuses : Error → Type 0) (result : Result T Error) (old new : Allocator F g) : Type 0 where
    pub live : OnOk result ((has_failed_here old ≡ false) × (has_failed_here new ≡ false))
    pub failed : has_failed_here old ≡ true → IsErrOf result Failed × OnlyReadsAllocator old new
    pub after : OnErr result ((has_failed_here new ≡ true) ⊎ OnlyReadsAllocator old new)
    pub cause : IfErr result (IsJustifiedBySectors old new)
    pub fault : IfErr result (λ e. IsFaultOrInvalidInputIf ⊥ e ⊎ refuses e)

  -- the sector holds what is said of a new one, and may be written whole
  pub record IsNewSector (init : NewSector) (old new : Allocator F g) (n : ℕ) : Type 0 where
    pub filled : IsTrue (is_honest old) → sector (version_of old) (bytes_of new) n ≡ first_bytes init (sector_len (version_of old))
    pub writable : MayWrite new (sector_start (version_of old) n) (sector_len (version_of old))

  -- a sector behind all others is one only where no sector is spare: none is "free" but a table's
  abbrev pub IsLastResort : Allocator F g → ℕ → Type 0
  IsLastResort old n = length (fat_of old) ≤ n → (k : ℕ) → slice_get (fat_of old) k ≡ Some free → IsNotIn (tables_of old) k → ⊥

  -- no sector below this number is spare: "free", and none that holds a table
  abbrev pub HasNoFreeBelow : Allocator F g → ℕ → Type 0
  HasNoFreeBelow it n = (k : ℕ) → k < n → slice_index (fat_of it) k ≡ free → IsNotIn (difat_sectors_of it) k → IsNotIn (fat_sectors_of it) k → ⊥

  -- no number of a sector is left: none behind the FAT's, and none of these is spare
  pub record IsFull (it : Allocator F g) : Type 0 where
    pub behind : greatest_regular < length (fat_of it)
    pub spare : HasNoFreeBelow it (length (fat_of it))

  -- so many entries the FAT's sectors have
  abbrev pub places_of : Allocator F g → ℕ
  places_of it = length (fat_sectors_of it) * (sector_len (version_of it) / 4)

  -- there is memory to set the entry of a sector
  abbrev pub HasRun : Allocator F g → ℕ → ℕ → Type 0
  HasRun it index entry = IsEasy (fat_of it) index entry ⊎ (runs_of it + 2 ≤ capacity_of it)

  -- the FAT has a place, memory and a number for one sector more
  pub record HasPlace (it : Allocator F g) : Type 0 where
    pub room : length (fat_of it) < places_of it
    pub memory : runs_of it < capacity_of it
    pub few : length (fat_of it) ≤ greatest_regular

  -- the FAT has the end of a chain behind its entries, for this sector, and the same sectors as the DIFAT had
  pub record EndsBehind (old new : Allocator F g) (n : ℕ) : Type 0 where
    pub number : n ≡ length (fat_of old)
    pub fat : fat_of new ≡ fat_of old ++ end_of_chain ∷ []
    pub tables : (difat_sectors_of new ≡ difat_sectors_of old) × (fat_sectors_of new ≡ fat_sectors_of old)

  -- the sector came into use, lies in the file whole, and holds what is said of a new one; of the old FAT's entries
  -- and sectors this one alone is changed
  pub record AllocatesAndFills (init : NewSector) (old new : Allocator F g) (n : ℕ) : Type 0 where
    pub grows : GrowsFat (n ∷ []) (n ∷ []) old new
    pub fresh : IsNewSector init old new n
    pub whole : IsTrue (is_honest old) → HasWhole (n ∷ []) new

  -- so it did as a chain of its own; it had been in no use, or where none was spare, was none of the file
  pub record AllocatesOneSector (init : NewSector) (old new : Allocator F g) (n : ℕ) : Type 0 where
    pub free : IsFreeIn (fat_of old) n
    pub chain : IsChain (fat_of new) n (n ∷ [])
    pub occupies : AllocatesAndFills init old new n
    pub appended : IsLastResort old n
    pub behind : MarksBehind (n ∷ []) (n ∷ []) old new

  -- the bytes of a linked and writable chain of an honest file are longer by those of new sectors of this kind
  abbrev pub FillsBehind : SectorInit → Links → Links → Allocator F g → Allocator F g → Type 0
  FillsBehind init before after old new = IsTrue (is_honest old) → version_of old ≡ links_version before → IsChainInTable (fat_of old) (ids_of before)
      → AreSectorsWritable (MayWrite old) (links_version before) (ids_of before)
      → joined (links_version before) (bytes_of new) (ids_of after)
      ≡ joined (links_version before) (bytes_of old) (ids_of before) ++ copies (length (ids_of after) - length (ids_of before)) (initial init (sector_len (links_version before)))
