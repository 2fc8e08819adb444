-- What calls on a chain of sectors do: to its bytes, to its sectors, and to what others own ([MS-CFB] 2.3).
use Rattle.std.specs.Prelude.{◌≡◌, ℕ, ◌+◌, ◌-◌, ◌*◌, ◌/◌, ◌%◌, ◌<◌, ◌≤◌, ◌⊎◌, false, List, [], ◌++◌, drop, length, slice_index, take, IsTrue}
use Rattle.cfb_medium.specs.Bytes.{overwritten}
use Rattle.cfb_medium.specs.Calls.{Reaches}
use Rattle.cfb_medium.specs.Versions.{sector_len}
use Rattle.cfb_medium.specs.declared.error.Error.{Error}
use Rattle.cfb_medium.specs.declared.error.Error.TheVariants.{Full}
use Rattle.cfb_medium.specs.declared.medium.ReadMedium.{Ghosts}
use Rattle.cfb_medium.specs.declared.version.Version.{Version}
use Rattle.cfb_sectors.specs.Copies.{copies}
use Rattle.cfb_sectors.specs.Initial.{initial, padded}
use Rattle.cfb_sectors.specs.Sectors.{free, greatest_regular, joined, sector, sector_start}
use Rattle.cfb_sectors.specs.declared.initial.SectorInit.{SectorInit}
use Rattle.cfb_chains.specs.Behind.{AreWhole}
use Rattle.cfb_chains.specs.ChainCalls.{IsInvalidPlace}
use Rattle.cfb_chains.specs.Changes.{AreDisjoint, HaveEntry}
use Rattle.cfb_chains.specs.Grown.{IsChainInTable}
use Rattle.cfb_chains.specs.LinkViews.{ids_of, links_version}
use Rattle.cfb_chains.specs.Owned.{ReplacesChain}
use Rattle.cfb_chains.specs.declared.links.Links.{Links}
use Rattle.cfb_fat.specs.Growing.{IsLean, LacksSectorNumbers, AllocatesSectors}
use Rattle.cfb_fat.specs.Seeing.{seen_of}
use Rattle.cfb_fat.specs.Tables.{bytes_of, fat_of, has_failed_here, is_honest, medium_of, orderly_of, tables_of, version_of, HasEnds, HeaderCountsTables}
use Rattle.cfb_fat.specs.declared.allocator.Allocator.{Allocator}

-- refusals by rule: there is no such place, or the layer's tables can't be changed or haven't the chain; or no number is left
abbrev pub IsInvalidPlaceOrFull : Error → Type 0
IsInvalidPlaceOrFull e = IsInvalidPlace e ⊎ (e ≡ Full)

-- so many bytes its sectors have
abbrev pub len_of : Links → ℕ
len_of it = length (ids_of it) * sector_len (links_version it)

-- where byte k of the chain of these sectors stands in the file ([MS-CFB] 2.1)
abbrev pub place_of : Version → List ℕ → ℕ → ℕ
place_of version ids k = sector_start version (slice_index ids (k / sector_len version)) + k % sector_len version

module _ {F : Type 0} {g : Ghosts F} where
  -- the same file of the same version; where it has not failed its tables can be changed if they could, and then the header's
  -- numbers of their sectors are right if they were, and file and DIFAT end as a strict reader asks for if they did. Nothing was
  -- published
  pub record KeepsFileInvariants (old new : Allocator F g) : Type 0 where
    pub honest : g.honest (medium_of new) ≡ g.honest (medium_of old)
    pub continues : Reaches g.continues (medium_of old) (medium_of new)
    pub version : version_of new ≡ version_of old
    pub live : has_failed_here new ≡ false → has_failed_here old ≡ false
    pub orderly : has_failed_here new ≡ false → orderly_of new ≡ orderly_of old
    pub told : has_failed_here new ≡ false → IsTrue (is_honest old) → IsTrue (orderly_of old) → HeaderCountsTables old → HeaderCountsTables new
    pub ends : has_failed_here new ≡ false → IsTrue (is_honest old) → IsTrue (orderly_of old) → HasEnds old → HasEnds new

  -- an honest file whose FAT has this chain
  pub record HasFatChain (it : Allocator F g) (links : Links) : Type 0 where
    pub honest : IsTrue (is_honest it)
    pub version : links_version links ≡ version_of it
    pub linked : IsChainInTable (fat_of it) (ids_of links)

  -- so it is, and none of the chain's sectors holds a table
  pub record HasDataChain (it : Allocator F g) (links : Links) : Type 0 where
    pub has : HasFatChain it links
    pub beside : AreDisjoint (tables_of it) (ids_of links)

  -- the chain's bytes: those of its sectors, joined
  abbrev pub content_of : Allocator F g → Links → List ℕ
  content_of it links = joined (version_of it) (bytes_of it) (ids_of links)

  -- these bytes lie over the chain's from a place on, and in the file; its sectors are those that they were
  pub record Overwrites (at : ℕ) (bytes : List ℕ) (old new : Allocator F g) (links : Links) : Type 0 where
    pub chain : HasDataChain new links
    pub becomes : ReplacesChain (sector (version_of old)) [] (ids_of links) [] (ids_of links) (seen_of old) (seen_of new)
    pub content : content_of new links ≡ overwritten (content_of old links) at bytes
    pub there : (k : ℕ) → at ≤ k → k < at + length bytes → place_of (version_of old) (ids_of links) k < length (bytes_of new)

  -- The chain keeps so many sectors at its front, with their bytes, and those behind them are free. What it took in was in no
  -- use, holds what a sector of this kind does at first, and lies in the file whole.
  pub record Resizes (init : SectorInit) (count : ℕ) (old new : Allocator F g) (before after : Links) : Type 0 where
    pub more : List ℕ
    pub sectors : ids_of after ≡ take count (ids_of before) ++ more
    pub chain : HasDataChain new after
    pub becomes : ReplacesChain (sector (version_of old)) [] (ids_of before) more (ids_of after) (seen_of old) (seen_of new)
    pub freed : HaveEntry free (fat_of new) (drop count (ids_of before))
    pub whole : AreWhole (version_of old) (bytes_of new) more
    pub content : content_of new after
        ≡ joined (version_of old) (bytes_of old) (take count (ids_of before)) ++ copies (length more) (initial init (sector_len (version_of old)))

  -- The chain took in sectors that were in no use; they hold these bytes in order, and zeros behind them, and lie in the file whole.
  pub record TakesBytes (bytes : List ℕ) (old new : Allocator F g) (before after : Links) : Type 0 where
    pub more : List ℕ
    pub sectors : ids_of after ≡ ids_of before ++ more
    pub chain : HasDataChain new after
    pub becomes : ReplacesChain (sector (version_of old)) [] (ids_of before) more (ids_of after) (seen_of old) (seen_of new)
    pub whole : AreWhole (version_of old) (bytes_of new) more
    pub content : content_of new after ≡ content_of old before ++ padded (length more * sector_len (version_of old)) bytes

  -- The chain took in sectors that were in no use, which held what a sector of this kind does at first, and then these bytes lie
  -- over its own from a place on, and in the file.
  pub record WritesIntoNewSectors (init : SectorInit) (at : ℕ) (bytes : List ℕ) (old new : Allocator F g) (before after : Links) : Type 0 where
    pub more : List ℕ
    pub sectors : ids_of after ≡ ids_of before ++ more
    pub chain : HasDataChain new after
    pub becomes : ReplacesChain (sector (version_of old)) [] (ids_of before) more (ids_of after) (seen_of old) (seen_of new)
    pub content : content_of new after ≡ overwritten (content_of old before ++ copies (length more) (initial init (sector_len (version_of old)))) at bytes
    pub there : (k : ℕ) → at ≤ k → k < at + length bytes → place_of (version_of old) (ids_of after) k < length (bytes_of new)

  -- numbers are missing for a chain of so many sectors, in the FAT or in a chain
  abbrev pub LacksSectors : Allocator F g → Links → ℕ → Type 0
  LacksSectors it links count = LacksSectorNumbers it (count - length (ids_of links)) ⊎ (greatest_regular + 1 < count)

  -- Why a chain that had so many sectors can't have as many as these: when it had taken in some and the file lived, it was short of
  -- them, and the FAT had with those that were missing more entries than there are numbers; or these are more.
  pub record AllocatorRunsOut (had count : ℕ) (old : Allocator F g) : Type 0 where
    pub more : List ℕ
    pub changed : List ℕ
    pub mid : Allocator F g
    pub takes : AllocatesSectors more changed old mid
    pub live : has_failed_here mid ≡ false
    pub short : had + length more < count
    pub full : (greatest_regular + 1 < length (fat_of mid) + (count - (had + length more))) ⊎ (greatest_regular + 1 < count)

  -- tables that are lean stay so where a chain that had so many sectors has as many as these, or more
  abbrev pub StaysLean : ℕ → ℕ → Allocator F g → Allocator F g → Type 0
  StaysLean had now old new = had ≤ now → (others : ℕ) → IsLean old (others + had) → IsLean new (others + now)
