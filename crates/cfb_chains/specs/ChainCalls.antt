-- What calls that change a chain say of it ([MS-CFB] 2.3).
use Rattle.std.specs.Prelude.{◌≡◌, ℕ, ◌+◌, ◌-◌, ◌*◌, ◌<◌, ◌⊎◌, ◌↔◌, false, min, true, List, [], ◌∷◌, ◌++◌, drop, length, replicate, slice_index, slice_index_or, take, IfErr, IfOk, IsErrOf, IsTrue, OnErr, OnOk, Result}
use Rattle.cfb_medium.specs.Bytes.{overwritten}
use Rattle.cfb_medium.specs.Calls.{IsFaultOrInvalidInputIf}
use Rattle.cfb_medium.specs.Versions.{sector_len}
use Rattle.cfb_medium.specs.declared.error.Error.{Error}
use Rattle.cfb_medium.specs.declared.error.Error.TheVariants.{Failed, Full, InvalidData, InvalidInput}
use Rattle.cfb_sectors.specs.Initial.{initial}
use Rattle.cfb_sectors.specs.Sectors.{end_of_chain, free, greatest_regular, joined, sector_start, Chain as IsChain}
use Rattle.cfb_sectors.specs.declared.sector.HasSectors.{Ghosts}
use Rattle.cfb_chains.specs.ChainViews.{holder_of, init_of, position_of, sectors_of, version_of}
use Rattle.cfb_chains.specs.Changes.{AreSubsetOf, AreDistinct, HaveEntry}
use Rattle.cfb_chains.specs.Grown.{AreSectorsWritable, EndsInWriteOrRead, IsChainInTable}
use Rattle.cfb_chains.specs.Layers.{Changing, Freeing, Growing}
use Rattle.cfb_chains.specs.Positions.{left_in, place_in, tail_in}
use Rattle.cfb_chains.specs.declared.chain.Chain.{Chain}

-- refusals by rule: the layer may not write there, or its tables can't be changed or haven't the chain
abbrev pub IsInvalid : Error → Type 0
IsInvalid e = e ≡ InvalidData

-- so, or there is no such place
abbrev pub IsInvalidPlace : Error → Type 0
IsInvalidPlace e = (e ≡ InvalidData) ⊎ (e ≡ InvalidInput)

-- so, or no sector's number is left
abbrev pub IsInvalidOrFull : Error → Type 0
IsInvalidOrFull e = (e ≡ InvalidData) ⊎ (e ≡ Full)

module _ {H : Type 0} {s : Ghosts H} where
  -- the bytes that its sectors have
  abbrev pub len_of : Chain H s → ℕ
  len_of it = length (sectors_of it) * sector_len (version_of it)

  -- its first sector, or "end of chain" where it has none
  abbrev pub start_of : Chain H s → ℕ
  start_of it = slice_index_or (sectors_of it) 0 end_of_chain

  -- its bytes: those of its sectors, joined
  abbrev pub chain_bytes : (H → List ℕ) → Chain H s → List ℕ
  chain_bytes bytes it = joined (version_of it) (bytes (holder_of it)) (sectors_of it)

  -- what a sector holds that it takes in
  abbrev pub new_sector : Chain H s → List ℕ
  new_sector it = initial (init_of it) (sector_len (version_of it))

  -- nothing but reads happened, and it has the sectors that it had
  abbrev pub OnlyReadsChain : (H → H → Type 0) → Chain H s → Chain H s → Type 0
  OnlyReadsChain rests old new = rests (holder_of old) (holder_of new) × (sectors_of new ≡ sectors_of old)

  -- Only over a live layer is a call done, and leaves it live; one that had failed answers `Failed`, and rests. After an error
  -- the layer has failed, or nothing but reads happened. The error is a fault or such a refusal, and has its cause.
  pub record ChainErrorContract {T : Type 0} (g : Changing H) (refuses : Error → Type 0) (result : Result T Error) (old new : Chain H s) : Type 0 where
    pub live : OnOk result ((g.failed (holder_of old) ≡ false) × (g.failed (holder_of new) ≡ false))
    pub failed : g.failed (holder_of old) ≡ true → IsErrOf result Failed × OnlyReadsChain g.rests old new
    pub after : OnErr result ((g.failed (holder_of new) ≡ true) ⊎ OnlyReadsChain g.rests old new)
    pub cause : IfErr result (g.has_cause (holder_of old) (holder_of new))
    pub fault : IfErr result (λ e. IsFaultOrInvalidInputIf ⊥ e ⊎ refuses e)

  -- of these bytes a write takes so many: what the position's sector takes
  abbrev pub taken_count : List ℕ → Chain H s → ℕ
  taken_count bytes it = min (length bytes) (left_in (version_of it) (position_of it))

  -- the layer may write them there
  abbrev pub CanWriteInChain : (H → ℕ → ℕ → Type 0) → List ℕ → Chain H s → Type 0
  CanWriteInChain may_write bytes it = may_write (holder_of it) (place_in (version_of it) (sectors_of it) (position_of it)) (taken_count bytes it)

  -- the layer's second state comes from its first by a write of them at the position in these sectors
  abbrev pub WritesAtPosition : (ℕ → List ℕ → H → H → Type 0) → List ℕ → Chain H s → List ℕ → H → H → Type 0
  WritesAtPosition writes bytes it ids = writes (place_in (version_of it) ids (position_of it)) (take (left_in (version_of it) (position_of it)) bytes)

  -- A write tells how many bytes it took, and moves the position behind them; after an error that stays.
  pub record Advances (bytes : List ℕ) (result : Result ℕ Error) (old new : Chain H s) : Type 0 where
    pub count : IfOk result (λ n. n ≡ taken_count bytes old)
    pub moved : IfOk result (λ n. position_of new ≡ position_of old + n)
    pub stays : OnErr result (position_of new ≡ position_of old)

  -- these bytes lie over the chain's from a place on, where no sector stands twice in it
  abbrev pub ChainOverwrites : Changing H → ℕ → List ℕ → Chain H s → Chain H s → Type 0
  ChainOverwrites g place bytes old new = IsTrue (g.honest (holder_of old)) → AreDistinct (sectors_of old)
      → joined (version_of old) (g.bytes (holder_of new)) (sectors_of old) ≡ overwritten (chain_bytes g.bytes old) place bytes

  -- A write before the chain's end lies over the chain's bytes. It is done where the layer may write there; `InvalidData` tells
  -- of a live layer that may not, and then nothing but reads happened.
  pub record WritesInside (g : Changing H) (bytes : List ℕ) (result : Result ℕ Error) (old new : Chain H s) : Type 0 where
    pub written : IfOk result (λ n. ChainOverwrites g (position_of old) (take n bytes) old new)
    pub there : OnOk result (CanWriteInChain g.may_write bytes old)
    pub refused : IsErrOf result InvalidData ↔ ((g.failed (holder_of old) ≡ false) × (CanWriteInChain g.may_write bytes old → ⊥))
    pub writes : CanWriteInChain g.may_write bytes old → WritesAtPosition g.writes bytes old (sectors_of old) (holder_of old) (holder_of new)
    pub rests : (CanWriteInChain g.may_write bytes old → ⊥) → g.rests (holder_of old) (holder_of new)
    pub sectors : sectors_of new ≡ sectors_of old

  -- the layer may write what lies behind a length in the sector in which it ends
  abbrev pub MayZero : (H → ℕ → ℕ → Type 0) → ℕ → Chain H s → Type 0
  MayZero may_write len it = may_write (holder_of it) (place_in (version_of it) (sectors_of it) len) (tail_in (version_of it) len)

  -- the layer's second state comes from its first by writing zeros there
  abbrev pub Zeroes : (ℕ → List ℕ → H → H → Type 0) → ℕ → Chain H s → H → H → Type 0
  Zeroes writes len it = writes (place_in (version_of it) (sectors_of it) len) (replicate (tail_in (version_of it) len) 0)

  -- the layer's tables can't be changed, or haven't the chain
  abbrev pub LacksUsableChain : Freeing H → Chain H s → Type 0
  LacksUsableChain g it = IsTrue (g.orderly (holder_of it)) → IsChainInTable (g.fat (holder_of it)) (sectors_of it) → ⊥

  -- where it has sectors, the table has a chain from its last one on
  abbrev pub HasEnd : (H → List ℕ) → Chain H s → Type 0
  HasEnd fat it = 0 < length (sectors_of it) → (ids : List ℕ) × (last : ℕ)
      × IsChain (fat (holder_of it)) (slice_index (sectors_of it) (length (sectors_of it) - 1)) (ids ++ last ∷ [])

  -- the layer's tables can't be changed, or have no chain from its last sector on
  abbrev pub HasNoEnd : Freeing H → Chain H s → Type 0
  HasNoEnd g it = IsTrue (g.orderly (holder_of it)) → HasEnd g.fat it → ⊥

  -- it has so many sectors of those that it had, at the front; a position behind the new end went there
  abbrev pub IsCutTo : ℕ → Chain H s → Chain H s → Type 0
  IsCutTo count old new = (sectors_of new ≡ take count (sectors_of old)) × (position_of new ≡ min (position_of old) (count * sector_len (version_of old)))

  -- the table changed at entries of the chain's sectors alone, and once done those behind so many are free
  abbrev pub FreesBehind : {T : Type 0} → Freeing H → ℕ → Result T Error → Chain H s → Chain H s → Type 0
  FreesBehind g count result old new = (changed : List ℕ) × g.changes_fat changed (holder_of old) (holder_of new)
      × OnOk result (IsChainInTable (g.fat (holder_of old)) (sectors_of old) → AreSubsetOf (sectors_of old) changed × HaveEntry free (g.fat (holder_of new)) (drop count (sectors_of old)))

  -- where the table had the chain it has it now
  abbrev pub StaysLinked : (H → List ℕ) → Chain H s → Chain H s → Type 0
  StaysLinked fat old new = IsChainInTable (fat (holder_of old)) (sectors_of old) → IsChainInTable (fat (holder_of new)) (sectors_of new)

  -- where each of its sectors may be written whole, so it is now
  abbrev pub StaysWritable : (H → ℕ → ℕ → Type 0) → Chain H s → Chain H s → Type 0
  StaysWritable may_write old new = AreSectorsWritable (may_write (holder_of old)) (version_of old) (sectors_of old) → AreSectorsWritable (may_write (holder_of new)) (version_of old) (sectors_of new)

  -- the sectors that a writable chain of an honest layer has now hold what they held
  abbrev pub KeepsBytes : Freeing H → Chain H s → Chain H s → Type 0
  KeepsBytes g old new = IsTrue (g.honest (holder_of old)) → AreSectorsWritable (g.may_write (holder_of old)) (version_of old) (sectors_of old)
      → joined (version_of old) (g.bytes (holder_of new)) (sectors_of new) ≡ joined (version_of old) (g.bytes (holder_of old)) (sectors_of new)

  -- The chain keeps so many sectors at its front, with their bytes, and those behind them are freed.
  pub record Cuts {T : Type 0} (g : Freeing H) (count : ℕ) (result : Result T Error) (old new : Chain H s) : Type 0 where
    pub cut : OnOk result (IsCutTo count old new)
    pub frees : FreesBehind g count result old new
    pub linked : OnOk result (StaysLinked g.fat old new)
    pub writable : OnOk result (StaysWritable g.may_write old new)
    pub bytes : OnOk result (KeepsBytes g old new)

  -- a linked and writable chain of an honest layer, whose sectors are these now, has these bytes
  abbrev pub ChainHolds : Growing H → Chain H s → List ℕ → H → List ℕ → Type 0
  ChainHolds g old ids now content = IsTrue (g.honest (holder_of old)) → g.version (holder_of old) ≡ version_of old → IsChainInTable (g.fat (holder_of old)) (sectors_of old)
      → AreSectorsWritable (g.may_write (holder_of old)) (version_of old) (sectors_of old) → joined (version_of old) (g.bytes now) ids ≡ content

  -- the chain took in sectors behind its own, which are these now, and the table changed at entries of these alone
  abbrev pub AppendsSectors : Growing H → Chain H s → List ℕ → H → Type 0
  AppendsSectors g old ids now = (more : List ℕ) × (changed : List ℕ) × (ids ≡ sectors_of old ++ more) × g.grows more changed (holder_of old) now
      × (IsChainInTable (g.fat (holder_of old)) (sectors_of old) → AreSubsetOf ids changed)

  -- so it did, and then the bytes were put at the position, or only reads happened; it may have been made to fail then
  abbrev pub LengthensAndPuts : Growing H → List ℕ → Chain H s → Chain H s → Type 0
  LengthensAndPuts g bytes old new = (more : List ℕ) × (changed : List ℕ) × (mid : H) × (sectors_of new ≡ sectors_of old ++ more) × g.grows more changed (holder_of old) mid
      × (IsChainInTable (g.fat (holder_of old)) (sectors_of old) → AreSubsetOf (sectors_of new) changed)
      × EndsInWriteOrRead (WritesAtPosition g.writes bytes old (sectors_of new)) g.rests g.fails mid (holder_of new)

  -- where the table had the chain and it was writable, so is that of these sectors
  pub record ChainKeeps (g : Growing H) (old : Chain H s) (ids : List ℕ) (now : H) : Type 0 where
    pub linked : IsChainInTable (g.fat (holder_of old)) (sectors_of old) → IsChainInTable (g.fat now) ids
    pub writable : g.version (holder_of old) ≡ version_of old → AreSectorsWritable (g.may_write (holder_of old)) (version_of old) (sectors_of old) → AreSectorsWritable (g.may_write now) (version_of old) ids

  -- a sector may be written whole, where the layer is of the chain's version
  abbrev pub MayWriteSector : Growing H → Chain H s → ℕ → H → Type 0
  MayWriteSector g old n now = g.version (holder_of old) ≡ version_of old → g.may_write now (sector_start (version_of old) n) (sector_len (version_of old))

  -- no number is left for a sector more, in the layer or in a chain
  abbrev pub HasNoNumber : (H → Type 0) → Chain H s → Type 0
  HasNoNumber is_full it = is_full (holder_of it) ⊎ (greatest_regular < length (sectors_of it))

  -- numbers are missing for a chain of so many sectors, in the layer or in a chain
  abbrev pub LacksNumber : (H → ℕ → Type 0) → ℕ → Chain H s → Type 0
  LacksNumber lacks count it = lacks (holder_of it) (count - length (sectors_of it)) ⊎ (greatest_regular + 1 < count)

  -- Why it can't have so many sectors: when it had taken in some, and the live layer's table had changed at these entries, it was
  -- short of them, and none was left, fewer than it wanted, or there are not so many numbers.
  pub record LayerRunsOut (g : Growing H) (count : ℕ) (old : Chain H s) : Type 0 where
    pub more : List ℕ
    pub changed : List ℕ
    pub mid : H
    pub grows : g.grows more changed (holder_of old) mid
    pub live : g.failed mid ≡ false
    pub short : length (sectors_of old) + length more < count
    pub full : g.is_full mid ⊎ g.lacks mid (count - (length (sectors_of old) + length more)) ⊎ (greatest_regular + 1 < count)

  -- `Full` of a chain that can't have so many sectors: the table could be changed, and where the layer lives numbers were missing
  -- before the first was taken in
  pub record IsShortOfSectors (g : Growing H) (count : ℕ) (old new : Chain H s) : Type 0 where
    pub orderly : IsTrue (g.orderly (holder_of old))
    pub lacks : g.failed (holder_of new) ≡ false → LacksNumber g.lacks count old
    pub ran_out : LayerRunsOut g count old
