-- A chain of the FAT beside the tables may be written, and the other way round.
use Rattle.std.proofs.Common.{◌≡◌, ℕ, ◌+◌, ◌%◌, ◌<◌, ◌≤◌, refl, zero, suc, false, List, [], ◌∷◌, ◌++◌, length, take, drop, get_or, sym, subst, ◌∙◌, arith, length-take, length-drop}
use Rattle.std.specs.Prelude.{slice_get, slice_index_or, Some}
use Rattle.std.proofs.lemmas.List.{get_or-take}
use Rattle.std.proofs.lemmas.Option.{slice_get_within}
use Rattle.cfb_medium.specs.Versions.{sector_len}
use Rattle.cfb_medium.specs.declared.medium.ReadMedium.{Ghosts}
use Rattle.cfb_medium.specs.declared.version.Version.{Version}
use Rattle.cfb_medium.specs.declared.version.Version.TheVariants.{V3, V4}
use Rattle.cfb_sectors.specs.Held.{count_of, LiesIn}
use Rattle.cfb_sectors.specs.Sectors.{end_of_chain, free, sector_start, Chain as IsChain}
use Rattle.cfb_chains.specs.Changes.{AreSubsetOf, AreDisjoint, HaveEntry}
use Rattle.cfb_chains.specs.Grown.{AreSectorsWritable, IsChainInTable}
use Rattle.cfb_chains.specs.LinkViews.{ids_of}
use Rattle.cfb_chains.specs.Positions.{left_in}
use Rattle.cfb_chains.specs.declared.links.Links.{Links}
use Rattle.cfb_chains.specs.Owned.{ReplacesChain, SectorLayer}
use Rattle.cfb_chains.proofs.Beside.{none_first, none_second}
use Rattle.cfb_chains.proofs.ChainGrowing.{among_both}
use Rattle.cfb_chains.proofs.Owners.{leaves_more, leaves_then}
use Rattle.cfb_fat.specs.declared.allocator.Allocator.{Allocator}
use Rattle.cfb_fat.specs.Changing.{MayWrite}
use Rattle.cfb_fat.specs.Keeping.{may_part}
use Rattle.cfb_fat.specs.Tables.{difat_sectors_of, fat_of, fat_sectors_of, has_failed_here, sectors_of, tables_of, version_of}
use Rattle.cfb_fat.proofs.Appended.{whole_before}
use Rattle.cfb_fat.proofs.Taken.{whole_writable}
use Rattle.cfb_fat.proofs.Using.{spare_of}
use Rattle.cfb_chain_io.specs.ChainEffects.{HasDataChain}

pub none_behind_all : (xs s more : List ℕ) → AreDisjoint xs (s ++ more) → AreDisjoint xs more
none_behind_all xs [] more none = none
none_behind_all xs (n ∷ s) more none = none_behind_all xs s more none.1

-- nothing is changed behind the end of a list
pub none_dropped : (fat s : List ℕ) (count : ℕ) → length s ≤ count → HaveEntry free fat (drop count s)
none_dropped fat s count few k below = absurd (let size = length-drop count s in omega (arith, below, size, few))

pub among_start : (s : List ℕ) (m : ℕ) → AreSubsetOf s (take m s)
among_start s m n none k below same =
    let size = length-take m s in
    none k (omega (arith, below, size)) (sym (get_or-take m s k 0 (omega (arith, below, size))) ∙ same)

-- one change of a chain after another
pub becomes_then : (S : List ℕ → ℕ → List ℕ) (ids more mid later : List ℕ) (a b c : SectorLayer) → ReplacesChain S [] ids more mid a b → AreSubsetOf (ids ++ more) mid → ReplacesChain S [] mid [] later b c → AreDisjoint c.tables more → ReplacesChain S [] ids more later a c
becomes_then S ids more mid later a b c h among k spare = record {
  leaves = leaves_more S [] ((ids ++ more) ++ (mid ++ [])) (ids ++ more) a c
      (among_both (ids ++ more) (ids ++ more) (mid ++ []) (λ n none. none) (among_both (ids ++ more) mid [] among (λ n none k below same. absurd (omega (arith, below)))))
      (leaves_then S [] [] (ids ++ more) (mid ++ []) a b c h.leaves k.leaves);
  were_free = h.were_free;
  spare = spare;
  linked = k.linked;
  among = λ n none. k.among n (among_both (ids ++ more) mid [] among (λ n none k below same. absurd (omega (arith, below))) n none);
}

module _ {F : Type 0} {g : Ghosts F} where
  pub chain_writable : (it : Allocator F g) (v : Version) (start : ℕ) (s : List ℕ) → has_failed_here it ≡ false → version_of it ≡ v → IsChain (fat_of it) start s → AreDisjoint (tables_of it) s → AreSectorsWritable (MayWrite it) v s
  chain_writable it v start [] live same chain none = tt
  chain_writable it v start (n ∷ s) live same (is, regular, next, found, rest) none =
      let below : n < length (fat_of it) = slice_get_within (fat_of it) n next (subst (λ m. slice_get (fat_of it) m ≡ Some next) (sym is) found) in
      let inside = it.inside live in (
        whole_writable it v n same (omega (arith, below, inside)) (none_first (difat_sectors_of it) (fat_sectors_of it) n none.0) (none_second (difat_sectors_of it) (fat_sectors_of it) n none.0),
        chain_writable it v next s live same rest none.1,
      )

  pub writable_beside : (it : Allocator F g) (v : Version) (s : List ℕ) → version_of it ≡ v → AreSectorsWritable (MayWrite it) v s → AreDisjoint (tables_of it) s
  writable_beside it v [] same may = tt
  writable_beside it v (n ∷ s) same may = (spare_of it v n same may.0, writable_beside it v s same may.1)

chain_below : (table : List ℕ) (start : ℕ) (ids : List ℕ) (i : ℕ) → IsChain table start ids → i < length ids → get_or ids i 0 < length table
chain_below table start [] i chain inside = absurd (omega (arith, inside))
chain_below table start (n ∷ ids) zero (is, regular, next, found, rest) inside = slice_get_within table n next (subst (λ m. slice_get table m ≡ Some next) (sym is) found)
chain_below table start (n ∷ ids) (suc i) (is, regular, next, found, rest) inside = chain_below table next ids i rest (omega (arith, inside))

each_writable : (may : ℕ → ℕ → Type 0) (v : Version) (ids : List ℕ) (i : ℕ) → AreSectorsWritable may v ids → i < length ids → may (sector_start v (get_or ids i 0)) (sector_len v)
each_writable may v [] i all inside = absurd (omega (arith, inside))
each_writable may v (n ∷ ids) zero all inside = all.0
each_writable may v (n ∷ ids) (suc i) all inside = each_writable may v ids i all.1 (omega (arith, inside))

module _ {F : Type 0} {g : Ghosts F} where
  -- a sector of a chain is there
  pub sector_there : (it : Allocator F g) (ids : List ℕ) (i n : ℕ) → has_failed_here it ≡ false → IsChainInTable (fat_of it) ids → i < length ids → n ≡ get_or ids i 0 → n < count_of (sectors_of it)
  sector_there it ids i n live linked below is =
      let first = chain_below (fat_of it) (slice_index_or ids 0 end_of_chain) ids i linked below in
      let inside = it.inside live in
      omega (arith, is, first, inside)

  pub part_there : (it : Allocator F g) (ids : List ℕ) (i n offset count : ℕ) → has_failed_here it ≡ false → IsChainInTable (fat_of it) ids → i < length ids → n ≡ get_or ids i 0 → offset + count ≤ sector_len (version_of it) → LiesIn (sectors_of it) n offset count
  part_there it ids i n offset count live linked below is fits =
      let there = sector_there it ids i n live linked below is in
      let whole = whole_before (version_of it) n (count_of (sectors_of it)) there in
      (there, omega (arith, whole, fits))

  -- a part of it may be written
  pub part_writable : (it : Allocator F g) (links : Links) (i n offset count : ℕ) → has_failed_here it ≡ false → HasDataChain it links → i < length (ids_of links) → n ≡ get_or (ids_of links) i 0 → offset + count ≤ sector_len (version_of it)
      → (n < count_of (sectors_of it)) × MayWrite it (sector_start (version_of it) n + offset) count
  part_writable it links i n offset count live chain below is fits =
      let has = chain.has in
      let all = chain_writable it (version_of it) (slice_index_or (ids_of links) 0 end_of_chain) (ids_of links) live refl has.linked chain.beside in
      let whole = subst (λ m. MayWrite it (sector_start (version_of it) m) (sector_len (version_of it))) (sym is) (each_writable (MayWrite it) (version_of it) (ids_of links) i all below) in (
        sector_there it (ids_of links) i n live has.linked below is,
        may_part it (sector_start (version_of it) n) (sector_len (version_of it)) (sector_start (version_of it) n + offset) count whole (omega arith) (omega (arith, fits)),
      )

-- a position's part of its sector
pub fits_in : (v w : Version) (position offset count : ℕ) → v ≡ w → offset ≡ position % sector_len v → count ≤ left_in v position → offset + count ≤ sector_len w
fits_in v w position offset count same is few = subst (λ u. offset + count ≤ sector_len u) same (fit v is few)
  where
    fit : (u : Version) → offset ≡ position % sector_len u → count ≤ left_in u position → offset + count ≤ sector_len u
    fit V3 is few = omega (arith, is, few)
    fit V4 is few = omega (arith, is, few)
