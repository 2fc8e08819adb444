-- One owner's chain changes step by step, and all others have what they had.
use Rattle.std.proofs.Common.{◌≡◌, ℕ, List, [], ◌∷◌, ◌++◌, length, get_or, zero, suc, refl, sym, ap, subst, ◌∙◌, arith}
use Rattle.std.specs.Prelude.{slice_index, Some}
use Rattle.std.specs.List.{flat_map, AllByRecursion}
use Rattle.std.proofs.lemmas.Option.{slice_get_within, slice_get-get_or}
use Rattle.cfb_medium.specs.Versions.{sector_len}
use Rattle.cfb_medium.specs.declared.medium.ReadMedium.{Ghosts}
use Rattle.cfb_medium.specs.declared.version.Version.{Version}
use Rattle.cfb_sectors.specs.Sectors.{end_of_chain, sector_start, Chain as IsChain}
use Rattle.cfb_chains.specs.Changes.{AreSubsetOf, AreDisjoint, IsFreeIn, IsNotIn}
use Rattle.cfb_chains.specs.Grown.{IsChainInTable}
use Rattle.cfb_chains.specs.Owned.{ChangesAtMost, ReplacesOwnedChain, OwnDisjointChains, SectorLayer, KeepsOwnedSectors}
use Rattle.cfb_chains.proofs.Beside.{none_both}
use Rattle.cfb_chains.proofs.Owners.{leaves_more, none_of_nothing, other_left, owned_changed}
use Rattle.cfb_fat.specs.declared.allocator.Allocator.{Allocator}
use Rattle.cfb_fat.specs.Changing.{MayWrite}
use Rattle.cfb_fat.specs.Tables.{difat_sectors_of, fat_sectors_of, tables_of, version_of}
use Rattle.cfb_fat.proofs.Leaving.{none_there}

-- these sectors as one owner's, before all others
pub with_first : List ℕ → (ℕ → List ℕ) → ℕ → List ℕ
with_first ids own zero = ids
with_first ids own (suc k) = own k

module _ (S : List ℕ → ℕ → List ℕ) (old : SectorLayer) (own : ℕ → List ℕ) where
  -- one owner has these, and all others what they had, with their bytes
  pub record Held (now : SectorLayer) (ids : List ℕ) : Type 0 where
    pub owned : OwnDisjointChains now.table now.tables (with_first ids own)
    pub bytes : (k : ℕ) → flat_map (S now.bytes) (own k) ≡ flat_map (S old.bytes) (own k)

  pub held_first : OwnDisjointChains old.table old.tables own → Held old []
  unfolding with_first
  held_first o = record {
    owned = record {
      linked = linked;
      apart = apart;
      beside = beside;
      marked = o.marked;
    };
    bytes = λ k. refl;
  }
    where
      linked : (k : ℕ) → IsChainInTable old.table (with_first [] own k)
      linked zero = refl
      linked (suc k) = o.linked k

      apart : (k l : ℕ) → (k ≡ l → ⊥) → AreDisjoint (with_first [] own k) (with_first [] own l)
      apart zero zero differ = absurd (differ refl)
      apart zero (suc l) differ = none_of_nothing (own l)
      apart (suc k) zero differ = tt
      apart (suc k) (suc l) differ = o.apart k l (λ same. differ (ap suc same))

      beside : (k : ℕ) → AreDisjoint old.tables (with_first [] own k)
      beside zero = tt
      beside (suc k) = o.beside k

  pub held_then : (ids later more touched : List ℕ) (a b : SectorLayer) → Held a ids → ChangesAtMost S [] touched a b → AreSubsetOf (ids ++ more) touched → AllByRecursion (IsFreeIn a.table) more → AreDisjoint b.tables more
      → IsChainInTable b.table later → AreSubsetOf (ids ++ more) later → Held b later
  unfolding with_first
  held_then ids later more touched a b h leaves less loose spare linked among =
      let moves : ReplacesOwnedChain S [] 0 later more a b (with_first ids own) (with_first later own) = record {
        becomes = record { leaves = leaves_more S [] touched (ids ++ more) a b less leaves; were_free = loose; spare = spare; linked = linked; among = among };
        mine = refl;
        others = others;
      } in
      record {
        owned = owned_changed S a b (with_first ids own) (with_first later own) 0 [] later more h.owned moves;
        bytes = λ k. (other_left S a b (with_first ids own) (with_first later own) 0 [] later more h.owned moves (suc k) (λ same. omega (arith, same))).bytes ∙ h.bytes k;
      }
    where
      others : (k : ℕ) → (k ≡ 0 → ⊥) → with_first later own k ≡ with_first ids own k
      others zero differ = absurd (differ refl)
      others (suc k) differ = refl

  pub held_last : (now : SectorLayer) (ids : List ℕ) → Held now ids → (k : ℕ) → KeepsOwnedSectors S old now (own k)
  unfolding with_first
  held_last now ids h k = record { linked = h.owned.linked (suc k); beside = h.owned.beside (suc k); bytes = h.bytes k }

-- a list with a last number that is one number alone
pub one_last : (ids : List ℕ) (last n : ℕ) → ids ++ last ∷ [] ≡ n ∷ [] → last ≡ n
one_last [] last n same = ap (λ l. get_or l 0 0) same
one_last (x ∷ []) last n same = let size = ap length same in absurd (omega (arith, size))
one_last (x ∷ y ∷ ids) last n same = let size = ap length same in absurd (omega (arith, size))

pub among_two : (n m last : ℕ) → last ≡ n → AreSubsetOf (n ∷ m ∷ []) (m ∷ last ∷ m ∷ [])
among_two n m last is x none zero below same = none 1 (omega arith) same
among_two n m last is x none (suc zero) below same = none 0 (omega arith) (sym is ∙ same)
among_two n m last is x none (suc (suc zero)) below same = none 1 (omega arith) same
among_two n m last is x none (suc (suc (suc k))) below same = absurd (omega arith)

pub among_one : (n : ℕ) → AreSubsetOf (n ∷ []) (n ∷ n ∷ [])
among_one n x none zero below same = none 0 (omega arith) same
among_one n x none (suc zero) below same = none 0 (omega arith) same
among_one n x none (suc (suc k)) below same = absurd (omega arith)

pub among_same : (xs ys : List ℕ) → ys ≡ xs → AreSubsetOf xs ys
among_same xs ys same x none = subst (λ l. IsNotIn l x) (sym same) none

pub among_front : (n m : ℕ) → AreSubsetOf (n ∷ m ∷ []) (n ∷ [])
among_front n m x none zero below same = none 0 (omega arith) same
among_front n m x none (suc k) below same = absurd (omega arith)

pub among_back : (n m : ℕ) → AreSubsetOf (n ∷ m ∷ []) (m ∷ [])
among_back n m x none zero below same = none 1 (omega arith) same
among_back n m x none (suc k) below same = absurd (omega arith)

-- a chain that was ended at its first sector
pub ended : (old new : List ℕ) (n : ℕ) (ids : List ℕ) → IsChain old n (n ∷ ids) → length new ≡ length old → slice_index new n ≡ end_of_chain → IsChain new n (n ∷ [])
ended old new n ids (is, regular, next, found, rest) size ends =
    let below = slice_get_within old n next found in
    (refl, regular, end_of_chain, slice_get-get_or new n 0 (omega (arith, size, below)) ∙ ap Some ends, refl)

module _ {F : Type 0} {g : Ghosts F} where
  -- a sector that may be written whole holds no table
  pub spare_of : (it : Allocator F g) (v : Version) (n : ℕ) → version_of it ≡ v → MayWrite it (sector_start v n) (sector_len v) → IsNotIn (tables_of it) n
  spare_of it v n same may =
      let here = subst (λ u. MayWrite it (sector_start u n) (sector_len u)) (sym same) may in
      none_both (difat_sectors_of it) (fat_sectors_of it) n (none_there (version_of it) (difat_sectors_of it) n here.difat) (none_there (version_of it) (fat_sectors_of it) n here.fat)
