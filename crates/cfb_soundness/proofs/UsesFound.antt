-- What a stream uses, from the chain that was found and where its parts begin.
use Rattle.std.proofs.Common.{◌≡◌, ℕ, List, ◌++◌, map, ap, sym, subst, ◌∙◌, Bool}
use Rattle.cfb_medium.specs.Versions.{sector_len}
use Rattle.cfb_sectors.specs.Sectors.{sector_start, Chain}
use Rattle.cfb_sectors.proofs.OneChain.{chain_unique}
use Rattle.cfb_tree.specs.Directory.{Entry}
use Rattle.cfb_mini.specs.Minis.{AreInside}
use Rattle.cfb_soundness.specs.Marks.{CanTake, MarksEachOnce}
use Rattle.cfb_soundness.specs.Places.{HoldBytes}
use Rattle.cfb_soundness.specs.Uses.{mini_start, HasMiniSectors, HasSectors, SectorTables}
use Rattle.cfb_soundness.proofs.Taking.{can_take_front, can_take_rest, takes_then}

module _ (t : SectorTables) (e : Entry) (links starts : List ℕ) (piece : ℕ) where
  pub long_is : (ids : List ℕ) → Chain t.fat e.start links → HasSectors t e ids → ids ≡ links
  long_is ids chain has = chain_unique t.fat e.start ids links has.chain chain

  pub long_not_held : (ids : List ℕ) → Chain t.fat e.start links → piece ≡ sector_len t.version → starts ≡ map (sector_start t.version) links
      → (HoldBytes piece starts e.size t.file_len → ⊥) → HasSectors t e ids → ⊥
  long_not_held ids chain len is never has =
      never (subst (λ xs. HoldBytes piece xs e.size t.file_len) (ap (map (sector_start t.version)) (long_is ids chain has) ∙ sym is)
      (subst (λ n. HoldBytes n (map (sector_start t.version) ids) e.size t.file_len) (sym len) has.held))

  pub long_held : Chain t.fat e.start links → piece ≡ sector_len t.version → starts ≡ map (sector_start t.version) links
      → HoldBytes piece starts e.size t.file_len → HasSectors t e links
  long_held chain len is held = record {
    chain = chain;
    held = subst (λ n. HoldBytes n (map (sector_start t.version) links) e.size t.file_len) len (subst (λ xs. HoldBytes piece xs e.size t.file_len) is held);
  }

  pub short_is : (ids : List ℕ) → Chain t.mini_fat e.start links → HasMiniSectors t e ids → ids ≡ links
  short_is ids chain has = chain_unique t.mini_fat e.start ids links has.chain chain

  pub short_not_held : (ids : List ℕ) → Chain t.mini_fat e.start links → starts ≡ map (mini_start t) links
      → (HoldBytes 64 starts e.size t.file_len → ⊥) → HasMiniSectors t e ids → ⊥
  short_not_held ids chain is never has =
      never (subst (λ xs. HoldBytes 64 xs e.size t.file_len) (ap (map (mini_start t)) (short_is ids chain has) ∙ sym is) has.held)

  pub short_held : Chain t.mini_fat e.start links → AreInside t.mini_len links → starts ≡ map (mini_start t) links
      → HoldBytes 64 starts e.size t.file_len → HasMiniSectors t e links
  short_held chain inside is held = record { chain = chain; inside = inside; held = subst (λ xs. HoldBytes 64 xs e.size t.file_len) is held }

-- five lists, one after the other
module _ (a b d e f : List ℕ) (m0 m1 m2 m3 m4 m5 : List Bool) where
  pub take_five : MarksEachOnce a m0 m1 → MarksEachOnce b m1 m2 → MarksEachOnce d m2 m3 → MarksEachOnce e m3 m4 → MarksEachOnce f m4 m5 → MarksEachOnce (a ++ b ++ d ++ e ++ f) m0 m5
  take_five first second third fourth fifth =
      takes_then (a ++ b ++ d ++ e) f m0 m4 m5 (takes_then (a ++ b ++ d) e m0 m3 m4 (takes_then (a ++ b) d m0 m2 m3 (takes_then a b m0 m1 m2 first second) third) fourth) fifth

  pub can_first : CanTake (a ++ b ++ d ++ e ++ f) m0 → CanTake a m0
  can_first can = can_take_front a b m0 (can_take_front (a ++ b) d m0 (can_take_front (a ++ b ++ d) e m0 (can_take_front (a ++ b ++ d ++ e) f m0 can)))

  pub can_second : MarksEachOnce a m0 m1 → CanTake (a ++ b ++ d ++ e ++ f) m0 → CanTake b m1
  can_second first can = can_take_rest a b m0 m1 first (can_take_front (a ++ b) d m0 (can_take_front (a ++ b ++ d) e m0 (can_take_front (a ++ b ++ d ++ e) f m0 can)))

  pub can_third : MarksEachOnce a m0 m1 → MarksEachOnce b m1 m2 → CanTake (a ++ b ++ d ++ e ++ f) m0 → CanTake d m2
  can_third first second can =
      can_take_rest (a ++ b) d m0 m2 (takes_then a b m0 m1 m2 first second) (can_take_front (a ++ b ++ d) e m0 (can_take_front (a ++ b ++ d ++ e) f m0 can))

  pub can_fourth : MarksEachOnce a m0 m1 → MarksEachOnce b m1 m2 → MarksEachOnce d m2 m3 → CanTake (a ++ b ++ d ++ e ++ f) m0 → CanTake e m3
  can_fourth first second third can =
      can_take_rest (a ++ b ++ d) e m0 m3 (takes_then (a ++ b) d m0 m2 m3 (takes_then a b m0 m1 m2 first second) third) (can_take_front (a ++ b ++ d ++ e) f m0 can)

  pub can_fifth : MarksEachOnce a m0 m1 → MarksEachOnce b m1 m2 → MarksEachOnce d m2 m3 → MarksEachOnce e m3 m4 → CanTake (a ++ b ++ d ++ e ++ f) m0 → CanTake f m4
  can_fifth first second third fourth can =
      can_take_rest (a ++ b ++ d ++ e) f m0 m4 (takes_then (a ++ b ++ d) e m0 m3 m4 (takes_then (a ++ b) d m0 m2 m3 (takes_then a b m0 m1 m2 first second) third) fourth) can
