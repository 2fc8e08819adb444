-- Entries of the FAT are written in the sectors that hold it, and then set in memory.
use Rattle.std.proofs.Common.{◌≡◌, ℕ, ◌+◌, ◌*◌, ◌/◌, ◌%◌, ◌<◌, ◌≤◌, ◌^◌, ◌⊎◌, false, List, [], ◌∷◌, length, length-take, get_or, refl, ap, sym, subst, ◌∙◌, arith, ⊎_elim, IsTrue}
use Rattle.std.specs.Int.{w32, to_le_bytes}
use Rattle.std.proofs.Math.ListN.{set}
use Rattle.std.proofs.lemmas.List.{ext_get_or}
use Rattle.cfb_medium.specs.Bytes.{overwritten}
use Rattle.cfb_medium.specs.declared.medium.ReadMedium.{Ghosts}
use Rattle.cfb_sectors.specs.Held.{bytes_of, count_of, has_failed_here, version_of, Changes, IsHonest}
use Rattle.cfb_sectors.specs.Sectors.{fat_in, free, sector_start}
use Rattle.cfb_sectors.specs.declared.sectors.Sectors.{Sectors}
use Rattle.cfb_chains.specs.Changes.{AreDistinct, DifferOnlyAt, HaveEntry, IsBeside}
use Rattle.cfb_fat_runs.specs.Freeing.{FreesFirst}
use Rattle.cfb_fat.specs.Changing.{fat_here, WritesFatEntries}
use Rattle.cfb_fat.proofs.EntryChanges.{differ_none, one_is}
use Rattle.cfb_fat.specs.Listed.{EndsAtSector}
use Rattle.cfb_fat.specs.Orderly.{AreBelow}
use Rattle.cfb_fat.proofs.EndsKept.{entry_inside, whole_over}
use Rattle.cfb_fat.proofs.Entering.{differ_at, entered, index_in, others_stay}
use Rattle.cfb_fat.proofs.FatEntries.{length-fat_in, per}
use Rattle.cfb_fat.proofs.ListedStays.{entry_aside, listed_still, longer_over, told_in}
use Rattle.cfb_fat.proofs.Listing.{header_whole}
use Rattle.cfb_fat.proofs.Packed.{IsPacked}
use Rattle.cfb_chains.proofs.Owners.{is_among}

-- the same entries are the same in the table in memory and in that of the sectors
pub same_freed : (ids fat now here then : List ℕ) → fat ≡ here → FreesFirst (length ids) ids fat now → DifferOnlyAt ids here then → HaveEntry free then ids → now ≡ then
same_freed ids fat now here then same memory file entries = ext_get_or 0 now then (memory.size ∙ ap length same ∙ sym file.size) (λ n less. ⊎_elim
    (λ none. memory.others n none ∙ ap (λ l. get_or l n 0) same ∙ sym (file.others n none))
    (λ some. ap (λ m. get_or now m 0) (sym some.2) ∙ memory.here some.0 some.1 ∙ sym (entries some.0 some.1) ∙ ap (λ m. get_or then m 0) some.2)
    (is_among ids n))

-- entries were freed, none in front of this place
pub packed_freed : (fat now ds fs ids : List ℕ) (old new : ℕ) → IsPacked old fat ds fs → new ≤ old → ((k : ℕ) → k < length ids → new ≤ get_or ids k 0) → FreesFirst (length ids) ids fat now → IsPacked new now ds fs
packed_freed fat now ds fs ids old new was fewer each memory k below is no_ds no_fs =
    was k (omega (arith, below, fewer)) (sym (memory.others k (λ j inside at. let low = each j inside in omega (arith, low, at, below))) ∙ is) no_ds no_fs

module _ {F : Type 0} {g : Ghosts F} where
  pub here_size : (fs : List ℕ) (a : Sectors F g) → count_of a ≤ length fs * per (version_of a) → length (fat_here fs a) ≡ count_of a
  here_size fs a places = length-take (count_of a) (fat_in (version_of a) (bytes_of a) fs) ∙ (let size = length-fat_in (version_of a) (bytes_of a) fs in omega (arith, size, places))

  -- an entry was written in its place
  pub entry_here : (fs : List ℕ) (a b : Sectors F g) (id entry holder each : ℕ) → each ≡ per (version_of a) → holder ≡ get_or fs (id / each) 0 → id < count_of a → count_of a ≤ length fs * per (version_of a)
      → Changes (λ bytes. overwritten bytes (sector_start (version_of a) holder + 4 * (id % each)) (to_le_bytes w32 entry)) a b → count_of b ≡ count_of a → entry < 2 ^ 32
      → has_failed_here b ≡ false → IsHonest a → AreDistinct fs → set (fat_here fs a) id entry ≡ fat_here fs b
  entry_here fs a b id entry holder each is_each is_holder there places did count small live honest once =
      let size = here_size fs a places in
      entered (version_of a) (version_of b) (bytes_of a) (bytes_of b) fs [] (fat_here fs a) (count_of a) (count_of b) id entry holder each did.version count is_each is_holder (did.bytes live honest) once
      (omega (arith, size, there)) (omega (arith, size)) (omega (arith, size, places)) small refl

  pub one_written : (fs : List ℕ) (a b : Sectors F g) (id entry holder each : ℕ) → each ≡ per (version_of a) → holder ≡ get_or fs (id / each) 0 → AreBelow (count_of a) fs → id < count_of a → count_of a ≤ length fs * per (version_of a)
      → Changes (λ bytes. overwritten bytes (sector_start (version_of a) holder + 4 * (id % each)) (to_le_bytes w32 entry)) a b → count_of b ≡ count_of a → entry < 2 ^ 32 → WritesFatEntries (id ∷ []) fs a b
  one_written fs a b id entry holder each is_each is_holder below_fs there places did count small =
      let v = version_of a in
      let some : 0 < count_of a = omega (arith, there) in
      let size = here_size fs a places in
      let below = index_in v (fat_here fs a) fs id each is_each (omega (arith, size, there)) (omega (arith, size, places)) in
      record {
        honest = did.honest;
        continues = did.continues;
        version = did.version;
        count = count;
        live = did.live;
        fat = λ live honest once. subst (DifferOnlyAt (id ∷ []) (fat_here fs a)) (entry_here fs a b id entry holder each is_each is_holder there places did count small live honest once) (differ_at (fat_here fs a) id entry);
        longer = λ live honest. longer_over (bytes_of a) (bytes_of b) (to_le_bytes w32 entry) _ (did.bytes live honest);
        told = λ live honest ds. told_in v (bytes_of a) (bytes_of b) (to_le_bytes w32 entry) ds fs _ _ (did.bytes live honest) (header_whole v (bytes_of a) (count_of a) (a.counted (did.live live) honest) some);
        whole = λ live honest. whole_over v (bytes_of a) (bytes_of b) (to_le_bytes w32 entry) (count_of a) _ (a.counted (did.live live) honest) some (did.bytes live honest)
            (entry_inside v fs id holder each (count_of a) is_each is_holder below below_fs);
        lists = λ live honest ds once.
            let aside = entry_aside v ds fs (to_le_bytes w32 entry) id holder each refl is_each below is_holder once in
            (listed_still v (version_of b) (bytes_of a) (bytes_of b) (to_le_bytes w32 entry) ds fs _ (count_of a) (count_of b) did.version count (did.bytes live honest) (a.counted (did.live live) honest)
            (b.counted live (subst IsTrue (sym did.honest) honest)) some aside.0 aside.1).0;
        beside = λ live honest. others_stay v (bytes_of a) (bytes_of b) fs id entry holder each is_each is_holder below (did.bytes live honest);
      }

  pub writes_none : (ids fs : List ℕ) (a : Sectors F g) → WritesFatEntries ids fs a a
  writes_none ids fs a = record {
    honest = refl;
    continues = λ start from. from;
    version = refl;
    count = refl;
    live = λ live. live;
    fat = λ live honest once. differ_none ids (fat_here fs a);
    longer = λ live honest. omega arith;
    told = λ live honest ds told. told;
    whole = λ live honest whole. whole;
    lists = λ live honest ds once lists. lists;
    beside = λ live honest place count apart. refl;
  }

  pub writes_more : (ids fs : List ℕ) (a b c : Sectors F g) (i n : ℕ) → i < length ids → n ≡ get_or ids i 0 → WritesFatEntries ids fs a b → WritesFatEntries (n ∷ []) fs b c → WritesFatEntries ids fs a c
  writes_more ids fs a b c i n below is h k = record {
    honest = k.honest ∙ h.honest;
    continues = λ start from. k.continues start (h.continues start from);
    version = k.version ∙ h.version;
    count = k.count ∙ h.count;
    live = λ live. h.live (k.live live);
    fat = λ live honest once.
        let first = h.fat (k.live live) honest once in
        let second = k.fat live (subst IsTrue (sym h.honest) honest) once in
        record {
          size = second.size ∙ first.size;
          others = λ m none. second.others m (λ j single same. none i below (sym is ∙ one_is n m j single same)) ∙ first.others m none;
        };
    longer = λ live honest. let first = h.longer (k.live live) honest in let second = k.longer live (subst IsTrue (sym h.honest) honest) in omega (arith, first, second);
    told = λ live honest ds told. k.told live (subst IsTrue (sym h.honest) honest) ds (h.told (k.live live) honest ds told);
    whole = λ live honest whole. subst (λ v. EndsAtSector v (bytes_of c)) h.version (k.whole live (subst IsTrue (sym h.honest) honest) (subst (λ v. EndsAtSector v (bytes_of b)) (sym h.version) (h.whole (k.live live) honest whole)));
    lists = λ live honest ds once lists. k.lists live (subst IsTrue (sym h.honest) honest) ds once (h.lists (k.live live) honest ds once lists);
    beside = λ live honest place count apart.
        k.beside live (subst IsTrue (sym h.honest) honest) place count (subst (λ v. IsBeside v fs place count) (sym h.version) apart) ∙ h.beside (k.live live) honest place count apart;
  }
