-- Sectors that were taken into use, as chains of their own and behind others.
use Rattle.std.proofs.Common.{◌≡◌, ℕ, ◌<◌, true, false, inr, List, [], ◌∷◌, ◌++◌, get_or, zero, suc, sym, subst, ◌∙◌, arith, ⊎_elim, inl, IsTrue}
use Rattle.std.proofs.Math.ListN.{set}
use Rattle.cfb_medium.specs.Calls.{Reaches}
use Rattle.cfb_medium.specs.Versions.{sector_len}
use Rattle.cfb_medium.specs.declared.medium.ReadMedium.{Ghosts}
use Rattle.cfb_medium.specs.declared.version.Version.{Version}
use Rattle.cfb_sectors.specs.Held.{count_of}
use Rattle.cfb_sectors.specs.Sectors.{sector_start, Chain as IsChain}
use Rattle.cfb_chains.specs.Changes.{IsNotIn}
use Rattle.cfb_chains.proofs.Beside.{none_of_two}
use Rattle.cfb_chains.proofs.Extending.{used_begun, used_extended}
use Rattle.cfb_chains.proofs.Staying.{apart}
use Rattle.cfb_fat.specs.declared.allocator.Allocator.{Allocator}
use Rattle.cfb_fat.specs.Changing.{ChangesFat, MayWrite}
use Rattle.cfb_sectors.specs.declared.initial.NewSector.{NewSector}
use Rattle.cfb_fat.specs.Calls.{AllocatesOneSector}
use Rattle.cfb_fat.specs.Growing.{AllocatesSectors}
use Rattle.cfb_fat.specs.Keeping.{grows_then}
use Rattle.cfb_fat.specs.Tables.{bytes_of, difat_sectors_of, fat_of, fat_sectors_of, has_failed_here, medium_of, sectors_of, version_of}
use Rattle.cfb_fat.proofs.Appended.{whole_before}
use Rattle.cfb_chains.proofs.LongerTables.{never, whole_then}
use Rattle.cfb_fat.proofs.GrowthSteps.{change_grows, grows_but, grows_failed}
use Rattle.cfb_fat.proofs.ListedStays.{behind_header}

only_one : (x i k : ℕ) → i < 1 → get_or (x ∷ []) i 0 ≡ k → x ≡ k
only_one x zero k inside same = same
only_one x (suc i) k inside same = absurd (omega arith)

module _ {F : Type 0} {g : Ghosts F} where
  -- a whole sector that holds no part of the tables may be written
  pub whole_writable : (it : Allocator F g) (v : Version) (n : ℕ) → version_of it ≡ v → n < count_of (sectors_of it) → IsNotIn (difat_sectors_of it) n → IsNotIn (fat_sectors_of it) n
      → MayWrite it (sector_start v n) (sector_len v)
  whole_writable it v n same below no_difat no_fat = subst (λ u. MayWrite it (sector_start u n) (sector_len u)) same (record {
    ends = whole_before (version_of it) n (count_of (sectors_of it)) below;
    fat = apart (version_of it) (fat_sectors_of it) n no_fat;
    difat = apart (version_of it) (difat_sectors_of it) n no_difat;
    words = inr (inr (behind_header (version_of it) n));
  })

  pub takes_failed : (taken entries : List ℕ) (a b : Allocator F g) → g.honest (medium_of b) ≡ g.honest (medium_of a) → Reaches g.continues (medium_of a) (medium_of b) → version_of b ≡ version_of a
      → has_failed_here b ≡ true → AllocatesSectors taken entries a b
  takes_failed taken entries a b honest continues version failed =
      record {
        grows = grows_failed taken entries a b honest continues version failed;
        free = never (has_failed_here b) failed;
        used = never (has_failed_here b) failed;
        behind = never (has_failed_here b) failed;
        whole = never (has_failed_here b) failed;
      }

  pub takes_begun : (init : NewSector) (n : ℕ) (a b : Allocator F g) → AllocatesOneSector init a b n → AllocatesSectors (n ∷ []) (n ∷ []) a b
  takes_begun init n a b one = record {
    grows = one.occupies.grows;
    free = λ live. (one.free, tt);
    used = λ live. used_begun (fat_of a) (fat_of b) n one.free (one.occupies.grows.fat live);
    behind = λ live. one.behind;
    whole = λ live. one.occupies.whole;
  }

  pub takes_extended : (init : NewSector) (ids : List ℕ) (start last n : ℕ) (a m b : Allocator F g) → IsChain (fat_of a) start (ids ++ last ∷ []) → has_failed_here m ≡ false → AllocatesOneSector init a m n
      → ChangesFat (last ∷ []) m b → (has_failed_here b ≡ false → fat_of b ≡ set (fat_of m) last n) → AllocatesSectors (n ∷ []) (last ∷ n ∷ []) a b
  takes_extended init ids start last n a m b was live one changes is = record {
    grows = grows_but (n ∷ []) (n ∷ last ∷ []) (n ∷ []) (last ∷ n ∷ []) a b (omega arith)
        (λ k below none. none_of_two n last k (none 1 (omega arith)) (none 0 (omega arith))) (λ p k aside. aside)
        (grows_then (n ∷ []) (n ∷ []) [] (last ∷ []) a m b one.occupies.grows (change_grows (last ∷ []) m b changes));
    free = λ now. (one.free, tt);
    used = λ now. used_extended (fat_of a) (fat_of m) (fat_of b) ids start last n was one.free (one.occupies.grows.fat live) one.chain (is now);
    behind = λ now k past below none unset.
        let size = (changes.fat now).size in
        let same = (changes.fat now).others k (λ i inside equal. unset 0 (omega arith) (only_one last i k inside equal)) in
        ⊎_elim
        (λ told. inl ((λ beside. told.0 (subst (λ l. IsNotIn l k) changes.difat_sectors beside)), same ∙ told.1))
        (λ told. inr ((λ beside. told.0 (subst (λ l. IsNotIn l k) changes.fat_sectors beside)), same ∙ told.1))
        (one.behind k past (omega (arith, below, size)) none (λ i inside equal. unset 1 (omega arith) (only_one n i k inside equal)));
    whole = λ now honest. whole_then (version_of m) (version_of b) (n ∷ []) [] (bytes_of m) (bytes_of b) changes.version (changes.longer now (subst IsTrue (sym one.occupies.grows.honest) honest)) (one.occupies.whole honest) tt;
  }
