-- Tables that are lean, and why numbers run out.
use Rattle.std.proofs.Common.{◌≡◌, ◌⊎◌, ℕ, ◌+◌, ◌-◌, ◌<◌, ◌≤◌, inl, inr, false, List, ◌++◌, length, refl, ap, ◌∙◌, arith, length-append, ⊎_elim}
use Rattle.cfb_medium.specs.declared.medium.ReadMedium.{Ghosts}
use Rattle.cfb_sectors.specs.Sectors.{greatest_regular}
use Rattle.cfb_fat.specs.declared.allocator.Allocator.{Allocator}
use Rattle.cfb_fat.specs.Calls.{IsFull}
use Rattle.cfb_fat.specs.Changing.{WritesBeside}
use Rattle.cfb_fat.specs.Growing.{IsLean, LacksSectorNumbers, AllocatesSectors}
use Rattle.cfb_fat.specs.Keeping.{lean_same}
use Rattle.cfb_fat.specs.Tables.{fat_of, has_failed_here, version_of, KeepsTables}
use Rattle.cfb_chain_io.specs.ChainEffects.{StaysLean}

module _ {F : Type 0} {g : Ghosts F} where
  pub keeps_refl : (a : Allocator F g) → KeepsTables a a
  keeps_refl a = record { version = refl; count = refl; fat = refl; fat_sectors = refl; difat_sectors = refl; orderly = refl }

  -- tables are kept, and then by a write beside them
  pub keeps_write : (place : ℕ) (bytes : List ℕ) (a b c : Allocator F g) → KeepsTables a b → WritesBeside place bytes b c → KeepsTables a c
  keeps_write place bytes a b c h k = record {
    version = k.sectors.0.version ∙ h.version;
    count = k.sectors.1 ∙ h.count;
    fat = k.fat ∙ h.fat;
    fat_sectors = k.fat_sectors ∙ h.fat_sectors;
    difat_sectors = k.difat_sectors ∙ h.difat_sectors;
    orderly = k.orderly ∙ h.orderly;
  }

  pub keeps_then : (a b c : Allocator F g) → KeepsTables a b → KeepsTables b c → KeepsTables a c
  keeps_then a b c h k = record {
    version = k.version ∙ h.version;
    count = k.count ∙ h.count;
    fat = k.fat ∙ h.fat;
    fat_sectors = k.fat_sectors ∙ h.fat_sectors;
    difat_sectors = k.difat_sectors ∙ h.difat_sectors;
    orderly = k.orderly ∙ h.orderly;
  }

  pub keeps_lean : (a b : Allocator F g) (content : ℕ) → KeepsTables a b → IsLean a content → IsLean b content
  keeps_lean a b content h lean = lean_same (version_of a) (version_of b) _ _ _ content _ _ _ content h.version (ap length h.fat) (ap length h.fat_sectors) (ap length h.difat_sectors) (omega arith) lean

  pub longer_lean : (s t more changed : List ℕ) (a b : Allocator F g) → has_failed_here b ≡ false → t ≡ s ++ more → AllocatesSectors more changed a b → StaysLean (length s) (length t) a b
  longer_lean s t more changed a b live is takes some others lean =
      let size = ap length is ∙ length-append s more in
      lean_same (version_of b) (version_of b) _ _ _ (others + length s + length more) _ _ _ (others + length t) refl refl refl refl (omega (arith, size)) (takes.grows.lean live (others + length s) lean)

  pub shorter_lean : (had now : ℕ) (a b : Allocator F g) → now < had → StaysLean had now a b
  shorter_lean had now a b less some = absurd (omega (arith, less, some))

  -- no number was left, fewer than were wanted, or there are not so many
  pub too_many : (it : Allocator F g) (left count : ℕ) → 0 < left → IsFull it ⊎ LacksSectorNumbers it left ⊎ (greatest_regular + 1 < count) → (greatest_regular + 1 < length (fat_of it) + left) ⊎ (greatest_regular + 1 < count)
  too_many it left count some = ⊎_elim (λ none. let behind = none.behind in inl (omega (arith, behind, some))) (λ rest. ⊎_elim (λ lacks. inl (omega (arith, lacks))) (λ many. inr many) rest)
