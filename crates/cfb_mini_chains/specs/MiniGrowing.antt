-- What a mini chain is that took mini sectors in, with the bytes that were written there ([MS-CFB] 2.4).
use Rattle.std.specs.List.{AllByRecursion}
use Rattle.std.specs.Prelude.{◌≡◌, ℕ, ◌<◌, List, ◌++◌, length}
use Rattle.cfb_chains.specs.Changes.{IsFreeIn, IsNotIn, SameExceptAt}
use Rattle.cfb_chains.specs.Owned.{KeepsOwnedSectors}
use Rattle.cfb_fat.specs.Seeing.{seen_of}
use Rattle.cfb_fat.specs.Tables.{version_of}
use Rattle.cfb_medium.specs.declared.medium.ReadMedium.{Ghosts}
use Rattle.cfb_mini.specs.Changing.{HasUniqueOwners, RootHasMiniStream}
use Rattle.cfb_mini.specs.Files.{LeavesFile}
use Rattle.cfb_mini.specs.LinkViews.{minis_of}
use Rattle.cfb_mini.specs.Minis.{mini_sector, IsMiniChain}
use Rattle.cfb_mini.specs.Views.{allocator_of, mini_content_of, mini_fat_ids, mini_fat_of, mini_stream_ids, mini_stream_len, mini_stream_of}
use Rattle.cfb_mini.specs.declared.links.MiniLinks.{MiniLinks}
use Rattle.cfb_mini.specs.declared.mini_allocator.MiniAllocator.{MiniAllocator}
use Rattle.cfb_sectors.specs.Sectors.{sector}

module _ {F : Type 0} {g : Ghosts F} where
  -- The mini chain took in mini sectors that were in no use, behind its last one, and has these bytes behind its own. Mini FAT and
  -- mini stream may have become longer for them; all other mini sectors keep their numbers and bytes, and all other owners of
  -- sectors what they had, with its bytes.
  pub record MiniAppends (bytes : List ℕ) (old new : MiniAllocator F g) (before after : MiniLinks) (own : ℕ → List ℕ) : Type 0 where
    pub taken : List ℕ
    pub minis_are : minis_of after ≡ minis_of before ++ taken
    pub were_free : AllByRecursion (IsFreeIn (mini_fat_of old)) taken
    pub content : mini_content_of new after ≡ mini_content_of old before ++ bytes
    pub chain : IsMiniChain (mini_fat_of new) (mini_stream_len new) (minis_of after)
    pub numbers : SameExceptAt (minis_of after) (mini_fat_of old) (mini_fat_of new)
    pub minis : (n : ℕ) → n < length (mini_fat_of old) → IsNotIn (minis_of after) n → mini_sector (mini_stream_of new) n ≡ mini_sector (mini_stream_of old) n
    pub owners : (then : ℕ → List ℕ) → then 1 ≡ mini_fat_ids new → then 2 ≡ mini_stream_ids new → ((k : ℕ) → (k ≡ 1 → ⊥) → (k ≡ 2 → ⊥) → then k ≡ own k) → HasUniqueOwners new then
    pub others : (k : ℕ) → 2 < k → KeepsOwnedSectors (sector (version_of (allocator_of old))) (seen_of (allocator_of old)) (seen_of (allocator_of new)) (own k)
    pub entries : RootHasMiniStream old new
    pub file : LeavesFile old new
