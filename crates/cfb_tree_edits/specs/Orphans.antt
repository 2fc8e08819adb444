-- What a change leaves of a file's order: no more sectors are in use without an owner, and a strict reader takes what it took
-- ([MS-CFB] 2.2 to 2.6).
use Rattle.std.specs.Prelude.{ℕ, [], codes, slice_get, Bool, IfSome, List}
use Rattle.cfb_fat.specs.Tables.{fat_of, tables_of}
use Rattle.cfb_medium.specs.declared.medium.ReadMedium.{Ghosts}
use Rattle.cfb_directory.specs.Views.{entries_held}
use Rattle.cfb_siblings.specs.Reading.{ReadBy}
use Rattle.cfb_mini.specs.Files.{HasCounts}
use Rattle.cfb_mini.specs.Strays.{IsStrayIn}
use Rattle.cfb_mini.specs.Views.{allocator_of, directory_of, mini_fat_of}
use Rattle.cfb_mini.specs.declared.mini_allocator.MiniAllocator.{MiniAllocator}
use Rattle.cfb_ownership.specs.Owners.{Owners}
use Rattle.cfb_siblings.specs.Changes.{AreColored}
use Rattle.cfb_tree.specs.Directory.{Entry, HasName}
use Rattle.cfb_tree.specs.Names.{CaseTable}
use Rattle.cfb_tree.specs.Objects.{EntriesHoldTree}
use Rattle.cfb_tree.specs.Tree.{Tree}
use Rattle.cfb_tree_edits.specs.Live.{LiveFileMeansTree}

-- the root has its name, and of each tree that the entries hold root and objects are coloured so ([MS-CFB] 2.6.2, 2.6.4)
pub record HaveStrictFacts (entries : List Entry) : Type 0 where
  pub named : IfSome (slice_get entries 0) (λ root. HasName root (codes "Root Entry"))
  pub colors : (letters : CaseTable) (reads : ℕ → ℕ → List ℕ → Bool) (tree : Tree) → (h : EntriesHoldTree letters (ReadBy reads) entries tree) → AreColored entries h.ids

module _ {F : Type 0} {g : Ghosts F} where
  -- a sector, or a mini sector, of which these are the owners is in use, though it holds no table and is no owner's
  abbrev pub IsOrphanSector : MiniAllocator F g → Owners → ℕ → Type 0
  IsOrphanSector it who n = IsStrayIn (fat_of (allocator_of it)) (tables_of (allocator_of it)) who.sectors n

  abbrev pub IsStrayMini : MiniAllocator F g → Owners → ℕ → Type 0
  IsStrayMini it who n = IsStrayIn (mini_fat_of it) [] who.minis n

  -- the header counts the sectors of directory and mini FAT, and a strict reader takes the entries ([MS-CFB] 2.2, 2.6)
  pub record IsStrictLive (it : MiniAllocator F g) : Type 0 where
    pub counts : HasCounts it
    pub entries : HaveStrictFacts (entries_held (directory_of it))

  -- each sector and each mini sector that is so then was so before, and a strict reader takes directory and mini FAT if it did
  pub record StaysTidy (old new : MiniAllocator F g) (who now : Owners) : Type 0 where
    pub sectors : (n : ℕ) → IsOrphanSector new now n → IsOrphanSector old who n
    pub minis : (n : ℕ) → IsStrayMini new now n → IsStrayMini old who n
    pub strict : IsStrictLive old → IsStrictLive new

  -- THE FILE COMES TO MEAN THE TREE, and no sector and no mini sector is in use without an owner that wasn't so before
  pub record FileBecomesTree (letters : CaseTable) (old new : MiniAllocator F g) (who : Owners) (tree : Tree) : Type 0 where
    pub means : LiveFileMeansTree letters new tree
    pub strays : StaysTidy old new who means.who
