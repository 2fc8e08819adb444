-- Siblings that are turned, in memory and in the file ([MS-CFB] 2.6.4).
use Rattle.std.specs.Prelude.{◌≡◌, ℕ, Bool, List, [], length, slice_get, Some}
use Rattle.cfb_chains.specs.Owned.{ReplacesChain}
use Rattle.cfb_fat.specs.Seeing.{seen_of}
use Rattle.cfb_fat.specs.Tables.{version_of}
use Rattle.cfb_medium.specs.declared.medium.ReadMedium.{Ghosts}
use Rattle.cfb_medium.specs.declared.version.Version.{Version}
use Rattle.cfb_sectors.specs.Sectors.{sector}
use Rattle.cfb_siblings.specs.Links.{holder}
use Rattle.cfb_siblings.specs.Places.{HasEntry, NameIsTaken}
use Rattle.cfb_siblings.specs.Reading.{ReadBy}
use Rattle.cfb_siblings.specs.Rotations.{HoldsStill}
use Rattle.cfb_siblings.specs.declared.links.Link.{Link}
use Rattle.cfb_siblings.specs.declared.rotation.Rotation.{Rotation}
use Rattle.cfb_tree.specs.Directory.{Entry}
use Rattle.cfb_tree.specs.Names.{CaseTable}
use Rattle.cfb_tree.specs.Paths.{Path}
use Rattle.cfb_tree.specs.Tree.{Tree}
use Rattle.cfb_directory.specs.Changes.{HasDirectory}
use Rattle.cfb_directory.specs.Children.{HasAt, HoldsChild, HoldsStorage}
use Rattle.cfb_directory.specs.Entries.{SizesFit}
use Rattle.cfb_directory.specs.Views.{allocator_of, directory_ids, entries_held, numbers_noted}
use Rattle.cfb_directory.specs.declared.directory.Directory.{Directory}

-- the entries whose links the rotation sets are there
pub record HasTurning (entries : List Entry) (it : Rotation) : Type 0 where
  pub inner : HasEntry entries (holder it.inner.link)
  pub lowered : HasEntry entries (holder it.lowered.link)
  pub raised : HasEntry entries (holder it.raised.link)

-- each entry is as it was, but for its links and its colour
pub record AreAs (old new : List Entry) : Type 0 where
  pub entries : (k : ℕ) (e : Entry) → slice_get old k ≡ Some e → HasAt new k e
  pub len : length new ≡ length old
  pub sizes : (version : Version) → SizesFit version old → SizesFit version new

-- each tree that the entries held with a storage of this number they hold still
abbrev pub HoldOn : CaseTable → List Entry → List Entry → ℕ → Type 0
HoldOn letters old new parent = (reads : ℕ → ℕ → List ℕ → Bool) (tree : Tree) (path : Path)
    → (h : HoldsStorage letters reads old tree path parent) → HoldsStill letters (ReadBy reads) old new tree h.holds.ids path parent

-- each tree that they held with a child to which the first link led they hold still, and the second link leads to it
abbrev pub HoldChild : List Entry → List Entry → Link → Link → ℕ → Type 0
HoldChild old new link now id = (letters : CaseTable) (reads : ℕ → ℕ → List ℕ → Bool) (tree : Tree) (path : Path) (parent : ℕ) (name : List ℕ)
    → (h : HoldsChild letters reads old tree path parent name link id)
    → HoldsStill letters (ReadBy reads) old new tree h.within.holds.ids path parent × NameIsTaken letters new parent name now id

module _ {F : Type 0} {g : Ghosts F} where
  -- entries were written in their places: no sector but the directory's own is touched, and these are those that they were
  pub record WritesDirEntries (old new : Directory F g) : Type 0 where
    pub ids : directory_ids new ≡ directory_ids old
    pub becomes : HasDirectory old → ReplacesChain (sector (version_of (allocator_of old))) [] (directory_ids old) [] (directory_ids old) (seen_of (allocator_of old)) (seen_of (allocator_of new))
    pub has : HasDirectory old → HasDirectory new

  -- links of entries were set, in memory and in the file
  pub record SetsLinks (old new : Directory F g) : Type 0 where
    pub written : WritesDirEntries old new
    pub alike : AreAs (entries_held old) (entries_held new)
    pub noted : numbers_noted new ≡ numbers_noted old
