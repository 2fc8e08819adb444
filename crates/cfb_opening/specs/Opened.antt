-- What opening a compound file tells ([MS-CFB] 2).
use Rattle.std.specs.Prelude.{◌≡◌, List, ℕ, length, take, false, slice_get, IsTrue, Some}
use Rattle.cfb_medium.specs.Calls.{Reaches}
use Rattle.cfb_medium.specs.declared.medium.ReadMedium.{Ghosts}
use Rattle.cfb_sectors.specs.Sectors.{sectors_in}
use Rattle.cfb_sectors.specs.declared.validation.Validation.{Validation}
use Rattle.cfb_sectors.specs.declared.validation.Validation.TheVariants.{Permissive, Strict}
use Rattle.cfb_fat.specs.Tables.{bytes_of, difat_sectors_of, fat_of, fat_sectors_of, has_failed_here, is_honest, medium_of, version_of}
use Rattle.cfb_tree.specs.Names.{CaseTable}
use Rattle.cfb_tree.specs.Tree.{Tree}
use Rattle.cfb_tree.specs.Entries.{HasSize}
use Rattle.cfb_directory.specs.Entries.{SizesFit}
use Rattle.cfb_directory.specs.Views.{directory_ids, entries_held}
use Rattle.cfb_mini.specs.Views.{allocator_of, directory_of, mini_fat_ids, mini_fat_of, mini_stream_ids, MiniMatchesBytes}
use Rattle.cfb_mini.specs.declared.mini_allocator.MiniAllocator.{MiniAllocator}
use Rattle.cfb_spec.specs.Means.{directory, fat, mini_fat, IsOpenable, IsStrict, IsStrictlyOpenable, Layout, BytesMeanTreeBy}

-- a reader of this kind can open a file of these bytes ([MS-CFB] 2)
abbrev pub CanOpen : Validation → CaseTable → List ℕ → Type 0
CanOpen Permissive letters bytes = IsOpenable letters bytes
CanOpen Strict letters bytes = IsStrictlyOpenable letters bytes

module _ {F : Type 0} {g : Ghosts F} where
  -- a file was opened over this medium: the medium was read alone, nothing failed, memory is that of the bytes, and sizes fit
  pub record OpensAt (medium : F) (it : MiniAllocator F g) : Type 0 where
    pub honest : is_honest (allocator_of it) ≡ g.honest medium
    pub continues : Reaches g.continues medium (medium_of (allocator_of it))
    pub bytes : IsTrue (g.honest medium) → bytes_of (allocator_of it) ≡ g.bytes medium
    pub live : has_failed_here (allocator_of it) ≡ false
    pub memory : MiniMatchesBytes it
    pub sizes : SizesFit (version_of (allocator_of it)) (entries_held (directory_of it))

  -- The layout is that which memory shows, of a file of these bytes: where its parts lie, and what FAT, mini FAT and directory
  -- have. Memory has the FAT's numbers of the file's sectors alone ([MS-CFB] 2.3, 2.4, 2.6).
  pub record MemoryShows (it : MiniAllocator F g) (bytes : List ℕ) (l : Layout) : Type 0 where
    pub version : version_of (allocator_of it) ≡ l.version
    pub difat_sectors : difat_sectors_of (allocator_of it) ≡ l.difat_sectors
    pub fat_sectors : fat_sectors_of (allocator_of it) ≡ l.fat_sectors
    pub directory_sectors : directory_ids (directory_of it) ≡ l.directory_sectors
    pub mini_fat_sectors : mini_fat_ids it ≡ l.mini_fat_sectors
    pub mini_stream_sectors : mini_stream_ids it ≡ l.mini_stream_sectors
    pub root : slice_get (entries_held (directory_of it)) 0 ≡ Some l.root
    pub fat : fat_of (allocator_of it) ≡ take (sectors_in l.version (length bytes)) (fat bytes l)
    pub mini_fat : mini_fat_of it ≡ mini_fat bytes l
    pub entries : entries_held (directory_of it) ≡ directory bytes l

  -- memory shows the layout in which the bytes mean the tree, where of a stream's bytes it matters alone how many they are; and a
  -- strict reader takes them ([MS-CFB] 2)
  pub record IsOpened (validation : Validation) (letters : CaseTable) (bytes : List ℕ) (it : MiniAllocator F g) (l : Layout) (tree : Tree) : Type 0 where
    pub shows : MemoryShows it bytes l
    pub means : BytesMeanTreeBy l HasSize letters bytes tree
    pub strict : validation ≡ Strict → IsStrict bytes l
