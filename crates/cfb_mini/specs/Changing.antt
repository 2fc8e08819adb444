-- Who owns which sectors beside the mini FAT and the mini stream, and what a change of mini chains leaves.
use Rattle.std.specs.List.{count_by, AllByRecursion}
use Rattle.std.specs.Prelude.{◌≡◌, ℕ, ◌+◌, ◌-◌, ◌*◌, ◌<◌, ◌≤◌, ◌⊎◌, List, [], ◌∷◌, ◌++◌, ◌/◌, drop, false, length, nat_eq, replicate, slice_get, slice_index, slice_index_or, slice_set, take, IsTrue, Some}
use Rattle.cfb_medium.specs.Bytes.{overwritten}
use Rattle.cfb_medium.specs.Versions.{sector_len, stream_len_mask}
use Rattle.cfb_medium.specs.declared.medium.ReadMedium.{Ghosts}
use Rattle.cfb_sectors.specs.Sectors.{end_of_chain, free, sector}
use Rattle.cfb_chains.specs.Changes as changes
use Rattle.cfb_chains.specs.Changes.{HaveEntry, IsNotIn, SameExceptAt}
use Rattle.cfb_chains.specs.Grown.{IsChainInTable}
use Rattle.cfb_chains.specs.Owned.{ReplacesChain, OwnDisjointChains, SectorLayer, KeepsOwnedSectors}
use Rattle.cfb_chains.specs.Positions.{sectors_for}
use Rattle.cfb_fat.specs.Growing.{LacksSectorNumbers}
use Rattle.cfb_fat.specs.Seeing.{seen_of}
use Rattle.cfb_fat.specs.Tables.{bytes_of, fat_of, has_failed_here, is_honest, tables_of, version_of, OnlyReadsAllocator}
use Rattle.cfb_fat.specs.declared.allocator.Allocator.{Allocator}
use Rattle.cfb_chain_io.specs.ChainEffects.{place_of, KeepsFileInvariants}
use Rattle.cfb_tree.specs.Directory.{Entry}
use Rattle.cfb_directory.specs.Views as directory
use Rattle.cfb_mini.specs.Files.{HasCounts, HasHeader, LeavesFile}
use Rattle.cfb_mini.specs.FatGrowth.{LacksMore, TellsMiniFat}
use Rattle.cfb_mini.specs.LinkViews.{minis_of}
use Rattle.cfb_mini.specs.Minis.{all_words, mini_place, mini_sector}
use Rattle.cfb_mini.specs.NextSector.{HasNoFreeMiniBelow, IsFreeMiniSector}
use Rattle.cfb_mini.specs.Strays.{LeavesNoStrays}
use Rattle.cfb_mini.specs.Views.{allocator_of, directory_of, mini_content_of, mini_fat_ids, mini_fat_of, mini_stream_ids, mini_stream_len, mini_stream_of, MiniMatchesBytes}
use Rattle.cfb_mini.specs.declared.links.MiniLinks.{MiniLinks}
use Rattle.cfb_mini.specs.declared.mini_allocator.MiniAllocator.{MiniAllocator}

module _ {F : Type 0} {g : Ghosts F} where
  -- the same over this layer below
  abbrev pub with_allocator : MiniAllocator F g → Allocator F g → MiniAllocator F g
  with_allocator it allocator = record it { directory = directory.with_allocator (directory_of it) allocator }

  -- what those see who own mini sectors: the mini stream's bytes and the mini FAT; no mini sector holds a table ([MS-CFB] 2.4)
  unfoldable pub mini_seen : MiniAllocator F g → SectorLayer
  mini_seen it = record { bytes = mini_stream_of it; table = mini_fat_of it; tables = [] }

  -- memory is that of an honest file's bytes, and each sector has one owner at most: owner 0 is the directory, 1 the mini FAT and
  -- 2 the mini stream
  pub record HasUniqueOwners (it : MiniAllocator F g) (own : ℕ → List ℕ) : Type 0 where
    pub honest : IsTrue (is_honest (allocator_of it))
    pub memory : MiniMatchesBytes it
    pub owned : OwnDisjointChains (fat_of (allocator_of it)) (tables_of (allocator_of it)) own
    pub directory : own 0 ≡ directory.directory_ids (directory_of it)
    pub mini_fat : own 1 ≡ mini_fat_ids it
    pub mini_stream : own 2 ≡ mini_stream_ids it

  -- the file goes on, and where it has not failed the sectors of directory, mini FAT and mini stream are still their chains, with
  -- their bytes: so it is where a change leaves them out
  pub record LeavesMini (it : MiniAllocator F g) (later : Allocator F g) : Type 0 where
    pub goes_on : KeepsFileInvariants (allocator_of it) later
    pub directory : has_failed_here later ≡ false → IsTrue (is_honest (allocator_of it)) → KeepsOwnedSectors (sector (version_of (allocator_of it))) (seen_of (allocator_of it)) (seen_of later) (directory.directory_ids (directory_of it))
    pub mini_fat : has_failed_here later ≡ false → IsTrue (is_honest (allocator_of it)) → KeepsOwnedSectors (sector (version_of (allocator_of it))) (seen_of (allocator_of it)) (seen_of later) (mini_fat_ids it)
    pub mini_stream : has_failed_here later ≡ false → IsTrue (is_honest (allocator_of it)) → KeepsOwnedSectors (sector (version_of (allocator_of it))) (seen_of (allocator_of it)) (seen_of later) (mini_stream_ids it)

  -- memory is that of the bytes still, over whatever layer such a change leaves
  abbrev pub IsKeptOver : MiniAllocator F g → Type 0
  IsKeptOver it = (later : Allocator F g) → LeavesMini it later → MiniMatchesBytes it → MiniMatchesBytes (with_allocator it later)

  -- The mini chain of these mini sectors became another one, of what it had and of what was free; all other mini sectors keep
  -- their numbers and bytes. Each owner but directory, mini FAT and mini stream has the sectors that it had, with their bytes.
  pub record MiniChanges (minis more later : List ℕ) (old new : MiniAllocator F g) (own then : ℕ → List ℕ) : Type 0 where
    pub owners : HasUniqueOwners new then
    pub same : (k : ℕ) → 2 < k → then k ≡ own k
    pub others : (k : ℕ) → 2 < k → KeepsOwnedSectors (sector (version_of (allocator_of old))) (seen_of (allocator_of old)) (seen_of (allocator_of new)) (own k)
    pub becomes : ReplacesChain mini_sector all_words minis more later (mini_seen old) (mini_seen new)

  -- these bytes lie over the mini chain's from a place on, and in the file; its mini sectors are those that they were
  pub record MiniOverwrites (at : ℕ) (bytes : List ℕ) (old new : MiniAllocator F g) (links : MiniLinks) (own : ℕ → List ℕ) : Type 0 where
    pub changes : MiniChanges (minis_of links) [] (minis_of links) old new own own
    pub content : mini_content_of new links ≡ overwritten (mini_content_of old links) at bytes
    pub there : (k : ℕ) → at ≤ k → k < at + length bytes
        → place_of (version_of (allocator_of old)) (mini_stream_ids old) (mini_place (minis_of links) k) < length (bytes_of (allocator_of new))
    pub entries : directory.entries_held (directory_of new) ≡ directory.entries_held (directory_of old)
    pub file : LeavesFile old new
    pub strays : LeavesNoStrays (allocator_of old) (allocator_of new) own own

  -- these mini sectors are free; no sector but the mini FAT's own is touched
  pub record FreesMiniSectors (minis : List ℕ) (old new : MiniAllocator F g) (own : ℕ → List ℕ) : Type 0 where
    pub changes : MiniChanges minis [] [] old new own own
    pub freed : HaveEntry free (mini_fat_of new) minis
    pub becomes : ReplacesChain (sector (version_of (allocator_of old))) [] (own 1) [] (own 1) (seen_of (allocator_of old)) (seen_of (allocator_of new))
    pub entries : directory.entries_held (directory_of new) ≡ directory.entries_held (directory_of old)
    pub counts : HasHeader old → HasCounts old → HasCounts new

  -- The sectors of this owner, which is none of these three, are free. All else that is owned stays, and the mini FAT.
  pub record FreesChain (key : ℕ) (old new : MiniAllocator F g) (own : ℕ → List ℕ) : Type 0 where
    pub becomes : ReplacesChain (sector (version_of (allocator_of old))) [] (own key) [] [] (seen_of (allocator_of old)) (seen_of (allocator_of new))
    pub freed : HaveEntry free (fat_of (allocator_of new)) (own key)
    pub owners : (then : ℕ → List ℕ) → then key ≡ [] → ((k : ℕ) → (k ≡ key → ⊥) → then k ≡ own k) → HasUniqueOwners new then
    pub mini_fat : mini_fat_of new ≡ mini_fat_of old
    pub entries : directory.entries_held (directory_of new) ≡ directory.entries_held (directory_of old)
    pub counts : HasHeader old → HasCounts old → HasCounts new

  -- The mini chain keeps so many mini sectors, those at its front, and the others are free; no sector but the mini FAT's own is
  -- touched. The mini stream's bytes are those that they were.
  pub record Shortens (count : ℕ) (old new : MiniAllocator F g) (minis later : List ℕ) (own : ℕ → List ℕ) : Type 0 where
    pub minis_are : later ≡ take count minis
    pub changes : MiniChanges minis [] later old new own own
    pub freed : HaveEntry free (mini_fat_of new) (drop count minis)
    pub becomes : ReplacesChain (sector (version_of (allocator_of old))) [] (own 1) [] (own 1) (seen_of (allocator_of old)) (seen_of (allocator_of new))
    pub bytes : mini_stream_of new ≡ mini_stream_of old
    pub entries : directory.entries_held (directory_of new) ≡ directory.entries_held (directory_of old)
    pub counts : HasHeader old → HasCounts old → HasCounts new

  -- The mini chain took in the first mini sector that was free, behind its last one; the mini stream has it. The mini stream's bytes are those
  -- that they were.
  pub record AppendsFreeMiniSector (old new : MiniAllocator F g) (minis later : List ℕ) (own : ℕ → List ℕ) : Type 0 where
    pub taken : ℕ
    pub was_free : IsFreeMiniSector (mini_fat_of old) (mini_stream_len old) taken
    pub first : HasNoFreeMiniBelow (mini_fat_of old) taken
    pub minis_are : later ≡ minis ++ taken ∷ []
    pub changes : MiniChanges minis (taken ∷ []) later old new own own
    pub bytes : mini_stream_of new ≡ mini_stream_of old
    pub entries : directory.entries_held (directory_of new) ≡ directory.entries_held (directory_of old)
    pub file : LeavesFile old new
    pub strays : LeavesNoStrays (allocator_of old) (allocator_of new) own own

  -- The mini FAT took in a sector that was in no use, of "free" numbers, and the header tells of it; all else that is owned stays.
  pub record GrowsMiniFat (old new : MiniAllocator F g) (own : ℕ → List ℕ) : Type 0 where
    pub more : List ℕ
    pub sectors : mini_fat_ids new ≡ mini_fat_ids old ++ more
    pub owners : (then : ℕ → List ℕ) → then 1 ≡ mini_fat_ids new → ((k : ℕ) → (k ≡ 1 → ⊥) → then k ≡ own k) → HasUniqueOwners new then
    pub others : (k : ℕ) → (k ≡ 1 → ⊥) → KeepsOwnedSectors (sector (version_of (allocator_of old))) (seen_of (allocator_of old)) (seen_of (allocator_of new)) (own k)
    pub numbers : mini_fat_of new ≡ mini_fat_of old ++ replicate (sector_len (version_of (allocator_of old)) / 4) free
    pub stream : mini_stream_of new ≡ mini_stream_of old
    pub told : TellsMiniFat (bytes_of (allocator_of new)) (mini_fat_ids new)
    pub entries : directory.entries_held (directory_of new) ≡ directory.entries_held (directory_of old)
    pub file : LeavesFile old new
    pub strays : (then : ℕ → List ℕ) → then 1 ≡ mini_fat_ids new → ((k : ℕ) → (k ≡ 1 → ⊥) → then k ≡ own k) → LeavesNoStrays (allocator_of old) (allocator_of new) own then

  -- The mini stream took in a sector that was in no use, of zeros, and the root's entry tells where it begins and how many bytes it
  -- has. All other entries stay, and all else that is owned.
  pub record GrowsMiniStream (old new : MiniAllocator F g) (own : ℕ → List ℕ) : Type 0 where
    pub more : List ℕ
    pub sectors : mini_stream_ids new ≡ mini_stream_ids old ++ more
    pub owners : (then : ℕ → List ℕ) → then 2 ≡ mini_stream_ids new → ((k : ℕ) → (k ≡ 2 → ⊥) → then k ≡ own k) → HasUniqueOwners new then
    pub others : (k : ℕ) → 2 < k → KeepsOwnedSectors (sector (version_of (allocator_of old))) (seen_of (allocator_of old)) (seen_of (allocator_of new)) (own k)
    pub stream : mini_stream_of new ≡ mini_stream_of old ++ replicate (sector_len (version_of (allocator_of old))) 0
    pub mini_fat : mini_fat_of new ≡ mini_fat_of old
    pub root : (e : Entry) → slice_get (directory.entries_held (directory_of old)) 0 ≡ Some e
        → directory.entries_held (directory_of new) ≡ slice_set (directory.entries_held (directory_of old)) 0 (record e { start = slice_index_or (mini_stream_ids new) 0 end_of_chain; size = mini_stream_len new })
    pub file : LeavesFile old new
    pub strays : (then : ℕ → List ℕ) → then 2 ≡ mini_stream_ids new → ((k : ℕ) → (k ≡ 2 → ⊥) → then k ≡ own k) → LeavesNoStrays (allocator_of old) (allocator_of new) own then

  -- the root's size covers each sector of the mini stream, and so each mini sector in use ([MS-CFB] 2.6.3)
  abbrev pub IsCovered : MiniAllocator F g → Type 0
  IsCovered it = (root : Entry) → slice_get (directory.entries_held (directory_of it)) 0 ≡ Some root → mini_stream_len it ≤ root.size

  -- The root's entry tells where the mini stream begins and how many bytes it has. All other entries stay, and all that is owned.
  pub record CoversStream (old new : MiniAllocator F g) (own : ℕ → List ℕ) : Type 0 where
    pub owners : HasUniqueOwners new own
    pub others : (k : ℕ) → 2 < k → KeepsOwnedSectors (sector (version_of (allocator_of old))) (seen_of (allocator_of old)) (seen_of (allocator_of new)) (own k)
    pub stream : mini_stream_of new ≡ mini_stream_of old
    pub mini_fat : mini_fat_of new ≡ mini_fat_of old
    pub root : (e : Entry) → slice_get (directory.entries_held (directory_of old)) 0 ≡ Some e
        → directory.entries_held (directory_of new) ≡ slice_set (directory.entries_held (directory_of old)) 0 (record e { start = slice_index_or (mini_stream_ids new) 0 end_of_chain; size = mini_stream_len new })
    pub file : LeavesFile old new
    pub strays : LeavesNoStrays (allocator_of old) (allocator_of new) own own

  -- The directory took in sectors that were in no use, if any; but for these, its own, and these numbers of the header nothing was
  -- touched. All else that is owned stays, and the mini FAT.
  pub record ChangesDirectory (words : List ℕ) (old new : MiniAllocator F g) (own : ℕ → List ℕ) : Type 0 where
    pub more : List ℕ
    pub ids : directory.directory_ids (directory_of new) ≡ directory.directory_ids (directory_of old) ++ more
    pub becomes : ReplacesChain (sector (version_of (allocator_of old))) words (own 0) more (directory.directory_ids (directory_of new)) (seen_of (allocator_of old)) (seen_of (allocator_of new))
    pub owners : (then : ℕ → List ℕ) → then 0 ≡ directory.directory_ids (directory_of new) → ((k : ℕ) → (k ≡ 0 → ⊥) → then k ≡ own k) → HasUniqueOwners new then
    pub mini_fat : mini_fat_of new ≡ mini_fat_of old
    pub counts : HasHeader old → HasCounts old → HasCounts new

  -- nothing but reads and flushes was done, and each owner has what it had
  pub record KeepsOwnership (old new : MiniAllocator F g) : Type 0 where
    pub allocator : OnlyReadsAllocator (allocator_of old) (allocator_of new)
    pub entries : directory.entries_held (directory_of new) ≡ directory.entries_held (directory_of old)
    pub mini_fat : mini_fat_of new ≡ mini_fat_of old
    pub owners : (own : ℕ → List ℕ) → HasUniqueOwners old own → HasUniqueOwners new own

  -- the root's entry tells where the mini stream begins and how many bytes it has, and all other entries stay; or all do, and the
  -- mini stream has the sectors that it had
  abbrev pub RootHasMiniStream : MiniAllocator F g → MiniAllocator F g → Type 0
  RootHasMiniStream old new = ((directory.entries_held (directory_of new) ≡ directory.entries_held (directory_of old)) × (mini_stream_ids new ≡ mini_stream_ids old))
      ⊎ ((e : Entry) → slice_get (directory.entries_held (directory_of old)) 0 ≡ Some e
      → directory.entries_held (directory_of new) ≡ slice_set (directory.entries_held (directory_of old)) 0 (record e { start = slice_index_or (mini_stream_ids new) 0 end_of_chain; size = mini_stream_len new }))

  -- The mini chain took in mini sectors that were in no use, behind its last one. For them mini FAT and mini stream may have taken
  -- in sectors that were in no use, of "free" numbers and of zeros. All other mini sectors keep their numbers, each its bytes, and
  -- all other owners of sectors what they had, with its bytes.
  pub record AppendsMiniSectors (old new : MiniAllocator F g) (minis later : List ℕ) (own : ℕ → List ℕ) : Type 0 where
    pub taken : List ℕ
    pub minis_are : later ≡ minis ++ taken
    pub were_free : AllByRecursion (changes.IsFreeIn (mini_fat_of old)) taken
    pub inside : AllByRecursion (λ n. 64 * n + 64 ≤ mini_stream_len new) taken
    pub linked : IsChainInTable (mini_fat_of new) later
    pub numbers : SameExceptAt later (mini_fat_of old) (mini_fat_of new)
    pub unused : (n : ℕ) → length (mini_fat_of old) ≤ n → n < length (mini_fat_of new) → IsNotIn later n → slice_index (mini_fat_of new) n ≡ free
    pub zeros : ℕ
    pub stream : mini_stream_of new ≡ mini_stream_of old ++ replicate zeros 0
    pub owners : (then : ℕ → List ℕ) → then 1 ≡ mini_fat_ids new → then 2 ≡ mini_stream_ids new → ((k : ℕ) → (k ≡ 1 → ⊥) → (k ≡ 2 → ⊥) → then k ≡ own k) → HasUniqueOwners new then
    pub others : (k : ℕ) → 2 < k → KeepsOwnedSectors (sector (version_of (allocator_of old))) (seen_of (allocator_of old)) (seen_of (allocator_of new)) (own k)
    pub entries : RootHasMiniStream old new
    pub file : LeavesFile old new
    pub strays : (then : ℕ → List ℕ) → then 1 ≡ mini_fat_ids new → then 2 ≡ mini_stream_ids new → ((k : ℕ) → (k ≡ 1 → ⊥) → (k ≡ 2 → ⊥) → then k ≡ own k) → LeavesNoStrays (allocator_of old) (allocator_of new) own then

  -- so many mini sectors of the mini stream are free
  abbrev pub free_minis : MiniAllocator F g → ℕ
  free_minis it = count_by (λ entry. nat_eq entry free) (take (mini_stream_len it / 64) (mini_fat_of it))

  -- so many sectors hold the mini stream with so many mini sectors more
  abbrev pub stream_sectors : ℕ → MiniAllocator F g → ℕ
  stream_sectors more it = sectors_for (version_of (allocator_of it)) (mini_stream_len it + 64 * more)

  -- so many hold a mini FAT with a number for each of its mini sectors then
  abbrev pub table_sectors : ℕ → MiniAllocator F g → ℕ
  table_sectors more it = sectors_for (version_of (allocator_of it)) (4 * (mini_stream_len it / 64 + more))

  -- numbers are missing for the sectors that they take in for so many mini sectors more, or there is no room for the mini stream's size
  unfoldable pub LacksTables : ℕ → MiniAllocator F g → Type 0
  LacksTables more it = LacksSectorNumbers (allocator_of it) ((stream_sectors more it - length (mini_stream_ids it)) + (table_sectors more it - length (mini_fat_ids it)))
      ⊎ (stream_len_mask (version_of (allocator_of it)) < stream_sectors more it * sector_len (version_of (allocator_of it)))

  -- nothing is left for a mini sector more: no number of a sector for the mini FAT or for the mini stream, or no room for its size
  abbrev pub LacksOne : MiniAllocator F g → Type 0
  LacksOne it = LacksMore (allocator_of it) (length (mini_fat_ids it)) ⊎ LacksMore (allocator_of it) (length (mini_stream_ids it))
      ⊎ (stream_len_mask (version_of (allocator_of it)) < mini_stream_len it + sector_len (version_of (allocator_of it)))

  -- so many mini sectors more can't be had: there is nothing for one, or not so many are free, and for the others something is missing
  abbrev pub LacksMiniSectors : ℕ → MiniAllocator F g → Type 0
  LacksMiniSectors count it = LacksOne it ⊎ ((free_minis it < count) × LacksTables (count - free_minis it) it)
