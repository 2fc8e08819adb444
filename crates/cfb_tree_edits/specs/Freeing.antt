-- What a live file is while one of its streams is in change, and a stream that gave up its sectors.
use Rattle.std.specs.Prelude.{◌≡◌, ◌⊎◌, ℕ, ◌<◌, ◌≤◌, false, length, slice_get, slice_index, IsTrue, List, Option, Some}
use Rattle.cfb_medium.specs.declared.medium.ReadMedium.{Ghosts}
use Rattle.cfb_sectors.specs.Sectors.{free, joined}
use Rattle.cfb_chains.specs.Changes.{HaveEntry, IsNotIn}
use Rattle.cfb_fat.specs.Tables.{fat_of, has_failed_here, orderly_of, version_of}
use Rattle.cfb_siblings.specs.Places.{LeadsTo}
use Rattle.cfb_tree.specs.Directory.{kind_stream, Entry}
use Rattle.cfb_tree.specs.Names.{CaseTable}
use Rattle.cfb_tree.specs.Paths.{Path}
use Rattle.cfb_directory.specs.Entries.{SizesFit}
use Rattle.cfb_directory.specs.Views.{directory_ids, entries_held}
use Rattle.cfb_mini.specs.Changing.{HasUniqueOwners}
use Rattle.cfb_mini.specs.Views.{allocator_of, directory_of, mini_fat_of}
use Rattle.cfb_mini.specs.declared.mini_allocator.MiniAllocator.{MiniAllocator}
use Rattle.cfb_ownership.specs.Held.{OwnerHasStream}
use Rattle.cfb_ownership.specs.LiveInvariant.{LiveFileInvariant}
use Rattle.cfb_ownership.specs.LiveFile.{LiveFile}
use Rattle.cfb_ownership.specs.Owners.{mini_stream_owner, stream_owner, Owners, OwnsNothing}
use Rattle.cfb_tree_edits.specs.Live.{live_of}
use Rattle.cfb_tree_edits.specs.Orphans.{StaysTidy}

-- the same version, at least as many bytes, and all streams and the mini stream, but for this owner, have the sectors and the bytes
-- that they had
pub record CarriesBut (key : ℕ) (s t : LiveFile) (who now : Owners) : Type 0 where
  pub version : t.version ≡ s.version
  pub longer : length s.bytes ≤ length t.bytes
  pub sectors : (k : ℕ) → mini_stream_owner ≤ k → (k ≡ key → ⊥) → now.sectors k ≡ who.sectors k
  pub minis : (k : ℕ) → (k ≡ key → ⊥) → now.minis k ≡ who.minis k
  pub joined : (k : ℕ) → mini_stream_owner ≤ k → (k ≡ key → ⊥) → joined s.version t.bytes (who.sectors k) ≡ joined s.version s.bytes (who.sectors k)

module _ {F : Type 0} {g : Ghosts F} where
  -- the file stands, whatever tree its entries hold: nothing has failed, its tables can be changed, entries can be written as they
  -- are, and memory is that of the bytes of an honest medium, in which these own their sectors
  pub record HasFileInvariant (it : MiniAllocator F g) (who : Owners) : Type 0 where
    pub live : has_failed_here (allocator_of it) ≡ false
    pub orderly : IsTrue (orderly_of (allocator_of it))
    pub owners : HasUniqueOwners it who.sectors
    pub sizes : SizesFit (version_of (allocator_of it)) (entries_held (directory_of it))
    pub root : Entry
    pub kept : LiveFileInvariant (live_of it) who root

  -- these sectors and these mini sectors are free ([MS-CFB] 2.3, 2.4)
  pub record AreFree (sectors minis : List ℕ) (it : MiniAllocator F g) : Type 0 where
    pub in_fat : HaveEntry free (fat_of (allocator_of it)) sectors
    pub in_mini_fat : HaveEntry free (mini_fat_of it) minis

  -- none of these sectors is in use, but where the directory has it
  abbrev pub AreGivenUp : List ℕ → MiniAllocator F g → Type 0
  AreGivenUp sectors it = (k : ℕ) → k < length sectors
      → (slice_index (fat_of (allocator_of it)) (slice_index sectors k) ≡ free) ⊎ (IsNotIn (directory_ids (directory_of it)) (slice_index sectors k) → ⊥)

  -- nor is one of these mini sectors
  pub record GivesUp (sectors minis : List ℕ) (it : MiniAllocator F g) : Type 0 where
    pub in_fat : AreGivenUp sectors it
    pub in_mini_fat : HaveEntry free (mini_fat_of it) minis

  -- the path led to a stream, and what its entry owned was given up
  pub record FreesAt (letters : CaseTable) (path : Option Path) (old new : MiniAllocator F g) (who : Owners) : Type 0 where
    pub names : Path
    pub at_path : path ≡ Some names
    pub id : ℕ
    pub entry : Entry
    pub leads : LeadsTo letters (entries_held (directory_of old)) 0 names id
    pub found : slice_get (entries_held (directory_of old)) id ≡ Some entry
    pub of_kind : entry.kind ≡ kind_stream
    pub content : List ℕ
    pub has : OwnerHasStream (live_of old) who id entry content
    pub gives : GivesUp (who.sectors (stream_owner id)) (who.minis (stream_owner id)) new

  -- The stream of entry `id` owns nothing any more, and what it owned is free; the file stands, with no more strays. All others own
  -- what they owned, with its bytes, and the entries are those that they were.
  pub record FreesStream (id : ℕ) (old new : MiniAllocator F g) (who : Owners) : Type 0 where
    pub now : Owners
    pub stands : HasFileInvariant new now
    pub carries : CarriesBut (stream_owner id) (live_of old) (live_of new) who now
    pub nothing : OwnsNothing now (stream_owner id)
    pub freed : AreFree (who.sectors (stream_owner id)) (who.minis (stream_owner id)) new
    pub strays : StaysTidy old new who now
    pub entries : entries_held (directory_of new) ≡ entries_held (directory_of old)
