-- What a directory is while the layer below changes for others.
use Rattle.std.specs.Prelude.{◌≡◌, false, IsTrue}
use Rattle.cfb_medium.specs.declared.medium.ReadMedium.{Ghosts}
use Rattle.cfb_sectors.specs.Sectors.{sector}
use Rattle.cfb_chains.specs.Owned.{KeepsOwnedSectors}
use Rattle.cfb_fat.specs.Seeing.{seen_of}
use Rattle.cfb_fat.specs.Tables.{has_failed_here, is_honest, version_of}
use Rattle.cfb_fat.specs.declared.allocator.Allocator.{Allocator}
use Rattle.cfb_chain_io.specs.ChainEffects.{KeepsFileInvariants}
use Rattle.cfb_directory.specs.Views.{allocator_of, directory_ids, with_allocator, DirectoryMatchesBytes}
use Rattle.cfb_directory.specs.declared.directory.Directory.{Directory}

module _ {F : Type 0} {g : Ghosts F} where
  -- the file goes on, and where it has not failed the directory's sectors are still its chain, with their bytes: so it is for
  -- each owner whose sectors a change leaves out (`other_owners_stay` of cfb_chains)
  pub record LeavesDirectory (it : Directory F g) (later : Allocator F g) : Type 0 where
    pub goes_on : KeepsFileInvariants (allocator_of it) later
    pub stays : has_failed_here later ≡ false → IsTrue (is_honest (allocator_of it)) → KeepsOwnedSectors (sector (version_of (allocator_of it))) (seen_of (allocator_of it)) (seen_of later) (directory_ids it)

  -- memory is that of the bytes still, over whatever layer such a change leaves
  abbrev pub IsKeptOver : Directory F g → Type 0
  IsKeptOver it = (later : Allocator F g) → LeavesDirectory it later → DirectoryMatchesBytes it → DirectoryMatchesBytes (with_allocator it later)
