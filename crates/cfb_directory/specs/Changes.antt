-- What calls that change entries do: to the entries, to their sectors, and to what others own ([MS-CFB] 2.6).
use Rattle.std.specs.Prelude.{◌≡◌, ℕ, [], slice_set}
use Rattle.cfb_medium.specs.Times.{units_of}
use Rattle.cfb_medium.specs.declared.medium.ReadMedium.{Ghosts}
use Rattle.cfb_sectors.specs.Sectors.{sector}
use Rattle.cfb_chains.specs.Changes.{AreDisjoint}
use Rattle.cfb_chains.specs.Owned.{ReplacesChain}
use Rattle.cfb_fat.specs.Seeing.{seen_of}
use Rattle.cfb_fat.specs.Tables.{tables_of, version_of}
use Rattle.cfb_chain_io.specs.ChainEffects.{content_of, HasDataChain}
use Rattle.cfb_tree.specs.Directory.{Entry, entries_of}
use Rattle.cfb_directory.specs.Views.{allocator_of, directory_ids, entries_held, links_of}
use Rattle.cfb_directory.specs.declared.changes.EntryChange.{EntryChange}
use Rattle.cfb_directory.specs.declared.changes.EntryChange.TheVariants.{ClassId, Created, Modified, Place, StateBits}
use Rattle.cfb_directory.specs.declared.directory.Directory.{Directory}

-- the entry with what the change names; its name, kind, colour and links stay ([MS-CFB] 2.6.1)
abbrev pub changed_entry : EntryChange → Entry → Entry
changed_entry (StateBits bits) e = record e { facts = record e.facts { state_bits = bits } }
changed_entry (ClassId clsid) e = record e { facts = record e.facts { clsid = clsid } }
changed_entry (Created moment) e = record e { facts = record e.facts { created = units_of moment } }
changed_entry (Modified moment) e = record e { facts = record e.facts { modified = units_of moment } }
changed_entry (Place start size) e = record e { start = start; size = size }

module _ {F : Type 0} {g : Ghosts F} where
  -- none of the directory's sectors holds a table
  abbrev pub LiesBeside : Directory F g → Type 0
  LiesBeside it = AreDisjoint (tables_of (allocator_of it)) (directory_ids it)

  -- an honest file has the directory's chain beside its tables, and the entries are those that its sectors hold ([MS-CFB] 2.6)
  pub record HasDirectory (it : Directory F g) : Type 0 where
    pub chain : HasDataChain (allocator_of it) (links_of it)
    pub entries : entries_held it ≡ entries_of (version_of (allocator_of it)) (content_of (allocator_of it) (links_of it))

  -- sectors and entries are those that they were
  pub record KeepsEntries (old new : Directory F g) : Type 0 where
    pub ids : directory_ids new ≡ directory_ids old
    pub entries : entries_held new ≡ entries_held old

  -- this entry stands in the place of the one of this number, in memory and in the file; no sector but the directory's own is
  -- touched, and these are those that they were
  pub record SetsEntry (id : ℕ) (e : Entry) (old new : Directory F g) : Type 0 where
    pub ids : directory_ids new ≡ directory_ids old
    pub entries : entries_held new ≡ slice_set (entries_held old) id e
    pub becomes : HasDirectory old → ReplacesChain (sector (version_of (allocator_of old))) [] (directory_ids old) [] (directory_ids old) (seen_of (allocator_of old)) (seen_of (allocator_of new))
    pub has : HasDirectory old → HasDirectory new
