-- The facts of an object that calls set, and the calls' rules ([MS-CFB] 2.6.1).
use Rattle.std.specs.Prelude.{◌≡◌, ◌⊎◌, ⊤, ℕ}
use Rattle.cfb_spec.specs.TreeRules.{set_created_time, set_modified_time, set_state_bits, set_storage_clsid, Call}
use Rattle.cfb_medium.specs.Times.{units_of}
use Rattle.cfb_medium.specs.declared.error.Error.{Error}
use Rattle.cfb_medium.specs.declared.error.Error.TheVariants.{InvalidData, InvalidInput, NotFound}
use Rattle.cfb_tree.specs.Paths.{Path}
use Rattle.cfb_directory.specs.declared.changes.EntryChange.{EntryChange}
use Rattle.cfb_directory.specs.declared.changes.EntryChange.TheVariants as entry
use Rattle.cfb_tree.specs.Directory.{kind_stream, Entry}
use Rattle.cfb_tree_edits.specs.declared.facts.Fact.{Fact}
use Rattle.cfb_tree_edits.specs.declared.facts.Fact.TheVariants.{ClassId, Created, Modified, StateBits}

-- the call that sets the fact of the object at a path
abbrev pub setting : Fact → Path → Call
setting (StateBits bits) path = set_state_bits path bits
setting (ClassId clsid) path = set_storage_clsid path clsid
setting (Created moment) path = set_created_time path (units_of moment)
setting (Modified moment) path = set_modified_time path (units_of moment)

-- refusals by rule: no such object, or a fact that a stream hasn't; or the file hasn't its directory
abbrev pub IsSetMetadataError : Error → Type 0
IsSetMetadataError e = (e ≡ NotFound) ⊎ (e ≡ InvalidInput) ⊎ (e ≡ InvalidData)

-- the change of an object's entry that sets the fact
abbrev pub change_for : Fact → EntryChange
change_for (StateBits bits) = entry.StateBits bits
change_for (ClassId clsid) = entry.ClassId clsid
change_for (Created moment) = entry.Created moment
change_for (Modified moment) = entry.Modified moment

-- times are those of storages below the root, whose entry is 0; a class identifier is a storage's
abbrev pub MayHave : Fact → ℕ → Entry → Type 0
MayHave (StateBits bits) id e = ⊤
MayHave (ClassId clsid) id e = e.kind ≡ kind_stream → ⊥
MayHave (Created moment) id e = (e.kind ≡ kind_stream → ⊥) × (id ≡ 0 → ⊥)
MayHave (Modified moment) id e = (e.kind ≡ kind_stream → ⊥) × (id ≡ 0 → ⊥)

-- the entry has no such time
abbrev pub LacksTime : Fact → ℕ → Entry → Type 0
LacksTime (StateBits bits) id e = ⊥
LacksTime (ClassId clsid) id e = ⊥
LacksTime (Created moment) id e = (e.kind ≡ kind_stream) ⊎ (id ≡ 0)
LacksTime (Modified moment) id e = (e.kind ≡ kind_stream) ⊎ (id ≡ 0)

-- a stream gets no class identifier
abbrev pub LacksClassId : Fact → Entry → Type 0
LacksClassId (StateBits bits) e = ⊥
LacksClassId (ClassId clsid) e = e.kind ≡ kind_stream
LacksClassId (Created moment) e = ⊥
LacksClassId (Modified moment) e = ⊥
