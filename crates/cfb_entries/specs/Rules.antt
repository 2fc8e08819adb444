-- What calls by a path's text answer.
use Rattle.std.specs.Prelude.{◌≡◌, ℕ, Bool, true, false, List, map, chars, Option, Some, None, ◌⊎◌, Result, IfOk, IfErr, slice_get}
use Rattle.std.specs.Option.{option_map}
use Rattle.cfb_spec.specs.TreeRules.{Answer, an_entry, refused, Call, ShownObject, tree_step}
use Rattle.cfb_medium.specs.declared.error.Error.{Error}
use Rattle.cfb_medium.specs.declared.error.Error.TheVariants.{InvalidData, InvalidInput, Memory, NotFound}
use Rattle.cfb_siblings.specs.Places.{LeadsTo}
use Rattle.cfb_tree.specs.Directory.{Entry}
use Rattle.cfb_tree.specs.Names.{CaseTable}
use Rattle.cfb_tree.specs.Objects.{Object, a_stream, a_storage, object_at, EntriesHoldTree}
use Rattle.cfb_tree.specs.Paths.{Path, path_names}
use Rattle.cfb_tree.specs.Tree.{Tree}
use Rattle.cfb_tree.specs.Entries.{HasSize}
use Rattle.cfb_entries.specs.Listed.{listed, listed_in}
use Rattle.cfb_entries.specs.declared.entry.Entry.{Entry as ShownEntry}

-- the names of a path's text: none where it leads above the root
abbrev pub names_in : List ℕ → Option Path
names_in text = option_map (map chars) (path_names text)

-- a path above the root is refused as invalid input before all else
abbrev pub answer_at : CaseTable → Tree → (Path → Call) → Option Path → Answer
answer_at letters tree call None = refused InvalidInput
answer_at letters tree call (Some path) = (tree_step letters tree (call path)).1

-- the entries hold the tree, of whose streams the sizes alone are known
abbrev pub EntriesHoldSizes : CaseTable → List Entry → Tree → Type 0
EntriesHoldSizes letters directory tree = EntriesHoldTree letters HasSize directory tree

-- the path's text leads to the entry
abbrev pub IsFoundAt : CaseTable → List Entry → List ℕ → Path → Entry → Type 0
IsFoundAt letters directory text path e =
    (names_in text ≡ Some path) × (id : ℕ) × LeadsTo letters directory 0 path id × (slice_get directory id ≡ Some e)

-- the answer is this object, or this refusal; or memory is missing
abbrev pub TellsEntry : Answer → Result ShownEntry Error → Type 0
TellsEntry answer result =
    IfOk result (λ e. (s : ShownObject) × (answer ≡ an_entry s) × (listed_in e ≡ listed s)) × IfErr result (λ e. (e ≡ Memory) ⊎ (answer ≡ refused e))

-- of any entries: memory is missing, or the rules refuse, or the entries hold no tree
abbrev pub IsEntryError : Error → Type 0
IsEntryError e = (e ≡ Memory) ⊎ (e ≡ InvalidData) ⊎ (e ≡ InvalidInput) ⊎ (e ≡ NotFound)

-- the object is a stream
abbrev pub is_stream_object : Object → Bool
is_stream_object (a_stream name state_bits bytes) = true
is_stream_object (a_storage name facts inside) = false

-- whether the object at a path is a stream, where one is there: above the root none is
abbrev pub kind_at : CaseTable → Tree → Option Path → Option Bool
kind_at letters tree None = None
kind_at letters tree (Some path) = option_map is_stream_object (object_at letters tree path)
