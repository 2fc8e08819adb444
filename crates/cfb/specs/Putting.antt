-- A stream that gets other bytes in one call, or is made with them, by its path ([MS-CFB] 2.6.3).
use Rattle.std.specs.Prelude.{◌≡◌, ◌⊎◌, ℕ, false, true, length, List, Option, Some, None, Result, IfErr, IsErrOf, OnErr, OnOk}
use Rattle.cfb_fat.specs.Tables.{has_failed_here}
use Rattle.cfb_tree_edits.specs.LiveTreeRules.{IsFaultOrFull}
use Rattle.cfb_tree_edits.specs.Orphans.{StaysTidy}
use Rattle.cfb_spec.specs.TreeRules.{close_stream, done, has_bytes, made, open_stream, refused, tree_step, Answer, Outcome}
use Rattle.cfb_medium.specs.declared.error.Error.{Error}
use Rattle.cfb_medium.specs.declared.error.Error.TheVariants.{AlreadyExists, Failed, Full, InvalidData, InvalidInput, NotFound}
use Rattle.cfb_medium.specs.declared.medium.ReadMedium.{Ghosts}
use Rattle.cfb_mini.specs.Views.{allocator_of}
use Rattle.cfb_ownership.specs.Owners.{Owners}
use Rattle.cfb_tree.specs.Changes.{changed, last_of, with_bytes}
use Rattle.cfb_tree.specs.Names.{CaseTable}
use Rattle.cfb_tree.specs.Objects.{a_storage, a_stream, object_at, Object}
use Rattle.cfb_tree.specs.Paths.{Path}
use Rattle.cfb_tree.specs.Tree.{Tree}
use Rattle.cfb_stream_writes.specs.Streams.{LacksRoom}
use Rattle.cfb.specs.FollowedRules.{FileMeansTree}
use Rattle.cfb.specs.Views.{file_case_table, mini_of, sound_of, validation_of}
use Rattle.cfb.specs.declared.compound_file.CompoundFile.{CompoundFile}

-- what a call at a path makes of a tree, and its answer
abbrev pub Rule : Type 0
Rule = CaseTable → Tree → Path → Outcome

-- the stream at the path gets these bytes, and keeps its name and state bits; refused as `open_stream` is
abbrev pub rewriting : List ℕ → Rule
rewriting bytes letters tree path = tree_step letters tree (close_stream path bytes)

-- the stream that stands at the path gets the bytes; where none stands one is made with them, as `create_stream` makes it
abbrev pub put_over : List ℕ → CaseTable → Tree → Path → Option Object → Outcome
put_over bytes letters tree path None = made letters tree path (a_stream (last_of path) 0 bytes)
put_over bytes letters tree path (Some (a_stream name state_bits old)) = (changed letters (with_bytes bytes) path tree, done)
put_over bytes letters tree path (Some (a_storage name facts inside)) = (tree, refused AlreadyExists)

abbrev pub putting : List ℕ → Rule
putting bytes letters tree path = put_over bytes letters tree path (object_at letters tree path)

-- refusals by rule where a stream is rewritten, and where one is put
abbrev pub IsOpenStreamError : Error → Type 0
IsOpenStreamError e = (e ≡ InvalidData) ⊎ (e ≡ InvalidInput) ⊎ (e ≡ NotFound)

abbrev pub IsRefusedRewriting : Error → Type 0
IsRefusedRewriting e = IsOpenStreamError e ⊎ (e ≡ Full)

abbrev pub IsPutStreamError : Error → Type 0
IsPutStreamError e = IsRefusedRewriting e ⊎ (e ≡ AlreadyExists)

-- a path above the root is refused as invalid input before all else
abbrev pub answer_by : Rule → CaseTable → Tree → Option Path → Answer
answer_by rule letters tree None = refused InvalidInput
answer_by rule letters tree (Some path) = (rule letters tree path).1

module _ {F : Type 0} {g : Ghosts F} where
  -- the path leads to a stream, for which numbers are missing to have so many bytes
  pub record HasNoRoomAt (it : CompoundFile F g) (path : Option Path) (tree : Tree) (len : ℕ) : Type 0 where
    pub names : Path
    pub at_path : path ≡ Some names
    pub content : List ℕ
    pub answer : (tree_step (file_case_table it) tree (open_stream names)).1 ≡ has_bytes content
    pub lacks : LacksRoom (mini_of it) (length content) len

  -- so it is, whatever tree the file means
  abbrev pub IsFullAt : CompoundFile F g → Option Path → ℕ → Type 0
  IsFullAt it path len = (tree : Tree) → FileMeansTree it tree → HasNoRoomAt it path tree len

  -- each tree that the file meant it means still
  pub record KeepsMeant (old new : CompoundFile F g) : Type 0 where
    pub means : (tree : Tree) → FileMeansTree old tree → FileMeansTree new tree

  -- the rule accepts, and the file means the tree that it gives; no sector and no mini sector is in use without an owner that wasn't so
  -- before
  pub record IsDoneBy (rule : Rule) (path : Option Path) (tree : Tree) (old new : CompoundFile F g) (who : Owners) : Type 0 where
    pub names : Path
    pub at_path : path ≡ Some names
    pub accepted : (rule (file_case_table old) tree names).1 ≡ done
    pub means : FileMeansTree new (rule (file_case_table old) tree names).0
    pub strays : StaysTidy (mini_of old) (mini_of new) who means.live.who

  -- As `Does`, by a rule on trees: `Failed` after a fault, `InvalidData` where the file isn't sound; else done, or refused just as the
  -- rule refuses, and then the file means what it meant; else a fault. After any error it has failed, or means what it meant.
  pub record FilePuts {T : Type 0} (rule : Rule) (path : Option Path) (result : Result T Error) (old new : CompoundFile F g) : Type 0 where
    pub failed : has_failed_here (allocator_of (mini_of old)) ≡ true → IsErrOf result Failed
    pub unsound : has_failed_here (allocator_of (mini_of old)) ≡ false → sound_of old ≡ false → IsErrOf result InvalidData
    pub done : OnOk result ((tree : Tree) → (m : FileMeansTree old tree) → IsDoneBy rule path tree old new m.live.who)
    pub refused : IfErr result (λ e. (tree : Tree) → FileMeansTree old tree → IsFaultOrFull e ⊎ ((answer_by rule (file_case_table old) tree path ≡ refused e) × KeepsMeant old new))
    pub rests : OnErr result ((has_failed_here (allocator_of (mini_of new)) ≡ true) ⊎ KeepsMeant old new)
    pub seen : (file_case_table new ≡ file_case_table old) × (sound_of new ≡ sound_of old) × (validation_of new ≡ validation_of old)
