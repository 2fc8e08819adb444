-- Calls that put the streams of _Columns and _Tables in a file.
use Rattle.std.specs.Prelude.{◌≡◌, ◌⊎◌, ℕ, true, List, Result, IfErr, OnErr, OnOk}
use Rattle.cfb.specs.FollowedRules.{FileMeansTree}
use Rattle.cfb.specs.Putting.{KeepsMeant}
use Rattle.cfb.specs.Views.{file_case_table, mini_of, sound_of, validation_of}
use Rattle.cfb.specs.declared.compound_file.CompoundFile.{CompoundFile}
use Rattle.cfb_fat.specs.Tables.{has_failed_here}
use Rattle.cfb_tree_edits.specs.LiveTreeRules.{IsFaultOrFull}
use Rattle.cfb_medium.specs.declared.error.Error.{Error}
use Rattle.cfb_medium.specs.declared.medium.ReadMedium.{Ghosts}
use Rattle.cfb_mini.specs.Views.{allocator_of}
use Rattle.cfb_tree.specs.Names.{CaseTable}
use Rattle.cfb_tree.specs.Tree.{Tree}
use Rattle.msi_row_edits.specs.Edited.{CanPut}
use Rattle.msi_tables.specs.Schema.{columns_name, tables_name}
use Rattle.msi_table_edits.specs.Validating.{HasPutTwo}

-- no storage of the tree stands where the streams of the two tables are
pub record CanPutTwo (letters : CaseTable) (tree : Tree) : Type 0 where
  pub columns : CanPut letters columns_name tree
  pub tables : CanPut letters tables_name tree

module _ {F : Type 0} {g : Ghosts F} where
  -- The streams of the two tables are put with these bytes. Where they can be put, what comes in between is a fault. After an error the
  -- file has failed, or means what it meant.
  pub record PutsTwo {T : Type 0} (columns_bytes tables_bytes : List ℕ) (result : Result T Error) (old new : CompoundFile F g) : Type 0 where
    pub done : OnOk result ((tree : Tree) → FileMeansTree old tree → CanPutTwo (file_case_table old) tree → (after : Tree) × FileMeansTree new after × HasPutTwo (file_case_table old) columns_bytes tables_bytes tree after)
    pub refused : IfErr result (λ e. (tree : Tree) → FileMeansTree old tree → CanPutTwo (file_case_table old) tree → IsFaultOrFull e)
    pub rests : OnErr result ((has_failed_here (allocator_of (mini_of new)) ≡ true) ⊎ KeepsMeant old new)
    pub seen : (file_case_table new ≡ file_case_table old) × (sound_of new ≡ sound_of old) × (validation_of new ≡ validation_of old)
