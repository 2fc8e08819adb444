-- The streams of the tables that describe others are put one after the other.
use Rattle.std.proofs.Common.{◌≡◌, ◌∙◌, ℕ, List, ap, inl, refl, sym, subst, true, Ok, Err}
use Rattle.std.specs.Prelude.{filter, not}
use Rattle.cfb.specs.FollowedRules.{FileMeansTree}
use Rattle.cfb.specs.Views.{file_case_table, mini_of, sound_of, validation_of}
use Rattle.cfb.specs.declared.compound_file.CompoundFile.{CompoundFile}
use Rattle.cfb_fat.specs.Tables.{has_failed_here}
use Rattle.cfb_tree_edits.specs.LiveTreeRules.{IsFaultOrFull}
use Rattle.cfb_medium.specs.declared.error.Error.{Error}
use Rattle.cfb_medium.specs.declared.medium.ReadMedium.{Ghosts}
use Rattle.cfb_mini.specs.Views.{allocator_of}
use Rattle.cfb_tree.specs.Names.{CaseTable}
use Rattle.cfb_tree.specs.Tree.{Tree}
use Rattle.msi_row_edits.specs.Edited.{CanPut, PutsTable}
use Rattle.msi_spec.specs.Package.{at_name, is_stream, objects, stream_name}
use Rattle.msi_rewritten.specs.Rewriting.{HasPut}
use Rattle.msi_rewritten.proofs.Beside.{put_keeps_storages}
use Rattle.msi_tables.specs.Schema.{columns_name, tables_name, validation_name}
use Rattle.msi_table_edits.specs.Making.{CanPutThree, PutsThree}
use Rattle.msi_table_edits.specs.Putting.{CanPutTwo, PutsTwo}
use Rattle.msi_table_edits.specs.Validating.{HasPutTwo}

-- what can be put can be put behind another
can_still : (letters : CaseTable) (name bytes other : List ℕ) (a b : Tree) → HasPut letters name bytes a b → CanPut letters name a → CanPut letters other a → CanPut letters other b
can_still letters name bytes other a b put own can = record {
  free = can.free;
  no_storage = ap (λ os. at_name letters os (stream_name other)) (ap (filter (λ o. not (is_stream o))) put.objects ∙ put_keeps_storages letters (stream_name name) bytes (objects a.content) own.no_storage) ∙ can.no_storage;
}

module _ {F : Type 0} {g : Ghosts F} (letters : CaseTable) (name bytes : List ℕ) (a b : CompoundFile F g) (same : file_case_table a ≡ letters) where
  record Stepped (tree : Tree) : Type 0 where
    after : Tree
    means : FileMeansTree b after
    put : HasPut letters name bytes tree after

  stepped : PutsTable {T = Unit {0}} name bytes (Ok tt) a b → (tree : Tree) → FileMeansTree a tree → CanPut letters name tree → Stepped tree
  stepped puts tree means can =
      let d = puts.done tree means (subst (λ l. CanPut l name tree) (sym same) can) in
      record { after = d.0; means = d.1; put = subst (λ l. HasPut l name bytes tree d.0) same d.2 }

  step_fault : (e : Error) → PutsTable {T = Unit {0}} name bytes (Err e) a b → (tree : Tree) → FileMeansTree a tree → CanPut letters name tree → IsFaultOrFull e
  step_fault e puts tree means can = puts.refused tree means (subst (λ l. CanPut l name tree) (sym same) can)

-- ---- those of _Columns and _Tables

module _ {F : Type 0} {g : Ghosts F} (bc bt : List ℕ) (old one : CompoundFile F g) where
  abbrev letters : CaseTable
  letters = file_case_table old

  pub first_unput : (e : Error) → PutsTable {T = Unit {0}} columns_name bc (Err e) old one → PutsTwo {T = Unit {0}} bc bt (Err e) old one
  first_unput e p = record { done = tt; refused = λ tree means can. p.refused tree means can.columns; rests = p.rests; seen = p.seen }

  module _ (p : PutsTable {T = Unit {0}} columns_name bc (Ok tt) old one) (two : CompoundFile F g) where
    abbrev First : Tree → Type 0
    First tree = Stepped letters columns_name bc old one refl tree

    first_step : (tree : Tree) → FileMeansTree old tree → CanPutTwo letters tree → First tree
    first_step tree means can = stepped letters columns_name bc old one refl p tree means can.columns

    tables_can : (tree : Tree) (can : CanPutTwo letters tree) (s : First tree) → CanPut letters tables_name s.after
    tables_can tree can s = can_still letters columns_name bc tables_name tree s.after s.put can.columns can.tables

    pub second_unput : (failed_file : CompoundFile F g) (e : Error) → PutsTable {T = Unit {0}} tables_name bt (Err e) one two → has_failed_here (allocator_of (mini_of failed_file)) ≡ true
        → (file_case_table failed_file ≡ file_case_table two) × (sound_of failed_file ≡ sound_of two) × (validation_of failed_file ≡ validation_of two) → PutsTwo {T = Unit {0}} bc bt (Err e) old failed_file
    second_unput failed_file e q failed seen = record {
      done = tt;
      refused = λ tree means can.
          let s = first_step tree means can in
          step_fault letters tables_name bt one two p.seen.0 e q s.after s.means (tables_can tree can s);
      rests = inl failed;
      seen = (seen.0 ∙ q.seen.0 ∙ p.seen.0, seen.1 ∙ q.seen.1 ∙ p.seen.1, seen.2 ∙ q.seen.2 ∙ p.seen.2);
    }

    pub both_put : PutsTable {T = Unit {0}} tables_name bt (Ok tt) one two → PutsTwo {T = Unit {0}} bc bt (Ok tt) old two
    both_put q = record {
      done = λ tree means can.
          let s = first_step tree means can in
          let u = stepped letters tables_name bt one two p.seen.0 q s.after s.means (tables_can tree can s) in
          (u.after, u.means, record { first = s.after; columns = s.put; tables = u.put });
      refused = tt;
      rests = tt;
      seen = (q.seen.0 ∙ p.seen.0, q.seen.1 ∙ p.seen.1, q.seen.2 ∙ p.seen.2);
    }

-- ---- and that of _Validation behind them

module _ {F : Type 0} {g : Ghosts F} (bc bt bv : List ℕ) (old two : CompoundFile F g) where
  abbrev own : CaseTable
  own = file_case_table old

  both_can : (tree : Tree) → CanPutThree own tree → CanPutTwo own tree
  both_can tree can = record { columns = can.columns; tables = can.tables }

  pub both_unput : (e : Error) → PutsTwo {T = Unit {0}} bc bt (Err e) old two → PutsThree {T = Unit {0}} bc bt bv (Err e) old two
  both_unput e p = record { done = tt; refused = λ tree means can. p.refused tree means (both_can tree can); rests = p.rests; seen = p.seen }

  validation_can : (tree after : Tree) → CanPutThree own tree → HasPutTwo own bc bt tree after → CanPut own validation_name after
  validation_can tree after can put =
      can_still own tables_name bt validation_name put.first after put.tables (can_still own columns_name bc tables_name tree put.first put.columns can.columns can.tables)
      (can_still own columns_name bc validation_name tree put.first put.columns can.columns can.validation)

  module _ (p : PutsTwo {T = Unit {0}} bc bt (Ok tt) old two) (three : CompoundFile F g) where
    pub third_unput : (failed_file : CompoundFile F g) (e : Error) → PutsTable {T = Unit {0}} validation_name bv (Err e) two three → has_failed_here (allocator_of (mini_of failed_file)) ≡ true
        → (file_case_table failed_file ≡ file_case_table three) × (sound_of failed_file ≡ sound_of three) × (validation_of failed_file ≡ validation_of three) → PutsThree {T = Unit {0}} bc bt bv (Err e) old failed_file
    third_unput failed_file e r failed seen = record {
      done = tt;
      refused = λ tree means can.
          let d = p.done tree means (both_can tree can) in
          step_fault own validation_name bv two three p.seen.0 e r d.0 d.1 (validation_can tree d.0 can d.2);
      rests = inl failed;
      seen = (seen.0 ∙ r.seen.0 ∙ p.seen.0, seen.1 ∙ r.seen.1 ∙ p.seen.1, seen.2 ∙ r.seen.2 ∙ p.seen.2);
    }

    pub all_put : PutsTable {T = Unit {0}} validation_name bv (Ok tt) two three → PutsThree {T = Unit {0}} bc bt bv (Ok tt) old three
    all_put r = record {
      done = λ tree means can.
          let d = p.done tree means (both_can tree can) in
          let w = stepped own validation_name bv two three p.seen.0 r d.0 d.1 (validation_can tree d.0 can d.2) in
          (w.after, w.means, record { first = d.2.first; second = d.0; columns = d.2.columns; tables = d.2.tables; validation = w.put });
      refused = tt;
      rests = tt;
      seen = (r.seen.0 ∙ p.seen.0, r.seen.1 ∙ p.seen.1, r.seen.2 ∙ p.seen.2);
    }
