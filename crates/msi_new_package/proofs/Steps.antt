-- The steps by which a new package is laid down in a file.
use Rattle.std.proofs.Common.{◌≡◌, ◌∙◌, ◌∷◌, ⊎_elim, ℕ, List, [], Some, ap, refl, subst, sym, true}
use Rattle.std.specs.Prelude.{Err, filter, not, Ok}
use Rattle.cfb.specs.FollowedRules.{FollowsTreeRules, FileMeansTree}
use Rattle.cfb.specs.Views.{file_case_table}
use Rattle.cfb.specs.declared.compound_file.CompoundFile.{CompoundFile}
use Rattle.cfb_entries.specs.Rules.{names_in}
use Rattle.cfb_tree_edits.specs.LiveTreeRules.{IsFaultOrFull}
use Rattle.cfb_spec.specs.TreeRules.{done, refused, set_storage_clsid, tree_step}
use Rattle.cfb_medium.specs.declared.error.Error.{Error}
use Rattle.cfb_medium.specs.declared.medium.ReadMedium.{Ghosts}
use Rattle.cfb_tree.specs.Names.{CaseTable}
use Rattle.cfb_tree.specs.Objects.{Object}
use Rattle.cfb_tree.specs.Tree.{Tree}
use Rattle.cfb_tree.proofs.OneContent.{Some_same}
use Rattle.msi_row_edits.specs.Edited.{CanPut, PutsTable}
use Rattle.msi_spec.specs.Package.{is_stream, objects}
use Rattle.msi_spec.specs.Sound.{is_free_table_name}
use Rattle.msi_rewritten.specs.Rewriting.{HasPut}
use Rattle.msi_new_package.proofs.Laid.{none_after, none_there}

abbrev pub storages_in : List Object → List Object
storages_in os = filter (λ o. not (is_stream o)) os

-- the text "/" is the path of the root
root_path : names_in (47 ∷ []) ≡ Some []
root_path = refl

module _ {F : Type 0} {g : Ghosts F} (letters : CaseTable) (class : List ℕ) (old new : CompoundFile F g) (same : file_case_table old ≡ letters) where
  -- a file that means a tree without objects, whose root has the identifier
  pub record Starts (it : CompoundFile F g) : Type 0 where
    pub tree : Tree
    pub means : FileMeansTree it tree
    pub class_is : tree.root.clsid ≡ class
    pub nothing : objects tree.content ≡ []

  pub started : FollowsTreeRules {T = Unit {0}} (names_in (47 ∷ [])) (λ names. set_storage_clsid names class) (Ok tt) old new → (tree : Tree) → FileMeansTree old tree → objects tree.content ≡ [] → Starts new
  started does tree means none =
      let d = does.done tree means in
      let root : d.names ≡ [] = Some_same (sym d.at_path ∙ root_path) in
      record {
        tree = (tree_step (file_case_table old) tree (set_storage_clsid [] class)).0;
        means = subst (λ names. FileMeansTree new (tree_step (file_case_table old) tree (set_storage_clsid names class)).0) root d.means;
        class_is = refl;
        nothing = none;
      }

  pub start_fault : (e : Error) → FollowsTreeRules {T = Unit {0}} (names_in (47 ∷ [])) (λ names. set_storage_clsid names class) (Err e) old new → (tree : Tree) → FileMeansTree old tree → IsFaultOrFull e
  start_fault e does tree means = ⊎_elim (λ fault. fault) (λ told.
      let rule : done ≡ refused e = told.0 in absurd (cc)) (does.refused tree means)

module _ {F : Type 0} {g : Ghosts F} (letters : CaseTable) (name bytes : List ℕ) (free : is_free_table_name name ≡ true) (old new : CompoundFile F g) (same : file_case_table old ≡ letters) where
  -- a table's stream was put, and still there are no storages
  pub record Put (tree : Tree) : Type 0 where
    pub after : Tree
    pub means : FileMeansTree new after
    pub put : HasPut letters name bytes tree after
    pub none : storages_in (objects after.content) ≡ []

  can : (tree : Tree) → storages_in (objects tree.content) ≡ [] → CanPut (file_case_table old) name tree
  can tree none = record { free = free; no_storage = none_there (file_case_table old) name bytes (objects tree.content) none }

  pub put_so : PutsTable {T = Unit {0}} name bytes (Ok tt) old new → (tree : Tree) → FileMeansTree old tree → storages_in (objects tree.content) ≡ [] → Put tree
  put_so puts tree means none =
      let d = puts.done tree means (can tree none) in record {
        after = d.0;
        means = d.1;
        put = subst (λ l. HasPut l name bytes tree d.0) same d.2;
        none = ap storages_in d.2.objects ∙ none_after (file_case_table old) name bytes (objects tree.content) none;
      }

  pub put_fault : (e : Error) → PutsTable {T = Unit {0}} name bytes (Err e) old new → (tree : Tree) → FileMeansTree old tree → storages_in (objects tree.content) ≡ [] → IsFaultOrFull e
  put_fault e puts tree means none = puts.refused tree means (can tree none)
