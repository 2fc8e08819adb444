-- What the rules say where a stream is made, or emptied.
use Rattle.std.proofs.Common.{◌≡◌, ℕ, List, [], inl, inr, refl, ap, sym, subst, ◌∙◌, ⊎_elim}
use Rattle.std.specs.Prelude.{Err, None, Ok, Option, Result, Some}
use Rattle.cfb_entries.specs.Rules.{answer_at}
use Rattle.cfb_tree_edits.specs.LiveTreeRules.{FollowsLiveTreeRules}
use Rattle.cfb_tree_edits.specs.Live.{LiveFileMeansTree}
use Rattle.cfb_tree_edits.specs.Making.{making}
use Rattle.cfb_tree_edits.specs.Orphans.{FileBecomesTree}
use Rattle.cfb_tree_edits.specs.declared.making.NewObject.TheVariants.{Stream}
use Rattle.cfb_spec.specs.TreeRules.{create_new_stream, create_stream, done, refused, tree_step}
use Rattle.cfb_medium.specs.declared.error.Error.{Error}
use Rattle.cfb_medium.specs.declared.error.Error.TheVariants.{AlreadyExists}
use Rattle.cfb_medium.specs.declared.medium.ReadMedium.{Ghosts}
use Rattle.cfb_mini.specs.declared.mini_allocator.MiniAllocator.{MiniAllocator}
use Rattle.cfb_tree.specs.Changes.{changed, with_bytes}
use Rattle.cfb_tree.specs.Names.{CaseTable}
use Rattle.cfb_tree.specs.Objects.{a_storage, a_stream, object_at}
use Rattle.cfb_tree.specs.Paths.{Path}
use Rattle.cfb_tree.specs.Tree.{Content, Facts, Tree}
use Rattle.cfb_tree.proofs.OneContent.{Some_same}

module _ (letters : CaseTable) (tree : Tree) (path : Path) where
  step_new : object_at letters tree path ≡ None → tree_step letters tree (create_new_stream path) ≡ tree_step letters tree (create_stream path)
  step_new free = rw free refl

  pub step_storage : (name : List ℕ) (facts : Facts) (inside : Content) → object_at letters tree path ≡ Some (a_storage name facts inside) → (tree_step letters tree (create_stream path)).1 ≡ refused AlreadyExists
  step_storage name facts inside at = rw at refl

  pub step_emptied : (name : List ℕ) (bits : ℕ) (bytes : List ℕ) → object_at letters tree path ≡ Some (a_stream name bits bytes) → tree_step letters tree (create_stream path) ≡ (changed letters (with_bytes []) path tree, done)
  step_emptied name bits bytes at = rw at refl

module _ {F : Type 0} {g : Ghosts F} (letters : CaseTable) (old new : MiniAllocator F g) (names : Option Path) (path : Path) (is : names ≡ Some path)
    (free : (tree : Tree) → LiveFileMeansTree letters old tree → object_at letters tree path ≡ None) where
  -- where nothing is, a stream is made as a new one is
  pub does_new : {T : Type 0} (result : Result T Error) → FollowsLiveTreeRules letters names (making Stream) result old new → FollowsLiveTreeRules letters names (λ p. create_stream p) result old new
  does_new {T} (Ok x) d = record {
    done = λ tree m.
        let it = d.done tree m in
        let same : it.names ≡ path = Some_same (sym it.at_path ∙ is) in
        let step = step_new letters tree it.names (ap (object_at letters tree) same ∙ free tree m) in
        let comes = subst (FileBecomesTree letters old new m.who) (ap (λ o. o.0) step) (record { means = it.means; strays = it.strays }) in record {
          names = it.names;
          at_path = it.at_path;
          accepted = ap (λ o. o.1) (sym step) ∙ it.accepted;
          means = comes.means;
          strays = comes.strays;
        };
    refused = tt;
    rests = tt;
  }
  does_new {T} (Err e) d = record {
    done = tt;
    refused = λ tree m.
        ⊎_elim
        (λ fault. inl fault)
        (λ told. inr (ap (answer_at letters tree (λ p. create_stream p)) is ∙ ap (λ o. o.1) (sym (step_new letters tree path (free tree m))) ∙ sym (ap (answer_at letters tree (making Stream)) is) ∙ told.0, told.1))
        (d.refused tree m);
    rests = d.rests;
  }
