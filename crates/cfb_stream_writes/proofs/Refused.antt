-- What the rules answer where a stream is to be opened, and none is; and that no fault is want of room.
use Rattle.std.proofs.Common.{◌≡◌, ◌⊎◌, List, ℕ, refl, sym, subst, ◌∙◌, ⊎_elim}
use Rattle.std.specs.Prelude.{Err, IfErr, None, Result, Some}
use Rattle.cfb_spec.specs.TreeRules.{open_stream, refused, tree_step}
use Rattle.cfb_medium.specs.Calls.{IsFaultOrInvalidInputIf}
use Rattle.cfb_medium.specs.declared.error.Error.{Error}
use Rattle.cfb_medium.specs.declared.error.Error.TheVariants.{Full, InvalidData, InvalidInput, NotFound}
use Rattle.cfb_tree.specs.Names.{CaseTable}
use Rattle.cfb_tree.specs.Objects.{a_storage, object_at}
use Rattle.cfb_tree.specs.Paths.{Path}
use Rattle.cfb_tree.specs.Tree.{Content, Facts, Tree}

module _ (letters : CaseTable) (tree : Tree) (path : Path) where
  -- a storage is there
  pub open_storage : (name : List ℕ) (facts : Facts) (inside : Content) → object_at letters tree path ≡ Some (a_storage name facts inside) → (tree_step letters tree (open_stream path)).1 ≡ refused InvalidInput
  open_storage name facts inside at = rw at refl

  -- or nothing
  pub open_missing : object_at letters tree path ≡ None → (tree_step letters tree (open_stream path)).1 ≡ refused NotFound
  open_missing at = rw at refl

-- no fault is want of room, nor is it that a chain isn't there
pub not_full : (e : Error) → IsFaultOrInvalidInputIf ⊥ e ⊎ (e ≡ InvalidData) → e ≡ Full → ⊥
not_full e fault is = ⊎_elim (λ f. subst (IsFaultOrInvalidInputIf ⊥) is f) (λ invalid. let wrong : InvalidData ≡ Full = sym invalid ∙ is in differ wrong) fault
  where
    differ : InvalidData ≡ Full → ⊥
    differ e = cc

pub never_full : {T : Type 0} (r : Result T Error) → IfErr r (λ e. IsFaultOrInvalidInputIf ⊥ e ⊎ (e ≡ InvalidData)) → r ≡ Err Full → ⊥
never_full {T} r fault is = not_full Full (subst (λ (r : Result T Error). IfErr r (λ e. IsFaultOrInvalidInputIf ⊥ e ⊎ (e ≡ InvalidData))) is fault) refl
