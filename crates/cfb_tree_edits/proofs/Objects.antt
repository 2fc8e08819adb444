-- Entries of objects are there.
use Rattle.std.proofs.Common.{◌≡◌, ℕ, List, [], ◌∷◌, ap, sym, ◌∙◌}
use Rattle.std.specs.Prelude.{slice_get, None, Some}
use Rattle.cfb_tree.specs.Directory.{Entry}
use Rattle.cfb_tree.specs.Names.{CaseTable}
use Rattle.cfb_tree.specs.Objects.{a_storage, a_stream, EntriesHoldTree, IsObject, Object}
use Rattle.cfb_tree.specs.Paths.{Path}
use Rattle.cfb_tree.specs.Tree.{Tree}
use Rattle.cfb_siblings.specs.Places.{IsEntryAt}

module _ (Reads : Entry → List ℕ → Type 0) (letters : CaseTable) (directory : List Entry) (tree : Tree) (h : EntriesHoldTree letters Reads directory tree) where
  pub object_entry : (path : Path) (id : ℕ) → IsEntryAt Reads letters directory tree path id → (e : Entry) × (slice_get directory id ≡ Some e)
  object_entry [] id at = (h.root, ap (slice_get directory) at.leads ∙ h.root_found)
  object_entry (name ∷ names) id at = of_object at.object (at.is_object (λ no. absurd (cc)))
    where
      of_object : (o : Object) → IsObject directory Reads id o at.own → (e : Entry) × (slice_get directory id ≡ Some e)
      of_object (a_stream n bits bytes) (e, is, reads, own) = (e, is.found)
      of_object (a_storage n facts inside) (e, children, is, siblings, holds) = (e, is.found)

  pub object_there : (path : Path) (id : ℕ) → IsEntryAt Reads letters directory tree path id → slice_get directory id ≡ None → ⊥
  object_there path id at lost = let it = object_entry path id at in let never : Some it.0 ≡ None = sym it.1 ∙ lost in absurd (cc)
