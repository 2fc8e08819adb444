-- The way down a path, one name after the other.
use Rattle.std.proofs.Common.{◌≡◌, ℕ, Bool, List, [], refl, ap, ◌∙◌, arith}
use Rattle.std.specs.Prelude.{slice_get, None, Some}
use Rattle.cfb_siblings.specs.Places.{path_to, IsEntryAt, IsPlace, IsStorageAt}
use Rattle.cfb_siblings.specs.Reading.{ReadBy}
use Rattle.cfb_siblings.specs.declared.links.Link.{Link}
use Rattle.cfb_siblings.specs.declared.places.Place.TheVariants.{Taken}
use Rattle.cfb_tree.specs.Directory.{kind_stream, Entry}
use Rattle.cfb_tree.specs.Names.{CaseTable}
use Rattle.cfb_tree.specs.Objects.{a_stream, object_at, EntriesHoldTree}
use Rattle.cfb_tree.specs.Paths.{Path}
use Rattle.cfb_tree.specs.Tree.{Tree}
use Rattle.cfb_tree_edits.specs.WholeRemoval.{HasStorage}
use Rattle.cfb_tree_edits.proofs.FactRules.{object_kind}
use Rattle.cfb_tree_edits.proofs.NewPlaces.{storage_of, stream_of}
use Rattle.cfb_tree_edits.proofs.Objects.{object_there}

module _ (letters : CaseTable) (reads : ℕ → ℕ → List ℕ → Bool) (directory : List Entry) (tree : Tree) (h : EntriesHoldTree letters (ReadBy reads) directory tree) where
  pub root_storage : IsStorageAt letters directory [] 0
  root_storage = record { leads = refl; owner = record { entry = h.root; found = h.root_found; holds = λ kind. let is = h.root_kind in absurd (omega (arith, is, kind)) } }

  -- the child of the next name
  module _ (path : Path) (parent : ℕ) (name : List ℕ) (link : Link) (id : ℕ) (place : IsPlace (ReadBy reads) letters directory tree path parent name (Taken link id)) where
    at_child : IsEntryAt (ReadBy reads) letters directory tree (path_to path name) id
    at_child = record { leads = place.1; object = place.2; at_path = place.3; own = place.4; is_object = λ below. place.5 }

    pub child_there : slice_get directory id ≡ None → ⊥
    child_there = object_there (ReadBy reads) letters directory tree h (path_to path name) id at_child

    module _ (e : Entry) (found : slice_get directory id ≡ Some e) where
      pub child_stream : e.kind ≡ kind_stream → (own : List ℕ) × (bits : ℕ) × (bytes : List ℕ) × (object_at letters tree (path_to path name) ≡ Some (a_stream own bits bytes))
      child_stream kind =
          let is = stream_of at_child.object (object_kind reads letters directory tree h id e found (path_to path name) at_child) kind in
          (is.0, is.1, is.2, at_child.at_path ∙ ap Some is.3)

      pub child_storage : (e.kind ≡ kind_stream → ⊥) → HasStorage letters tree (path_to path name) × IsStorageAt letters directory (path_to path name) id
      child_storage never =
          let is = storage_of at_child.object (object_kind reads letters directory tree h id e found (path_to path name) at_child) never in (
            record { name = is.0; facts = is.1; inside = is.2; at_path = at_child.at_path ∙ ap Some is.3 },
            record { leads = place.1; owner = record { entry = e; found = found; holds = never } },
          )
