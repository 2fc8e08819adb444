-- What is said of the object at a path.
use Rattle.std.proofs.Common.{◌≡◌, true, false, not, refl}
use Rattle.std.specs.Prelude.{Option, Some, None, is_some, unwrap_or}
use Rattle.std.specs.Option.{option_map}
use Rattle.cfb_entries.specs.Rules.{is_stream_object, kind_at}
use Rattle.cfb_spec.specs.TreeRules.{yes, exists, is_stream, is_storage, is_stream_found, is_storage_found}
use Rattle.cfb_tree.specs.Names.{CaseTable}
use Rattle.cfb_tree.specs.Objects.{Object, a_stream, a_storage, object_at}
use Rattle.cfb_tree.specs.Paths.{Path}
use Rattle.cfb_tree.specs.Tree.{Tree}
use Rattle.cfb.specs.Views.{said_at}

pub exists_said : (letters : CaseTable) (tree : Tree) (names : Option Path) → yes (is_some (kind_at letters tree names)) ≡ said_at letters tree (λ p. exists p) names
exists_said letters tree None = refl
exists_said letters tree (Some path) = by_object (object_at letters tree path)
  where
    by_object : (o : Option Object) → yes (is_some (option_map is_stream_object o)) ≡ yes (is_some o)
    by_object None = refl
    by_object (Some o) = refl

pub stream_said : (letters : CaseTable) (tree : Tree) (names : Option Path) → yes (unwrap_or (kind_at letters tree names) false) ≡ said_at letters tree (λ p. is_stream p) names
stream_said letters tree None = refl
stream_said letters tree (Some path) = by_object (object_at letters tree path)
  where
    by_object : (o : Option Object) → yes (unwrap_or (option_map is_stream_object o) false) ≡ yes (is_stream_found o)
    by_object None = refl
    by_object (Some (a_stream n b x)) = refl
    by_object (Some (a_storage n f i)) = refl

pub storage_said : (letters : CaseTable) (tree : Tree) (names : Option Path) → yes (not (unwrap_or (kind_at letters tree names) true)) ≡ said_at letters tree (λ p. is_storage p) names
storage_said letters tree None = refl
storage_said letters tree (Some path) = by_object (object_at letters tree path)
  where
    by_object : (o : Option Object) → yes (not (unwrap_or (option_map is_stream_object o) true)) ≡ yes (is_storage_found o)
    by_object None = refl
    by_object (Some (a_stream n b x)) = refl
    by_object (Some (a_storage n f i)) = refl
