-- What calls answer by the names of streams.
use Rattle.std.proofs.Common.{◌≡◌, ◌∙◌, ℕ, Bool, false, List, [], ◌∷◌, Option, Some, None, refl, ap}
use Rattle.std.specs.Prelude.{option_and_then, Ok, Err, is_some}
use Rattle.cfb_medium.specs.declared.error.Error.{Error}
use Rattle.cfb_medium.specs.declared.error.Error.TheVariants.{NotFound}
use Rattle.cfb_spec.specs.TreeRules.{Object, a_storage, a_stream, is_stream, is_stream_found, object_at, tree_step, yes, Answer}
use Rattle.cfb_tree.specs.Names.{CaseTable}
use Rattle.cfb_tree.specs.Tree.{Tree}
use Rattle.msi_spec.proofs.UnderRoot.{at_path}
use Rattle.msi_spec.specs.Package.{PackageContent, at_name, object_bytes, objects, stream_at}
use Rattle.msi_spec.specs.Streams.{has_stream, may_name, plain_stream_name, stream_read}
use Rattle.msi_texts.specs.Results.{◌>>=◌, or_refused}

module _ (letters : CaseTable) (P : PackageContent) (name : List ℕ) where
  -- a name that is refused
  pub read_refused : (e : Error) → may_name letters name ≡ Err e → stream_read letters P name ≡ Err e
  read_refused e may = ap (λ m. m >>= λ _. or_refused (stream_at letters P.streams (plain_stream_name name)) NotFound) may

  -- one that isn't
  pub read_taken : may_name letters name ≡ Ok tt → stream_read letters P name ≡ or_refused (stream_at letters P.streams (plain_stream_name name)) NotFound
  read_taken may = ap (λ m. m >>= λ _. or_refused (stream_at letters P.streams (plain_stream_name name)) NotFound) may

  pub none_refused : (e : Error) → may_name letters name ≡ Err e → has_stream letters P name ≡ false
  none_refused e may = rw may refl

  pub there_taken : (o : Option (List ℕ)) → may_name letters name ≡ Ok tt → stream_at letters P.streams (plain_stream_name name) ≡ o → has_stream letters P name ≡ is_some o
  there_taken None may at = rw (may, at) refl
  there_taken (Some bytes) may at = rw (may, at) refl

-- what the rules say of a stream at a name
pub said_is : (letters : CaseTable) (tree : Tree) (name : List ℕ) (b : Bool) → yes b ≡ (tree_step letters tree (is_stream (name ∷ []))).1 → b ≡ is_some (stream_at letters (objects tree.content) name)
said_is letters tree name b e = by (object_at letters tree (name ∷ [])) (at_path letters tree name) e
  where
    said : Answer → Bool
    said (yes b) = b
    said _ = false

    by : (o : Option Object) → o ≡ at_name letters (objects tree.content) name → yes b ≡ yes (is_stream_found o) → b ≡ is_some (stream_at letters (objects tree.content) name)
    by None same e = ap said e ∙ ap (λ o. is_some (option_and_then object_bytes o)) same
    by (Some (a_stream key bits content)) same e = ap said e ∙ ap (λ o. is_some (option_and_then object_bytes o)) same
    by (Some (a_storage key facts inside)) same e = ap said e ∙ ap (λ o. is_some (option_and_then object_bytes o)) same
