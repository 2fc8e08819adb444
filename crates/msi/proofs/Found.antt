-- What stands at the names of streams in a tree and in the package that it stores.
use Rattle.std.proofs.Common.{◌≡◌, ℕ, true, List, [], ◌∷◌, Some, map, refl}
use Rattle.std.specs.List.Sorted.{IsStrictlySortedBy}
use Rattle.std.specs.Prelude.{Ok, option_map}
use Rattle.std.specs.Str.{chars}
use Rattle.cfb_tree.specs.Names.{CaseTable, name_cmp}
use Rattle.cfb_tree.specs.Paths.{path_names}
use Rattle.cfb_tree.specs.Tree.{Tree, child_names}
use Rattle.msi_spec.specs.Opening.{keeps_encoded_names}
use Rattle.msi_spec.specs.Split.{TreeStoresRest}
use Rattle.msi_spec.specs.Package.{PackageContent, objects, stream_at}
use Rattle.msi_spec.specs.Streams.{may_name, plain_stream_name, signature_name}
use Rattle.msi.proofs.Owned.{stream_found, taken_free}
use Rattle.msi_streams.proofs.Taken.{taken_special, taken_unmarked}

-- a name that calls take leads to the same in both
pub found_taken : (letters : CaseTable) → keeps_encoded_names letters ≡ true → (tree : Tree) (P : PackageContent) → TreeStoresRest letters tree P → IsStrictlySortedBy (name_cmp letters) (child_names tree.content)
    → (name : List ℕ) → may_name letters name ≡ Ok tt
    → stream_at letters P.streams (plain_stream_name name) ≡ stream_at letters (objects tree.content) (plain_stream_name name)
found_taken letters may tree P stores rising name taken =
    let free = taken_free letters may P (plain_stream_name name) (taken_special letters name taken) (taken_unmarked letters name taken) in
    stream_found letters may P (plain_stream_name name) free tree stores rising

-- the signature's name is a path of one name
pub signature_path : option_map (map chars) (path_names signature_name) ≡ Some (signature_name ∷ [])
unfolding chars
signature_path = refl
