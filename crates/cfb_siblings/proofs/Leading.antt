-- Paths, one name longer.
use Rattle.std.proofs.Common.{◌≡◌, ℕ, ◌-◌, List, [], ◌∷◌, ◌++◌, refl, sym, ◌∙◌, ap, length, take, length-append, arith}
use Rattle.std.specs.Prelude.{Option, Some, None}
use Rattle.cfb_tree.specs.Names.{CaseTable}
use Rattle.cfb_tree.specs.Paths.{Path}
use Rattle.cfb_tree.specs.Directory.{Entry}
use Rattle.cfb_tree.specs.Objects.{Object, inside_of, child, object_from}
use Rattle.cfb_tree.specs.Changes.{parent_of, last_of}
use Rattle.cfb_siblings.specs.Places.{IsChild, LeadsTo, path_to}
use Rattle.cfb_siblings.proofs.Following.{object_from_none}

pub object_from_last : (letters : CaseTable) (o : Option Object) (above : Path) (wanted : List ℕ)
    → object_from letters o (path_to above wanted) ≡ object_from letters (object_from letters o above) (wanted ∷ [])
object_from_last letters None above wanted =
    object_from_none letters (above ++ wanted ∷ []) ∙ ap (λ x. object_from letters x (wanted ∷ [])) (sym (object_from_none letters above))
object_from_last letters (Some o) [] wanted = refl
object_from_last letters (Some o) (name ∷ names) wanted = object_from_last letters (child letters (inside_of o) name) names wanted

pub leads_on : (letters : CaseTable) (directory : List Entry) (names : Path) (start parent : ℕ) (wanted : List ℕ) (id : ℕ)
    → LeadsTo letters directory start names parent → IsChild letters directory parent wanted id → LeadsTo letters directory start (path_to names wanted) id
leads_on letters directory [] start parent wanted id is child = (id, rw is at child, refl)
leads_on letters directory (name ∷ names) start parent wanted id (next, first, rest) child =
    (next, first, leads_on letters directory names next parent wanted id rest child)

pub parent_of_path : (path : Path) (name : List ℕ) → parent_of (path_to path name) ≡ path
parent_of_path path name =
    ap (λ n. take n (path ++ name ∷ [])) (let is : length (path ++ name ∷ []) - 1 ≡ length path = omega (arith, length-append path (name ∷ [])) in is)
    ∙ take_front path (name ∷ [])
  where
    take_front : (xs ys : Path) → take (length xs) (xs ++ ys) ≡ xs
    take_front [] ys = refl
    take_front (x ∷ xs) ys = ap (λ zs. x ∷ zs) (take_front xs ys)

pub last_of_path : (path : Path) (name : List ℕ) → last_of (path_to path name) ≡ name
last_of_path [] name = refl
last_of_path (first ∷ []) name = refl
last_of_path (first ∷ next ∷ names) name = last_of_path (next ∷ names) name
