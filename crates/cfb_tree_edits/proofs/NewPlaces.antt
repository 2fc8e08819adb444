-- Where an object can be made, and what the rules say of it.
use Rattle.std.proofs.Common.{◌≡◌, ℕ, ◌-◌, ◌<◌, Bool, true, false, List, [], ◌∷◌, length, take, get_or, zero, suc, refl, ap, sym, ◌∙◌, arith, chars, IsTrue}
use Rattle.std.specs.Borrow.{Bor}
use Rattle.std.specs.Prelude.{None, Some}
use Rattle.cfb_spec.specs.TreeRules.{done, refused, tree_step}
use Rattle.cfb_medium.specs.declared.error.Error.TheVariants.{AlreadyExists, InvalidInput, NotFound}
use Rattle.cfb_siblings.specs.Places.{path_of}
use Rattle.cfb_tree.specs.Changes.{added, last_of, parent_of}
use Rattle.cfb_tree.specs.Names.{is_name, CaseTable}
use Rattle.cfb_tree.specs.Objects.{a_storage, a_stream, object_at, Object}
use Rattle.cfb_tree.specs.Paths.{Path}
use Rattle.cfb_tree.specs.Tree.{Content, Facts, Tree}
use Rattle.cfb_tree_edits.specs.Making.{making, object_of}
use Rattle.cfb_tree_edits.proofs.FactRules.{MatchObject}
use Rattle.cfb_tree_edits.specs.declared.making.NewObject.{NewObject}
use Rattle.cfb_tree_edits.specs.declared.making.NewObject.TheVariants.{Storage, Stream}

pub front_is : (k : ℕ) (names : List (Bor (List ℕ))) → path_of (take k names) ≡ take k (path_of names)
front_is zero names = refl
front_is (suc k) [] = refl
front_is (suc k) (name ∷ names) = ap (λ l. chars name.now ∷ l) (front_is k names)

pub length-path : (names : List (Bor (List ℕ))) → length (path_of names) ≡ length names
length-path [] = refl
length-path (name ∷ names) = ap suc (length-path names)

pub parent_is : (names : List (Bor (List ℕ))) → path_of (take (length names - 1) names) ≡ parent_of (path_of names)
parent_is names = front_is (length names - 1) names ∙ ap (λ n. take (n - 1) (path_of names)) (sym (length-path names))

pub last_is : (names : List (Bor (List ℕ))) (other : Bor (List ℕ)) → 0 < length names → last_of (path_of names) ≡ chars (get_or names (length names - 1) other).now
last_is [] other some = absurd (omega (arith, some))
last_is (name ∷ []) other some = refl
last_is (name ∷ next ∷ names) other some =
    let n = length names in
    let one : suc (suc n) - 1 ≡ suc n = omega arith in
    let two : suc n - 1 ≡ n = omega arith in
    last_is (next ∷ names) other (omega arith) ∙ ap (λ k. chars (get_or (next ∷ names) k other).now) two ∙ ap (λ k. chars (get_or (name ∷ next ∷ names) k other).now) (sym one)

-- a name that isn't valid
pub invalid_is : (b : Bool) → (IsTrue b → ⊥) → b ≡ false
invalid_is true never = absurd (never refl)
invalid_is false never = refl

-- what an object is, by its entry's kind
pub stream_of : {K : Type 0} (o : Object) → MatchObject o K (K → ⊥) → K → (name : List ℕ) × (bits : ℕ) × (bytes : List ℕ) × (o ≡ a_stream name bits bytes)
stream_of {K} (a_stream name bits bytes) is kind = (name, bits, bytes, refl)
stream_of {K} (a_storage name facts inside) never kind = absurd (never kind)

pub storage_of : {K : Type 0} (o : Object) → MatchObject o K (K → ⊥) → (K → ⊥) → (name : List ℕ) × (facts : Facts) × (inside : Content) × (o ≡ a_storage name facts inside)
storage_of {K} (a_stream name bits bytes) is never = absurd (never is)
storage_of {K} (a_storage name facts inside) other never = (name, facts, inside, refl)

module _ (letters : CaseTable) (tree : Tree) (path : Path) where
  pub step_taken : (o : Object) → object_at letters tree path ≡ Some o → (object : NewObject) → (tree_step letters tree (making object path)).1 ≡ refused AlreadyExists
  step_taken o at Stream = rw at refl
  step_taken o at (Storage moment) = rw at refl

  module _ (free : object_at letters tree path ≡ None) where
    pub step_orphan : object_at letters tree (parent_of path) ≡ None → (object : NewObject) → (tree_step letters tree (making object path)).1 ≡ refused NotFound
    step_orphan up Stream = rw free (rw up refl)
    step_orphan up (Storage moment) = rw free (rw up refl)

    pub step_under_stream : (name : List ℕ) (bits : ℕ) (bytes : List ℕ) → object_at letters tree (parent_of path) ≡ Some (a_stream name bits bytes) → (object : NewObject) → (tree_step letters tree (making object path)).1 ≡ refused InvalidInput
    step_under_stream name bits bytes up Stream = rw free (rw up refl)
    step_under_stream name bits bytes up (Storage moment) = rw free (rw up refl)

    pub step_unnamed : (name : List ℕ) (facts : Facts) (inside : Content) → object_at letters tree (parent_of path) ≡ Some (a_storage name facts inside) → is_name (last_of path) ≡ false → (object : NewObject) → (tree_step letters tree (making object path)).1 ≡ refused InvalidInput
    step_unnamed name facts inside up invalid Stream = rw free (rw up (rw invalid refl))
    step_unnamed name facts inside up invalid (Storage moment) = rw free (rw up (rw invalid refl))

    pub step_made : (name : List ℕ) (facts : Facts) (inside : Content) → object_at letters tree (parent_of path) ≡ Some (a_storage name facts inside) → is_name (last_of path) ≡ true → (object : NewObject)
        → tree_step letters tree (making object path) ≡ (added letters (object_of object (last_of path)) path tree, done)
    step_made name facts inside up valid Stream = rw free (rw up (rw valid refl))
    step_made name facts inside up valid (Storage moment) = rw free (rw up (rw valid refl))
