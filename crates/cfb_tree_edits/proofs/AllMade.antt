-- Storages that are made one below the other.
use Rattle.std.proofs.Common.{◌≡◌, ℕ, ◌+◌, ◌-◌, ◌<◌, Bool, true, false, List, [], ◌∷◌, ◌++◌, append_assoc, append-nil, chars, drop, get_or, length, take, zero, suc, refl, ap, sym, subst, ◌∙◌, arith, IsTrue}
use Rattle.std.specs.Borrow.{Bor}
use Rattle.std.specs.Prelude.{codes, None, Option, Some}
use Rattle.std.specs.Ordering.{is_eq, is_lt}
use Rattle.cfb_spec.specs.TreeRules.{create_storage, create_storage_all, done, is_accepted, refused, settled, tree_step, with_storage, with_storages, Outcome}
use Rattle.cfb_medium.specs.Times.{units_of}
use Rattle.cfb_medium.specs.declared.error.Error.{Error}
use Rattle.cfb_medium.specs.declared.error.Error.TheVariants.{AlreadyExists, InvalidInput}
use Rattle.cfb_medium.specs.declared.medium.ReadMedium.{Ghosts}
use Rattle.cfb_medium.specs.declared.timestamp.Timestamp.{Timestamp}
use Rattle.cfb_mini.specs.declared.mini_allocator.MiniAllocator.{MiniAllocator}
use Rattle.cfb_directory.specs.Views.{entries_held}
use Rattle.cfb_mini.specs.Views.{directory_of}
use Rattle.cfb_siblings.specs.Places.{path_of, path_to, LeadsTo}
use Rattle.cfb_siblings.proofs.Following.{next_name}
use Rattle.cfb_siblings.proofs.Lists.{all_parts}
use Rattle.cfb_siblings.proofs.Leading.{last_of_path, object_from_last, parent_of_path}
use Rattle.cfb_siblings.proofs.Naming.{child_here}
use Rattle.cfb_tree.specs.Changes.{added, changed, holding, last_of, made_at, parent_of, with_child}
use Rattle.cfb_tree.specs.Names.{is_name, name_cmp, CaseTable}
use Rattle.cfb_tree.specs.Objects.{a_storage, a_stream, child, is_same_name, name_of, object_at, object_from, root_object, Object}
use Rattle.cfb_tree.specs.Paths.{Path}
use Rattle.cfb_tree.specs.Tree.{nothing, storage, stream, Content, Tree}
use Rattle.cfb_tree.proofs.NameOrder.{name_cmp_total}
use Rattle.cfb_tree.proofs.NamesRead.{all_append}
use Rattle.cfb_tree_edits.specs.WholeRemoval.{HasStorage}
use Rattle.cfb_tree_edits.specs.Making.{IsFreePlace}
use Rattle.cfb_tree_edits.specs.Orphans.{StaysTidy}
use Rattle.cfb_tree_edits.specs.Parents.{AreNames, IsMadeAsFar, MakesChild, MeansAsFar}
use Rattle.cfb_tree_edits.specs.declared.making.NewObject.TheVariants.{Storage}
use Rattle.cfb_tree_edits.proofs.Below.{changed_found}
use Rattle.cfb_tree_edits.proofs.Descent.{equal_self}
use Rattle.cfb_tree_edits.proofs.NewPlaces.{length-path, step_made}

-- a path at one of its names
pub part : (path : Path) (i : ℕ) → i < length path → (x : List ℕ) × (drop i path ≡ x ∷ drop (i + 1) path) × (take (i + 1) path ≡ path_to (take i path) x)
part [] i below = absurd (omega (arith, below))
part (y ∷ ys) zero below = (y, refl, refl)
part (y ∷ ys) (suc i) below =
    let deeper = part ys i (omega (arith, below)) in
    let next : suc i + 1 ≡ suc (i + 1) = omega arith in
    (deeper.0, deeper.1 ∙ ap (λ n. deeper.0 ∷ drop n (y ∷ ys)) (sym next), ap (λ n. take n (y ∷ ys)) next ∙ ap (λ l. y ∷ l) deeper.2)

pub whole : (path : Path) (i : ℕ) → path ≡ take i path ++ drop i path
whole path zero = refl
whole [] (suc i) = refl
whole (y ∷ ys) (suc i) = ap (λ l. y ∷ l) (whole ys i)

pub back_is : (k : ℕ) (names : List (Bor (List ℕ))) → path_of (drop k names) ≡ drop k (path_of names)
back_is zero names = refl
back_is (suc k) [] = refl
back_is (suc k) (name ∷ names) = back_is k names

-- names from one on are the rest of the path
take_rest : (k : ℕ) (names : List (Bor (List ℕ))) → take (length names - k) (drop k names) ≡ drop k names
take_rest zero names = ap (λ n. take n names) (let none : length names - 0 ≡ length names = omega arith in none) ∙ take_all names
  where
    take_all : (xs : List (Bor (List ℕ))) → take (length xs) xs ≡ xs
    take_all [] = refl
    take_all (x ∷ xs) = ap (λ l. x ∷ l) (take_all xs)
take_rest (suc k) [] = ap (λ n. take n (drop (suc k) (no_names))) (let none : 0 - suc k ≡ 0 = omega arith in none)
  where
    no_names : List (Bor (List ℕ))
    no_names = []
take_rest (suc k) (name ∷ names) = ap (λ n. take n (drop k names)) (let less : suc (length names) - suc k ≡ length names - k = omega arith in less) ∙ take_rest k names

pub rest_is : (k : ℕ) (names : List (Bor (List ℕ))) → path_of (take (length names - k) (drop k names)) ≡ drop k (path_of names)
rest_is k names = ap path_of (take_rest k names) ∙ back_is k names

pub drop_end : (path : Path) → drop (length path) path ≡ []
drop_end [] = refl
drop_end (y ∷ ys) = drop_end ys

pub take_end : (path : Path) → take (length path) path ≡ path
take_end [] = refl
take_end (y ∷ ys) = ap (λ l. y ∷ l) (take_end ys)

-- one name more
module _ (names : List (Bor (List ℕ))) (i : ℕ) (d : Bor (List ℕ)) (below : i < length names) where
  here_is : drop i (path_of names) ≡ chars (get_or names i d).now ∷ drop (i + 1) (path_of names)
  here_is = sym (back_is i names) ∙ next_name names i d below ∙ ap (λ l. chars (get_or names i d).now ∷ l) (back_is (i + 1) names)

  pub within_path : i < length (path_of names)
  within_path = subst (λ n. i < n) (sym (length-path names)) below

  same_name : (part (path_of names) i within_path).0 ≡ chars (get_or names i d).now
  same_name =
      let at = part (path_of names) i within_path in
      let both : at.0 ∷ drop (i + 1) (path_of names) ≡ chars (get_or names i d).now ∷ drop (i + 1) (path_of names) = sym at.1 ∙ here_is in cc

  pub name_more : take (i + 1) (path_of names) ≡ path_to (take i (path_of names)) (chars (get_or names i d).now)
  name_more = (part (path_of names) i within_path).2 ∙ ap (path_to (take i (path_of names))) same_name

  pub names_more : AreNames (take i (path_of names)) → IsTrue (is_name (chars (get_or names i d).now)) → AreNames (take (i + 1) (path_of names))
  names_more front valid =
      let at = part (path_of names) i within_path in
      subst AreNames (sym at.2) (all_append (λ name. IsTrue (is_name name)) (take i (path_of names)) (at.0 ∷ []) front (subst (λ x. IsTrue (is_name x)) (sym same_name) valid, tt))

  pub names_here : AreNames (path_of names) → IsTrue (is_name (chars (get_or names i d).now))
  names_here all = (subst AreNames here_is (all_parts (λ name. IsTrue (is_name name)) (take i (path_of names)) (drop i (path_of names)) (subst AreNames (whole (path_of names) i) all)).1).0

pub settled_answer : (tree : Tree) (o : Outcome) → (settled tree o).1 ≡ o.1
settled_answer tree o = by_test (is_accepted o.1) refl
  where
    by_test : (b : Bool) → is_accepted o.1 ≡ b → (settled tree o).1 ≡ o.1
    by_test true is = rw is refl
    by_test false is = rw is refl

module _ (letters : CaseTable) where
  same_self : (name : List ℕ) → is_same_name letters name name ≡ true
  same_self name = ap is_eq (equal_self (name_cmp letters name name) ((name_cmp_total letters).antisymm name name))

  -- a new child is there
  child_added : (o : Object) (c : Content) → child letters c (name_of o) ≡ None → child letters (with_child letters o c) (name_of o) ≡ Some o
  child_added o nothing free = child_here letters (name_of o) o nothing (same_self (name_of o))
  child_added o (stream n s b l) free = by_order (is_lt (name_cmp letters (name_of o) n)) (is_same_name letters (name_of o) n) refl refl (child_added o l)
    where
      by_order : (first same : Bool) → is_lt (name_cmp letters (name_of o) n) ≡ first → is_same_name letters (name_of o) n ≡ same → (child letters l (name_of o) ≡ None → child letters (with_child letters o l) (name_of o) ≡ Some o)
          → child letters (with_child letters o (stream n s b l)) (name_of o) ≡ Some o
      by_order true same is names rest = rw is (child_here letters (name_of o) o (stream n s b l) (same_self (name_of o)))
      by_order false true is names rest = let taken : Some (a_stream n s b) ≡ None = sym (child_here letters (name_of o) (a_stream n s b) l names) ∙ free in absurd (cc)
      by_order false false is names rest = rw is (rw names (rest (rw names at free)))
  child_added o (storage n f i l) free = by_order (is_lt (name_cmp letters (name_of o) n)) (is_same_name letters (name_of o) n) refl refl (child_added o l)
    where
      by_order : (first same : Bool) → is_lt (name_cmp letters (name_of o) n) ≡ first → is_same_name letters (name_of o) n ≡ same → (child letters l (name_of o) ≡ None → child letters (with_child letters o l) (name_of o) ≡ Some o)
          → child letters (with_child letters o (storage n f i l)) (name_of o) ≡ Some o
      by_order true same is names rest = rw is (child_here letters (name_of o) o (storage n f i l) (same_self (name_of o)))
      by_order false true is names rest = let taken : Some (a_storage n f i) ≡ None = sym (child_here letters (name_of o) (a_storage n f i) l names) ∙ free in absurd (cc)
      by_order false false is names rest = rw is (rw names (rest (rw names at free)))

  no_child : (c : Option Object) → object_from letters c [] ≡ None → c ≡ None
  no_child None is = refl
  no_child (Some x) is = absurd (cc)

  -- nothing is at the next name
  pub next_free : (tree : Tree) (path : Path) (i : ℕ) → i < length path → object_at letters tree (take (i + 1) path) ≡ None → (x : List ℕ) (rest : Path) → drop i path ≡ x ∷ rest → object_at letters tree (path_to (take i path) x) ≡ None
  next_free tree path i below none x rest is =
      let at = part path i below in
      let both : at.0 ∷ drop (i + 1) path ≡ x ∷ rest = sym at.1 ∙ is in
      let same : at.0 ≡ x = cc in
      ap (λ y. object_at letters tree (path_to (take i path) y)) (sym same) ∙ ap (object_at letters tree) (sym at.2) ∙ none

  module _ (moment : ℕ) where
    abbrev new_storage : List ℕ → Object
    new_storage name = a_storage name (made_at moment) nothing

    -- what was refused stays so
    stays_refused : (front back : Path) (t : Tree) (e : Error) → with_storages letters moment front back (t, refused e) ≡ (t, refused e)
    stays_refused front [] t e = refl
    stays_refused front (x ∷ back) t e = stays_refused (front ++ x ∷ []) back t e

    refused_on : (front back : Path) (o : Outcome) (e : Error) → o.1 ≡ refused e → (with_storages letters moment front back o).1 ≡ refused e
    refused_on front back o e is = ap (λ a. (with_storages letters moment front back (o.0, a)).1) is ∙ ap (λ r. r.1) (stays_refused front back o.0 e)

    pub storages_joined : (front xs ys : Path) (o : Outcome) → with_storages letters moment front (xs ++ ys) o ≡ with_storages letters moment (front ++ xs) ys (with_storages letters moment front xs o)
    storages_joined front [] ys o = ap (λ f. with_storages letters moment f ys o) (sym (append-nil front))
    storages_joined front (x ∷ xs) ys o =
        storages_joined (front ++ x ∷ []) xs ys (with_storage letters moment (front ++ x ∷ []) o)
        ∙ ap (λ f. with_storages letters moment f ys (with_storages letters moment (front ++ x ∷ []) xs (with_storage letters moment (front ++ x ∷ []) o))) (append_assoc front (x ∷ []) xs)

    -- a storage that is there is passed; at a stream it is refused; else one is made
    step_passed : (t : Tree) (p : Path) → HasStorage letters t p → with_storage letters moment p (t, done) ≡ (t, done)
    step_passed t p has = let at = has.at_path in rw at refl

    step_stream : (t : Tree) (p : Path) (name : List ℕ) (bits : ℕ) (bytes : List ℕ) → object_at letters t p ≡ Some (a_stream name bits bytes) → with_storage letters moment p (t, done) ≡ (t, refused AlreadyExists)
    step_stream t p name bits bytes at = rw at refl

    step_missing : (t : Tree) (p : Path) → object_at letters t p ≡ None → with_storage letters moment p (t, done) ≡ tree_step letters t (create_storage p moment)
    step_missing t p free = rw free refl

    module _ (t : Tree) (p : Path) (x : List ℕ) (has : HasStorage letters t p) (free : object_at letters t (path_to p x) ≡ None) where
      parent_found : object_at letters t (parent_of (path_to p x)) ≡ Some (a_storage has.name has.facts has.inside)
      parent_found = ap (object_at letters t) (parent_of_path p x) ∙ has.at_path

      rule_unnamed : is_name x ≡ false → (tree_step letters t (create_storage (path_to p x) moment)).1 ≡ refused InvalidInput
      rule_unnamed invalid = let up = parent_found in let bad = ap is_name (last_of_path p x) ∙ invalid in rw free (rw up (rw bad refl))

      pub rule_made : is_name x ≡ true → tree_step letters t (create_storage (path_to p x) moment) ≡ (added letters (new_storage x) (path_to p x) t, done)
      rule_made valid =
          let up = parent_found in
          let good = ap is_name (last_of_path p x) ∙ valid in
          rw free (rw up (rw good (ap (λ n. (added letters (new_storage n) (path_to p x) t, done)) (last_of_path p x))))

      added_is : added letters (new_storage x) (path_to p x) t ≡ changed letters (holding (with_child letters (new_storage x))) (p ++ []) t
      added_is = ap (λ q. changed letters (holding (with_child letters (new_storage x))) q t) (parent_of_path p x ∙ sym (append-nil p))

      -- the new storage is there, and holds nothing
      pub made_there : object_at letters (added letters (new_storage x) (path_to p x) t) (path_to p x) ≡ Some (new_storage x)
      made_there =
          let alone : child letters has.inside x ≡ None = no_child (child letters has.inside x)
          (ap (λ o. object_from letters o (x ∷ [])) (sym has.at_path) ∙ sym (object_from_last letters (Some (root_object t)) p x) ∙ free) in
          ap (λ u. object_at letters u (path_to p x)) added_is
          ∙ object_from_last letters (Some (root_object (changed letters (holding (with_child letters (new_storage x))) (p ++ []) t))) p x
          ∙ ap (λ o. object_from letters o (x ∷ [])) (changed_found letters (with_child letters (new_storage x)) p [] t (a_storage has.name has.facts has.inside) has.at_path)
          ∙ ap (λ o. object_from letters o []) (child_added (new_storage x) has.inside alone)

      pub made_storage : HasStorage letters (added letters (new_storage x) (path_to p x) t) (path_to p x)
      made_storage = record { name = x; facts = made_at moment; inside = nothing; at_path = made_there }

      pub made_free : (y : List ℕ) → object_at letters (added letters (new_storage x) (path_to p x) t) (path_to (path_to p x) y) ≡ None
      made_free y =
          object_from_last letters (Some (root_object (added letters (new_storage x) (path_to p x) t))) (path_to p x) y
          ∙ ap (λ o. object_from letters o (y ∷ [])) made_there

    -- it is refused where a name behind it is invalid
    pub unnamed_refused : (front back : Path) (t : Tree) → HasStorage letters t front → ((x : List ℕ) (rest : Path) → back ≡ x ∷ rest → object_at letters t (path_to front x) ≡ None) → (AreNames back → ⊥)
        → (with_storages letters moment front back (t, done)).1 ≡ refused InvalidInput
    unnamed_refused front [] t has free never = absurd (never tt)
    unnamed_refused front (x ∷ back) t has free never = by_name (is_name x) refl (λ u. unnamed_refused (path_to front x) back u)
      where
        by_name : (b : Bool) → is_name x ≡ b
            → ((u : Tree) → HasStorage letters u (path_to front x) → ((y : List ℕ) (rest : Path) → back ≡ y ∷ rest → object_at letters u (path_to (path_to front x) y) ≡ None) → (AreNames back → ⊥)
            → (with_storages letters moment (path_to front x) back (u, done)).1 ≡ refused InvalidInput)
            → (with_storages letters moment front (x ∷ back) (t, done)).1 ≡ refused InvalidInput
        by_name false bad later =
            let here = free x back refl in
            refused_on (path_to front x) back (with_storage letters moment (path_to front x) (t, done)) InvalidInput
            (ap (λ o. o.1) (step_missing t (path_to front x) here) ∙ rule_unnamed t front x has here bad)
        by_name true good later =
            let here = free x back refl in
            ap (λ o. (with_storages letters moment (path_to front x) back o).1) (step_missing t (path_to front x) here ∙ rule_made t front x has here good)
            ∙ later (added letters (new_storage x) (path_to front x) t) (made_storage t front x has here) (λ y rest is. made_free t front x has here y) (λ all. never (good, all))

    -- one more is made
    module _ (tree now : Tree) (path : Path) (count : ℕ) (far : IsMadeAsFar letters moment tree path count now) (below : count < length path) where
      pub here_free : object_at letters now (take (count + 1) path) ≡ None
      here_free = let at = part path count below in ap (object_at letters now) at.2 ∙ far.free at.0 (drop (count + 1) path) at.1

      here_named : is_name (part path count below).0 ≡ true
      here_named = let at = part path count below in (subst AreNames at.1 far.valid).0

      pub more_rule : tree_step letters now (create_storage (take (count + 1) path) moment) ≡ (added letters (new_storage (part path count below).0) (path_to (take count path) (part path count below).0) now, done)
      more_rule =
          let at = part path count below in
          ap (λ p. tree_step letters now (create_storage p moment)) at.2 ∙ rule_made now (take count path) at.0 far.storage (far.free at.0 (drop (count + 1) path) at.1) here_named

      pub more_made : (later : Tree) → later ≡ (tree_step letters now (create_storage (take (count + 1) path) moment)).0 → IsMadeAsFar letters moment tree path (count + 1) later
      more_made later later_is =
          let at = part path count below in
          let free = far.free at.0 (drop (count + 1) path) at.1 in
          let is = later_is ∙ ap (λ o. o.0) more_rule in
          record {
            so_far = ap (λ p. with_storages letters moment [] p (tree, done)) at.2 ∙ storages_joined [] (take count path) (at.0 ∷ []) (tree, done) ∙ ap (with_storage letters moment (path_to (take count path) at.0)) far.so_far
                ∙ step_missing now (path_to (take count path) at.0) free ∙ rule_made now (take count path) at.0 far.storage free here_named ∙ ap (λ t. (t, done)) (sym is);
            storage = subst (HasStorage letters later) (sym at.2) (subst (λ t. HasStorage letters t (path_to (take count path) at.0)) (sym is) (made_storage now (take count path) at.0 far.storage free));
            free = λ y rest next. ap (λ p. object_at letters later (path_to p y)) at.2 ∙ ap (λ t. object_at letters t (path_to (path_to (take count path) at.0) y)) is ∙ made_free now (take count path) at.0 far.storage free y;
            valid = (subst AreNames at.1 far.valid).1;
          }

    -- all are made
    pub all_made : (tree now : Tree) (path : Path) (count : ℕ) → IsMadeAsFar letters moment tree path count now → take count path ≡ path → tree_step letters tree (create_storage_all path moment) ≡ (now, done)
    all_made tree now path count far is = ap (settled tree) (ap (λ p. with_storages letters moment [] p (tree, done)) (sym is) ∙ far.so_far)

    -- as far as storages are there, whatever the moment
    passed_more : (tree : Tree) (path : Path) (i : ℕ) → i < length path → with_storages letters moment [] (take i path) (tree, done) ≡ (tree, done) → HasStorage letters tree (take (i + 1) path) → with_storages letters moment [] (take (i + 1) path) (tree, done) ≡ (tree, done)
    passed_more tree path i below so_far has =
        let at = part path i below in
        ap (λ p. with_storages letters moment [] p (tree, done)) at.2 ∙ storages_joined [] (take i path) (at.0 ∷ []) (tree, done) ∙ ap (with_storage letters moment (path_to (take i path) at.0)) so_far
        ∙ step_passed tree (path_to (take i path) at.0) (subst (HasStorage letters tree) at.2 has)

    -- what is behind them decides
    rest_decides : (tree : Tree) (path : Path) (i : ℕ) → with_storages letters moment [] (take i path) (tree, done) ≡ (tree, done)
        → (tree_step letters tree (create_storage_all path moment)).1 ≡ (with_storages letters moment (take i path) (drop i path) (tree, done)).1
    rest_decides tree path i so_far =
        settled_answer tree (with_storages letters moment [] path (tree, done))
        ∙ ap (λ p. (with_storages letters moment [] p (tree, done)).1) (whole path i)
        ∙ ap (λ o. o.1) (storages_joined [] (take i path) (drop i path) (tree, done))
        ∙ ap (λ o. (with_storages letters moment (take i path) (drop i path) o).1) so_far

    pub stream_refused : (tree : Tree) (path : Path) (i : ℕ) → i < length path → with_storages letters moment [] (take i path) (tree, done) ≡ (tree, done)
        → (name : List ℕ) (bits : ℕ) (bytes : List ℕ) → object_at letters tree (take (i + 1) path) ≡ Some (a_stream name bits bytes) → (tree_step letters tree (create_storage_all path moment)).1 ≡ refused AlreadyExists
    stream_refused tree path i below so_far name bits bytes is =
        let at = part path i below in
        rest_decides tree path i so_far ∙ ap (λ ys. (with_storages letters moment (take i path) ys (tree, done)).1) at.1
        ∙ refused_on (path_to (take i path) at.0) (drop (i + 1) path) (with_storage letters moment (path_to (take i path) at.0) (tree, done)) AlreadyExists
        (ap (λ o. o.1) (step_stream tree (path_to (take i path) at.0) name bits bytes (ap (object_at letters tree) (sym at.2) ∙ is)))

    pub name_refused : (tree : Tree) (path : Path) (i : ℕ) → i < length path → with_storages letters moment [] (take i path) (tree, done) ≡ (tree, done) → HasStorage letters tree (take i path)
        → object_at letters tree (take (i + 1) path) ≡ None → (AreNames (drop i path) → ⊥) → (tree_step letters tree (create_storage_all path moment)).1 ≡ refused InvalidInput
    name_refused tree path i below so_far has none never =
        rest_decides tree path i so_far ∙ unnamed_refused (take i path) (drop i path) tree has (next_free tree path i below none) never

  -- as far as storages are there
  pub record IsThereAsFar (tree : Tree) (path : Path) (i : ℕ) : Type 0 where
    pub passed : (moment : ℕ) → with_storages letters moment [] (take i path) (tree, done) ≡ (tree, done)
    pub storage : HasStorage letters tree (take i path)

  pub there_first : (tree : Tree) (path : Path) → IsThereAsFar tree path 0
  there_first tree path = record { passed = λ moment. refl; storage = record { name = codes "Root Entry"; facts = tree.root; inside = tree.content; at_path = refl } }

  pub there_more : (tree : Tree) (path : Path) (i : ℕ) → i < length path → IsThereAsFar tree path i → HasStorage letters tree (take (i + 1) path) → IsThereAsFar tree path (i + 1)
  there_more tree path i below far has = record { passed = λ moment. passed_more moment tree path i below (far.passed moment) has; storage = has }

module _ {F : Type 0} {g : Ghosts F} (letters : CaseTable) (moment : Timestamp) (tree : Tree) (path : Path) (count top : ℕ) (old : MiniAllocator F g) (so : MeansAsFar letters (units_of moment) tree path count top old) (below : count < length path)
    (x : List ℕ) (next : take (count + 1) path ≡ path_to (take count path) x) where
  -- one more can be made
  pub next_place : IsFreePlace letters (entries_held (directory_of old)) so.now (path_to (take count path) x) top
  next_place =
      let front = take count path in
      let at = part path count below in
      let same : at.0 ≡ last_of (path_to front x) = sym (last_of_path front at.0) ∙ ap last_of (sym at.2 ∙ next) in
      let free = ap (object_at letters so.now) (sym next) ∙ here_free letters (units_of moment) tree so.now path count so.far below in
      let valid = ap is_name (sym same) ∙ here_named letters (units_of moment) tree so.now path count so.far below in
      let has = so.far.storage in
      record {
        free = free;
        storage = record { leads = subst (λ p. LeadsTo letters (entries_held (directory_of old)) 0 p top) (sym (parent_of_path front x)) so.storage.leads; owner = so.storage.owner };
        valid = valid;
        rule = step_made letters so.now (path_to front x) free has.name has.facts has.inside (ap (object_at letters so.now) (parent_of_path front x) ∙ has.at_path) valid;
      }

  -- the file means the tree in which it is made
  pub as_far_more : (new : MiniAllocator F g) (id : ℕ) → MakesChild letters (path_to (take count path) x) (Storage moment) so.now old new so.means.who id → MeansAsFar letters (units_of moment) tree path (count + 1) id new
  as_far_more new id made = record {
    now = (tree_step letters so.now (create_storage (path_to (take count path) x) (units_of moment))).0;
    far = more_made letters (units_of moment) tree so.now path count so.far below (tree_step letters so.now (create_storage (path_to (take count path) x) (units_of moment))).0
        (ap (λ q. (tree_step letters so.now (create_storage q (units_of moment))).0) (sym next));
    means = made.makes.comes.means;
    storage = record {
      leads = subst (λ q. LeadsTo letters (entries_held (directory_of new)) 0 q id) (sym next) made.leads;
      owner = record { entry = made.entry; found = made.found; holds = λ kind. let is = made.of_kind in absurd (omega (arith, is, kind)) };
    };
  }

  pub as_far_strays : (new : MiniAllocator F g) (id : ℕ) → (made : MakesChild letters (path_to (take count path) x) (Storage moment) so.now old new so.means.who id) → StaysTidy old new so.means.who (as_far_more new id made).means.who
  unfolding as_far_more
  as_far_strays new id made = made.makes.comes.strays
