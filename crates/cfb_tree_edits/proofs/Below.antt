-- Trees that lose an object below the one at a path.
use Rattle.std.proofs.Common.{◌≡◌, ℕ, ◌+◌, ◌<◌, Bool, true, false, List, [], ◌∷◌, ◌++◌, append_assoc, refl, ap, sym, subst, ◌∙◌, arith}
use Rattle.std.specs.Prelude.{None, Option, Some}
use Rattle.cfb_tree.specs.Changes.{changed, changed_below, holding, last_of, parent_of, removed, with_changed, without_child}
use Rattle.cfb_tree.specs.Names.{CaseTable}
use Rattle.cfb_tree.specs.Objects.{a_storage, a_stream, before, child, inside_of, is_same_name, name_of, object_at, object_from, root_object, tree_of, Object}
use Rattle.cfb_tree.specs.Paths.{Path}
use Rattle.cfb_tree.specs.Tree.{nothing, storage, stream, Content, Tree}
use Rattle.cfb_tree.proofs.OneContent.{Some_same}
use Rattle.cfb_siblings.specs.Places.{path_to}
use Rattle.cfb_siblings.proofs.Leading.{last_of_path, parent_of_path}
use Rattle.cfb_siblings.proofs.Naming.{child_here, without_here}
use Rattle.cfb_tree_edits.specs.WholeRemoval.{HasEmptyStorage, HasStorage}
use Rattle.cfb_entries.proofs.Others.{path_is}

-- how many objects a content has, at all depths
abbrev pub size : Content → ℕ
size nothing = 0
size (stream name bits bytes later) = size later + 1
size (storage name facts inside later) = size inside + size later + 1

size_before : (o : Object) (later : Content) → size (before o later) ≡ size (before o nothing) + size later
size_before (a_stream n s x) later = omega arith
size_before (a_storage n f i) later = omega arith

module _ (letters : CaseTable) where
  -- the change of a child is at the front
  changed_here : (wanted : List ℕ) (change : Object → Object) (o : Object) (later : Content) → is_same_name letters wanted (name_of o) ≡ true
      → with_changed letters wanted change (before o later) ≡ before (change o) later
  changed_here wanted change (a_stream n s x) later same = rw same
  changed_here wanted change (a_storage n f i) later same = rw same

  module _ (wanted : List ℕ) (change : Object → Object) (named : (o : Object) → name_of (change o) ≡ name_of o) where
    same_still : (o : Object) → is_same_name letters wanted (name_of o) ≡ true → is_same_name letters wanted (name_of (change o)) ≡ true
    same_still o same = ap (is_same_name letters wanted) (named o) ∙ same

    -- what was changed of a child is lost where the next change hides it
    pub changed_twice : (other : Object → Object) → ((o : Object) → other (change o) ≡ other o) → (c : Content)
        → with_changed letters wanted other (with_changed letters wanted change c) ≡ with_changed letters wanted other c
    changed_twice other hides nothing = refl
    changed_twice other hides (stream n s x l) = by_name (is_same_name letters wanted n) refl (changed_twice other hides l)
      where
        by_name : (b : Bool) → is_same_name letters wanted n ≡ b → with_changed letters wanted other (with_changed letters wanted change l) ≡ with_changed letters wanted other l → with_changed letters wanted other (with_changed letters wanted change (stream n s x l)) ≡ with_changed letters wanted other (stream n s x l)
        by_name true same rest =
            ap (with_changed letters wanted other) (changed_here wanted change (a_stream n s x) l same)
            ∙ changed_here wanted other (change (a_stream n s x)) l (same_still (a_stream n s x) same)
            ∙ ap (λ o. before o l) (hides (a_stream n s x)) ∙ sym (changed_here wanted other (a_stream n s x) l same)
        by_name false differ rest = rw differ (rw differ (ap (stream n s x) rest))
    changed_twice other hides (storage n f i l) = by_name (is_same_name letters wanted n) refl (changed_twice other hides l)
      where
        by_name : (b : Bool) → is_same_name letters wanted n ≡ b → with_changed letters wanted other (with_changed letters wanted change l) ≡ with_changed letters wanted other l → with_changed letters wanted other (with_changed letters wanted change (storage n f i l)) ≡ with_changed letters wanted other (storage n f i l)
        by_name true same rest =
            ap (with_changed letters wanted other) (changed_here wanted change (a_storage n f i) l same)
            ∙ changed_here wanted other (change (a_storage n f i)) l (same_still (a_storage n f i) same)
            ∙ ap (λ o. before o l) (hides (a_storage n f i)) ∙ sym (changed_here wanted other (a_storage n f i) l same)
        by_name false differ rest = rw differ (rw differ (ap (storage n f i) rest))

    -- and where the child is taken out
    changed_lost : (c : Content) → without_child letters wanted (with_changed letters wanted change c) ≡ without_child letters wanted c
    changed_lost nothing = refl
    changed_lost (stream n s x l) = by_name (is_same_name letters wanted n) refl (changed_lost l)
      where
        by_name : (b : Bool) → is_same_name letters wanted n ≡ b → without_child letters wanted (with_changed letters wanted change l) ≡ without_child letters wanted l → without_child letters wanted (with_changed letters wanted change (stream n s x l)) ≡ without_child letters wanted (stream n s x l)
        by_name true same rest =
            ap (without_child letters wanted) (changed_here wanted change (a_stream n s x) l same)
            ∙ without_here letters wanted (change (a_stream n s x)) l (same_still (a_stream n s x) same)
            ∙ sym (without_here letters wanted (a_stream n s x) l same)
        by_name false differ rest = rw differ (rw differ (ap (stream n s x) rest))
    changed_lost (storage n f i l) = by_name (is_same_name letters wanted n) refl (changed_lost l)
      where
        by_name : (b : Bool) → is_same_name letters wanted n ≡ b → without_child letters wanted (with_changed letters wanted change l) ≡ without_child letters wanted l → without_child letters wanted (with_changed letters wanted change (storage n f i l)) ≡ without_child letters wanted (storage n f i l)
        by_name true same rest =
            ap (without_child letters wanted) (changed_here wanted change (a_storage n f i) l same)
            ∙ without_here letters wanted (change (a_storage n f i)) l (same_still (a_storage n f i) same)
            ∙ sym (without_here letters wanted (a_storage n f i) l same)
        by_name false differ rest = rw differ (rw differ (ap (storage n f i) rest))

    -- the child is the changed one
    changed_child : (c : Content) (x : Object) → child letters c wanted ≡ Some x → child letters (with_changed letters wanted change c) wanted ≡ Some (change x)
    changed_child nothing x at = absurd (cc)
    changed_child (stream n s b l) x at = by_name (is_same_name letters wanted n) refl (changed_child l x)
      where
        by_name : (t : Bool) → is_same_name letters wanted n ≡ t → (child letters l wanted ≡ Some x → child letters (with_changed letters wanted change l) wanted ≡ Some (change x)) → child letters (with_changed letters wanted change (stream n s b l)) wanted ≡ Some (change x)
        by_name true same rest =
            let here : Some (a_stream n s b) ≡ Some x = sym (child_here letters wanted (a_stream n s b) l same) ∙ at in
            let is : a_stream n s b ≡ x = cc in
            ap (λ d. child letters d wanted) (changed_here wanted change (a_stream n s b) l same)
            ∙ child_here letters wanted (change (a_stream n s b)) l (same_still (a_stream n s b) same) ∙ ap (λ o. Some (change o)) is
        by_name false differ rest = rw differ (rw differ (rest (rw differ at at)))
    changed_child (storage n f i l) x at = by_name (is_same_name letters wanted n) refl (changed_child l x)
      where
        by_name : (t : Bool) → is_same_name letters wanted n ≡ t → (child letters l wanted ≡ Some x → child letters (with_changed letters wanted change l) wanted ≡ Some (change x)) → child letters (with_changed letters wanted change (storage n f i l)) wanted ≡ Some (change x)
        by_name true same rest =
            let here : Some (a_storage n f i) ≡ Some x = sym (child_here letters wanted (a_storage n f i) l same) ∙ at in
            let is : a_storage n f i ≡ x = cc in
            ap (λ d. child letters d wanted) (changed_here wanted change (a_storage n f i) l same)
            ∙ child_here letters wanted (change (a_storage n f i)) l (same_still (a_storage n f i) same) ∙ ap (λ o. Some (change o)) is
        by_name false differ rest = rw differ (rw differ (rest (rw differ at at)))

  -- a child that gets smaller makes the content smaller
  changed_smaller : (wanted : List ℕ) (change : Object → Object) (c : Content) (x : Object) → child letters c wanted ≡ Some x → name_of (change x) ≡ name_of x
      → size (before (change x) nothing) < size (before x nothing) → size (with_changed letters wanted change c) < size c
  changed_smaller wanted change nothing x at named less = absurd (cc)
  changed_smaller wanted change (stream n s b l) x at named less = by_name (is_same_name letters wanted n) refl (λ there. changed_smaller wanted change l x there named less)
    where
      by_name : (t : Bool) → is_same_name letters wanted n ≡ t → (child letters l wanted ≡ Some x → size (with_changed letters wanted change l) < size l) → size (with_changed letters wanted change (stream n s b l)) < size (stream n s b l)
      by_name true same rest =
          let here : Some (a_stream n s b) ≡ Some x = sym (child_here letters wanted (a_stream n s b) l same) ∙ at in
          let is : x ≡ a_stream n s b = cc in
          let whole = changed_here wanted change (a_stream n s b) l same in
          let smaller = subst (λ o. size (before (change o) nothing) < size (before o nothing)) is less in
          let one = size_before (change (a_stream n s b)) l in
          let other = size_before (a_stream n s b) l in
          let both = ap size whole in
          omega (arith, smaller, one, other, both)
      by_name false differ rest = rw differ (let fewer = rest (rw differ at at) in omega (arith, fewer))
  changed_smaller wanted change (storage n f i l) x at named less = by_name (is_same_name letters wanted n) refl (λ there. changed_smaller wanted change l x there named less)
    where
      by_name : (t : Bool) → is_same_name letters wanted n ≡ t → (child letters l wanted ≡ Some x → size (with_changed letters wanted change l) < size l) → size (with_changed letters wanted change (storage n f i l)) < size (storage n f i l)
      by_name true same rest =
          let here : Some (a_storage n f i) ≡ Some x = sym (child_here letters wanted (a_storage n f i) l same) ∙ at in
          let is : x ≡ a_storage n f i = cc in
          let whole = changed_here wanted change (a_storage n f i) l same in
          let smaller = subst (λ o. size (before (change o) nothing) < size (before o nothing)) is less in
          let one = size_before (change (a_storage n f i)) l in
          let other = size_before (a_storage n f i) l in
          let both = ap size whole in
          omega (arith, smaller, one, other, both)
      by_name false differ rest = rw differ (let fewer = rest (rw differ at at) in omega (arith, fewer))

  -- one that is taken out makes it smaller
  taken_smaller : (wanted : List ℕ) (c : Content) (x : Object) → child letters c wanted ≡ Some x → size (without_child letters wanted c) < size c
  taken_smaller wanted nothing x at = absurd (cc)
  taken_smaller wanted (stream n s b l) x at = by_name (is_same_name letters wanted n) refl (taken_smaller wanted l x)
    where
      by_name : (t : Bool) → is_same_name letters wanted n ≡ t → (child letters l wanted ≡ Some x → size (without_child letters wanted l) < size l) → size (without_child letters wanted (stream n s b l)) < size (stream n s b l)
      by_name true same rest = rw same (omega arith)
      by_name false differ rest = rw differ (let fewer = rest (rw differ at at) in omega (arith, fewer))
  taken_smaller wanted (storage n f i l) x at = by_name (is_same_name letters wanted n) refl (taken_smaller wanted l x)
    where
      by_name : (t : Bool) → is_same_name letters wanted n ≡ t → (child letters l wanted ≡ Some x → size (without_child letters wanted l) < size l) → size (without_child letters wanted (storage n f i l)) < size (storage n f i l)
      by_name true same rest = rw same (omega arith)
      by_name false differ rest = rw differ (let fewer = rest (rw differ at at) in omega (arith, fewer))

  -- an object with something taken out of what it holds, at a path below it
  abbrev less : Path → List ℕ → Object → Object
  less names wanted = changed_below letters (holding (without_child letters wanted)) names

  -- one of which what it holds at a path below it was changed
  abbrev pub inner : (Content → Content) → Path → Object → Object
  inner h names = changed_below letters (holding h) names

  inner_named : (h : Content → Content) (names : Path) (o : Object) → name_of (inner h names o) ≡ name_of o
  inner_named h [] (a_stream n s x) = refl
  inner_named h [] (a_storage n f i) = refl
  inner_named h (name ∷ names) (a_stream n s x) = refl
  inner_named h (name ∷ names) (a_storage n f i) = refl

  less_named : (names : Path) (wanted : List ℕ) (o : Object) → name_of (less names wanted o) ≡ name_of o
  less_named names wanted = inner_named (without_child letters wanted) names

  -- what was taken out below an object is lost where the object is
  less_twice : (up : Path) (lost : List ℕ) (more : Path) (wanted : List ℕ) (o : Object) → less up lost (less (up ++ lost ∷ more) wanted o) ≡ less up lost o
  less_twice [] lost more wanted (a_stream n s x) = refl
  less_twice [] lost more wanted (a_storage n f i) = ap (a_storage n f) (changed_lost lost (less more wanted) (less_named more wanted) i)
  less_twice (name ∷ names) lost more wanted (a_stream n s x) = refl
  less_twice (name ∷ names) lost more wanted (a_storage n f i) =
      ap (a_storage n f) (changed_twice name (less (names ++ lost ∷ more) wanted) (less_named (names ++ lost ∷ more) wanted) (less names lost) (less_twice names lost more wanted) i)

  nothing_from : (names : Path) → object_from letters None names ≡ None
  nothing_from [] = refl
  nothing_from (name ∷ names) = refl

  -- the child to which a path goes on
  first_child : (c : Content) (name : List ℕ) (names : Path) (x : Object) → object_from letters (child letters c name) names ≡ Some x → (y : Object) × (child letters c name ≡ Some y) × (object_from letters (Some y) names ≡ Some x)
  first_child c name names x at = by_child (child letters c name) refl
    where
      by_child : (o : Option Object) → child letters c name ≡ o → (y : Object) × (child letters c name ≡ Some y) × (object_from letters (Some y) names ≡ Some x)
      by_child None is = let never : None ≡ Some x = sym (nothing_from names) ∙ ap (λ o. object_from letters o names) (sym is) ∙ at in absurd (cc)
      by_child (Some y) is = (y, is, ap (λ o. object_from letters o names) (sym is) ∙ at)

  -- the object at a path, after a change at it or below it
  inner_found : (h : Content → Content) (path more : Path) (o x : Object) → object_from letters (Some o) path ≡ Some x
      → object_from letters (Some (inner h (path ++ more) o)) path ≡ Some (inner h more x)
  inner_found h [] more o x at = let is : o ≡ x = cc in ap (λ y. Some (inner h more y)) is
  inner_found h (name ∷ names) more (a_stream n s b) x at = let never : None ≡ Some x = sym (nothing_from names) ∙ at in absurd (cc)
  inner_found h (name ∷ names) more (a_storage n f i) x at =
      let first = first_child i name names x at in
      ap (λ c. object_from letters c names) (changed_child name (inner h (names ++ more)) (inner_named h (names ++ more)) i first.0 first.1)
      ∙ inner_found h names more first.0 x first.2

  -- where an object is, something is taken out
  less_smaller : (path : Path) (wanted : List ℕ) (o x : Object) → object_from letters (Some o) (path_to path wanted) ≡ Some x
      → size (before (less path wanted o) nothing) < size (before o nothing)
  less_smaller [] wanted (a_stream n s b) x at = absurd (cc)
  less_smaller [] wanted (a_storage n f i) x at =
      let first = first_child i wanted [] x at in
      let smaller = taken_smaller wanted i first.0 first.1 in omega (arith, smaller)
  less_smaller (name ∷ names) wanted (a_stream n s b) x at = let never : None ≡ Some x = sym (nothing_from (path_to names wanted)) ∙ at in absurd (cc)
  less_smaller (name ∷ names) wanted (a_storage n f i) x at =
      let first = first_child i name (path_to names wanted) x at in
      let deeper = less_smaller names wanted first.0 x first.2 in
      let smaller = changed_smaller name (less names wanted) i first.0 first.1 (less_named names wanted first.0) deeper in omega (arith, smaller)

  -- the same of trees
  root_of_inner : (h : Content → Content) (names : Path) (tree : Tree) → root_object (tree_of tree (inner h names (root_object tree))) ≡ inner h names (root_object tree)
  root_of_inner h [] tree = refl
  root_of_inner h (name ∷ names) tree = refl

  root_of_less : (names : Path) (wanted : List ℕ) (tree : Tree) → root_object (tree_of tree (less names wanted (root_object tree))) ≡ less names wanted (root_object tree)
  root_of_less names wanted = root_of_inner (without_child letters wanted) names

  -- LAW: the object at a path, in the tree with such a change
  pub changed_found : (h : Content → Content) (path more : Path) (tree : Tree) (x : Object) → object_at letters tree path ≡ Some x → object_at letters (changed letters (holding h) (path ++ more) tree) path ≡ Some (inner h more x)
  changed_found h path more tree x at = ap (λ o. object_from letters (Some o) path) (root_of_inner h (path ++ more) tree) ∙ inner_found h path more (root_object tree) x at

  removed_is : (path : Path) (wanted : List ℕ) (tree : Tree) → removed letters (path_to path wanted) tree ≡ tree_of tree (less path wanted (root_object tree))
  removed_is [] wanted tree = ap (λ q. changed letters (holding (without_child letters wanted)) q tree) (parent_of_path [] wanted)
  removed_is (name ∷ names) wanted tree =
      ap (λ n. changed letters (holding (without_child letters n)) (parent_of (path_to (name ∷ names) wanted)) tree) (last_of_path (name ∷ names) wanted)
      ∙ ap (λ q. changed letters (holding (without_child letters wanted)) q tree) (parent_of_path (name ∷ names) wanted)

  other_root : (names : Path) (wanted : List ℕ) (tree other : Tree) → tree_of other (less names wanted (root_object tree)) ≡ tree_of tree (less names wanted (root_object tree))
  other_root [] wanted tree other = refl
  other_root (name ∷ names) wanted tree other = refl

  lost_below : (up : Path) (lost : List ℕ) (more : Path) (wanted : List ℕ) (tree : Tree) → removed letters (path_to up lost) (removed letters (path_to (path_to up lost ++ more) wanted) tree) ≡ removed letters (path_to up lost) tree
  lost_below up lost more wanted tree =
      let q = up ++ lost ∷ more in
      let t = tree_of tree (less q wanted (root_object tree)) in
      ap (λ r. removed letters (path_to up lost) (removed letters (path_to r wanted) tree)) (append_assoc up (lost ∷ []) more)
      ∙ ap (removed letters (path_to up lost)) (removed_is q wanted tree)
      ∙ removed_is up lost t
      ∙ ap (λ o. tree_of t (less up lost o)) (root_of_less q wanted tree)
      ∙ ap (tree_of t) (less_twice up lost more wanted (root_object tree))
      ∙ other_root up lost tree t
      ∙ sym (removed_is up lost tree)

  -- LAW: to remove an object below a path, and then the path's object, is to remove the path's object
  pub removed_below : (path more : Path) (wanted : List ℕ) (tree : Tree) → removed letters path (removed letters (path_to (path ++ more) wanted) tree) ≡ removed letters path tree
  removed_below [] [] wanted tree = ap (removed letters []) (removed_is [] wanted tree)
  removed_below [] (name ∷ names) wanted tree = ap (removed letters []) (removed_is (name ∷ names) wanted tree)
  removed_below (first ∷ names) more wanted tree =
      subst (λ p. removed letters p (removed letters (path_to (p ++ more) wanted) tree) ≡ removed letters p tree) (path_is (first ∷ names) (omega arith))
      (lost_below (parent_of (first ∷ names)) (last_of (first ∷ names)) more wanted tree)

  -- LAW: a storage stays one when an object below it is removed
  pub storage_stays : (path more : Path) (wanted : List ℕ) (tree : Tree) → HasStorage letters tree path → HasStorage letters (removed letters (path_to (path ++ more) wanted) tree) path
  storage_stays path more wanted tree at =
      let q = path ++ more in
      let found : object_at letters (removed letters (path_to q wanted) tree) path ≡ Some (less more wanted (a_storage at.name at.facts at.inside)) =
      ap (λ t. object_at letters t path) (removed_is q wanted tree) ∙ ap (λ o. object_from letters (Some o) path) (root_of_less q wanted tree)
      ∙ inner_found (without_child letters wanted) path more (root_object tree) (a_storage at.name at.facts at.inside) at.at_path in
      as_storage more found
    where
      as_storage : (more' : Path) → object_at letters (removed letters (path_to (path ++ more) wanted) tree) path ≡ Some (less more' wanted (a_storage at.name at.facts at.inside))
          → HasStorage letters (removed letters (path_to (path ++ more) wanted) tree) path
      as_storage [] found = record { name = at.name; facts = at.facts; inside = without_child letters wanted at.inside; at_path = found }
      as_storage (name ∷ names) found = record { name = at.name; facts = at.facts; inside = with_changed letters name (less names wanted) at.inside; at_path = found }

  -- LAW: the tree has fewer objects then
  pub removed_smaller : (path : Path) (wanted : List ℕ) (tree : Tree) (x : Object) → object_at letters tree (path_to path wanted) ≡ Some x → size (removed letters (path_to path wanted) tree).content < size tree.content
  removed_smaller path wanted tree x at =
      let smaller = less_smaller path wanted (root_object tree) x at in
      let t = tree_of tree (less path wanted (root_object tree)) in
      let whole : size (before (root_object t) nothing) < size (before (root_object tree) nothing) =
      subst (λ o. size (before o nothing) < size (before (root_object tree) nothing)) (sym (root_of_less path wanted tree)) smaller in
      let fewer : size t.content < size tree.content = omega (arith, whole) in
      subst (λ u. size u.content < size tree.content) (sym (removed_is path wanted tree)) fewer

  -- LAW: a root that holds nothing is as if it were emptied
  pub emptied_root : (now tree : Tree) → removed letters [] now ≡ removed letters [] tree → HasEmptyStorage letters now [] → now ≡ removed letters [] tree
  emptied_root now tree same at =
      let is = at.at_path in
      let none : now.content ≡ nothing = ap inside_of (Some_same is) in
      ap (λ c. record { root = now.root; content = c }) none ∙ same
