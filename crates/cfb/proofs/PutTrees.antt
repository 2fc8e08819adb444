-- A stream that is made, and then gets its bytes.
use Rattle.std.proofs.Common.{◌≡◌, ℕ, ◌<◌, Bool, true, false, List, [], ◌∷◌, ◌++◌, length, refl, ap, sym, subst, ◌∙◌, arith}
use Rattle.std.specs.Prelude.{if◌then◌else◌, is_some, None, Option, Some}
use Rattle.std.specs.Ordering.{is_lt}
use Rattle.cfb_entries.specs.Others.{HasFreePlace}
use Rattle.cfb_entries.proofs.Others.{added_stands, eq_self, path_is}
use Rattle.cfb_spec.specs.TreeRules.{create_new_stream, done, is_stream_found, made, on_storage, on_stream, refused, tree_step, Answer, Outcome}
use Rattle.cfb_medium.specs.declared.error.Error.{Error}
use Rattle.cfb_medium.specs.declared.error.Error.TheVariants.{AlreadyExists, InvalidInput}
use Rattle.cfb_siblings.specs.Places.{path_to}
use Rattle.cfb_siblings.proofs.Naming.{child_here}
use Rattle.cfb_tree.specs.Changes.{added, changed, changed_below, holding, last_of, parent_of, with_bytes, with_changed, with_child}
use Rattle.cfb_tree.specs.Names.{is_name, CaseTable, name_cmp}
use Rattle.cfb_tree.specs.Objects.{a_storage, a_stream, before, child, is_same_name, name_of, object_at, object_from, root_object, tree_of, Object}
use Rattle.cfb_tree.specs.Paths.{Path}
use Rattle.cfb_tree.specs.Tree.{nothing, storage, stream, Content, Facts, Tree}
use Rattle.cfb_tree.proofs.NameOrder.{name_cmp_total}
use Rattle.cfb.specs.Putting.{put_over, putting, rewriting}

abbrev answered : Outcome → Answer
answered outcome = outcome.1

module _ (letters : CaseTable) where
  same_self : (a : List ℕ) → is_same_name letters a a ≡ true
  same_self a = eq_self (name_cmp letters a a) ((name_cmp_total letters).antisymm a a)

  changed_here : (wanted : List ℕ) (change : Object → Object) (o : Object) (later : Content) → is_same_name letters wanted (name_of o) ≡ true
      → with_changed letters wanted change (before o later) ≡ before (change o) later
  changed_here wanted change (a_stream n s x) later same = rw same
  changed_here wanted change (a_storage n f i) later same = rw same

  -- the changes of a child, one after the other, are one
  changed_so : (wanted : List ℕ) (first second both : Object → Object) → ((o : Object) → name_of (first o) ≡ name_of o) → (c : Content)
      → ((o : Object) → child letters c wanted ≡ Some o → second (first o) ≡ both o) → with_changed letters wanted second (with_changed letters wanted first c) ≡ with_changed letters wanted both c
  changed_so wanted first second both named nothing is = refl
  changed_so wanted first second both named (stream n s x l) is = by_name (is_same_name letters wanted n) refl (changed_so wanted first second both named l)
    where
      by_name : (b : Bool) → is_same_name letters wanted n ≡ b
          → (((o : Object) → child letters l wanted ≡ Some o → second (first o) ≡ both o) → with_changed letters wanted second (with_changed letters wanted first l) ≡ with_changed letters wanted both l)
          → with_changed letters wanted second (with_changed letters wanted first (stream n s x l)) ≡ with_changed letters wanted both (stream n s x l)
      by_name true same rest =
          let o = a_stream n s x in
          ap (with_changed letters wanted second) (changed_here wanted first o l same)
          ∙ changed_here wanted second (first o) l (ap (is_same_name letters wanted) (named o) ∙ same)
          ∙ ap (λ y. before y l) (is o (child_here letters wanted o l same)) ∙ sym (changed_here wanted both o l same)
      by_name false differ rest = rw differ (rw differ (ap (stream n s x) (rest (λ o at. is o (rw differ at)))))
  changed_so wanted first second both named (storage n f i l) is = by_name (is_same_name letters wanted n) refl (changed_so wanted first second both named l)
    where
      by_name : (b : Bool) → is_same_name letters wanted n ≡ b
          → (((o : Object) → child letters l wanted ≡ Some o → second (first o) ≡ both o) → with_changed letters wanted second (with_changed letters wanted first l) ≡ with_changed letters wanted both l)
          → with_changed letters wanted second (with_changed letters wanted first (storage n f i l)) ≡ with_changed letters wanted both (storage n f i l)
      by_name true same rest =
          let o = a_storage n f i in
          ap (with_changed letters wanted second) (changed_here wanted first o l same)
          ∙ changed_here wanted second (first o) l (ap (is_same_name letters wanted) (named o) ∙ same)
          ∙ ap (λ y. before y l) (is o (child_here letters wanted o l same)) ∙ sym (changed_here wanted both o l same)
      by_name false differ rest = rw differ (rw differ (ap (storage n f i) (rest (λ o at. is o (rw differ at)))))

  module _ (name bytes : List ℕ) where
    -- the change of the new child among others of which none has its name
    put_child : (c : Content) → child letters c name ≡ None
        → with_changed letters name (with_bytes bytes) (with_child letters (a_stream name 0 []) c) ≡ with_child letters (a_stream name 0 bytes) c
    put_child nothing free = let same = same_self name in rw same
    put_child (stream n s x l) free = by_order (is_lt (name_cmp letters name n)) (is_same_name letters name n) refl refl (put_child l)
      where
        by_order : (first same : Bool) → is_lt (name_cmp letters name n) ≡ first → is_same_name letters name n ≡ same
            → (child letters l name ≡ None → with_changed letters name (with_bytes bytes) (with_child letters (a_stream name 0 []) l) ≡ with_child letters (a_stream name 0 bytes) l)
            → with_changed letters name (with_bytes bytes) (with_child letters (a_stream name 0 []) (stream n s x l)) ≡ with_child letters (a_stream name 0 bytes) (stream n s x l)
        by_order true same is names rest = rw is (changed_here name (with_bytes bytes) (a_stream name 0 []) (stream n s x l) (same_self name))
        by_order false true is names rest = let taken : Some (a_stream n s x) ≡ None = sym (child_here letters name (a_stream n s x) l names) ∙ free in absurd (cc)
        by_order false false is names rest = rw is (rw names (ap (stream n s x) (rest (rw names at free))))
    put_child (storage n f i l) free = by_order (is_lt (name_cmp letters name n)) (is_same_name letters name n) refl refl (put_child l)
      where
        by_order : (first same : Bool) → is_lt (name_cmp letters name n) ≡ first → is_same_name letters name n ≡ same
            → (child letters l name ≡ None → with_changed letters name (with_bytes bytes) (with_child letters (a_stream name 0 []) l) ≡ with_child letters (a_stream name 0 bytes) l)
            → with_changed letters name (with_bytes bytes) (with_child letters (a_stream name 0 []) (storage n f i l)) ≡ with_child letters (a_stream name 0 bytes) (storage n f i l)
        by_order true same is names rest = rw is (changed_here name (with_bytes bytes) (a_stream name 0 []) (storage n f i l) (same_self name))
        by_order false true is names rest = let taken : Some (a_storage n f i) ≡ None = sym (child_here letters name (a_storage n f i) l names) ∙ free in absurd (cc)
        by_order false false is names rest = rw is (rw names (ap (storage n f i) (rest (rw names at free))))

    below_named : (change : Content → Content) (names : Path) (o : Object) → name_of (changed_below letters (holding change) names o) ≡ name_of o
    below_named change [] (a_stream n s x) = refl
    below_named change [] (a_storage n f i) = refl
    below_named change (next ∷ names) (a_stream n s x) = refl
    below_named change (next ∷ names) (a_storage n f i) = refl

    none_from : (o : Option Object) → object_from letters o [] ≡ None → o ≡ None
    none_from None free = refl
    none_from (Some o) free = free

    -- so it is below an object
    put_below : (up : Path) (o : Object) → object_from letters (Some o) (path_to up name) ≡ None
        → changed_below letters (with_bytes bytes) (path_to up name) (changed_below letters (holding (with_child letters (a_stream name 0 []))) up o)
        ≡ changed_below letters (holding (with_child letters (a_stream name 0 bytes))) up o
    put_below [] (a_stream n s x) free = refl
    put_below [] (a_storage n f i) free = ap (a_storage n f) (put_child i (none_from (child letters i name) free))
    put_below (next ∷ names) (a_stream n s x) free = refl
    put_below (next ∷ names) (a_storage n f i) free =
        ap (a_storage n f)
        (changed_so next (changed_below letters (holding (with_child letters (a_stream name 0 []))) names) (changed_below letters (with_bytes bytes) (path_to names name))
        (changed_below letters (holding (with_child letters (a_stream name 0 bytes))) names) (below_named (with_child letters (a_stream name 0 [])) names) i
        (λ o at. put_below names o (subst (λ y. object_from letters y (path_to names name) ≡ None) at free)))

    root_of : (change : Content → Content) (up : Path) (tree : Tree) → root_object (tree_of tree (changed_below letters (holding change) up (root_object tree))) ≡ changed_below letters (holding change) up (root_object tree)
    root_of change [] tree = refl
    root_of change (next ∷ names) tree = refl

    other_root : (change : Content → Content) (up : Path) (tree other : Tree) → tree_of other (changed_below letters (holding change) up (root_object tree)) ≡ tree_of tree (changed_below letters (holding change) up (root_object tree))
    other_root change [] tree other = refl
    other_root change (next ∷ names) tree other = refl

    -- LAW: a stream that is made without bytes, and gets these, was made with them
    pub put_at : (up : Path) (tree : Tree) → object_at letters tree (path_to up name) ≡ None
        → changed letters (with_bytes bytes) (path_to up name) (changed letters (holding (with_child letters (a_stream name 0 []))) up tree)
        ≡ changed letters (holding (with_child letters (a_stream name 0 bytes))) up tree
    put_at up tree free =
        let t = changed letters (holding (with_child letters (a_stream name 0 []))) up tree in
        ap (λ o. tree_of t (changed_below letters (with_bytes bytes) (path_to up name) o)) (root_of (with_child letters (a_stream name 0 [])) up tree)
        ∙ ap (tree_of t) (put_below up (root_object tree) free)
        ∙ other_root (with_child letters (a_stream name 0 bytes)) up tree t

  module _ (tree : Tree) (path : Path) where
    -- where one new object is made, every one is; where one is refused, every one is so
    made_from : (a b : Object) (o : Option Object) → (on_storage tree (λ p. if is_name (last_of path) then (added letters a path tree, done) else (tree, refused InvalidInput)) o).1 ≡ done
        → (on_storage tree (λ p. if is_name (last_of path) then (added letters b path tree, done) else (tree, refused InvalidInput)) o) ≡ (added letters b path tree, done)
    made_from a b None is = absurd (cc)
    made_from a b (Some (a_stream n s x)) is = absurd (cc)
    made_from a b (Some (a_storage n f i)) is = by_name (is_name (last_of path)) is
      where
        by_name : (valid : Bool) → answered (if valid then (added letters a path tree, done) else (tree, refused InvalidInput)) ≡ done → ◌≡◌ {A = Outcome} (if valid then (added letters b path tree, done) else (tree, refused InvalidInput)) (added letters b path tree, done)
        by_name true is = refl
        by_name false is = absurd (cc)

    made_done : (a b : Object) → (made letters tree path a).1 ≡ done → made letters tree path b ≡ (added letters b path tree, done)
    made_done a b is = made_from a b (object_at letters tree (parent_of path)) is

    answer_from : (a b : Object) (o : Option Object) → (on_storage tree (λ p. if is_name (last_of path) then (added letters a path tree, done) else (tree, refused InvalidInput)) o).1
        ≡ (on_storage tree (λ p. if is_name (last_of path) then (added letters b path tree, done) else (tree, refused InvalidInput)) o).1
    answer_from a b None = refl
    answer_from a b (Some (a_stream n s x)) = refl
    answer_from a b (Some (a_storage n f i)) = by_name (is_name (last_of path))
      where
        by_name : (valid : Bool) → answered (if valid then (added letters a path tree, done) else (tree, refused InvalidInput)) ≡ answered (if valid then (added letters b path tree, done) else (tree, refused InvalidInput))
        by_name true = refl
        by_name false = refl

    made_alike : (a b : Object) → (made letters tree path a).1 ≡ (made letters tree path b).1
    made_alike a b = answer_from a b (object_at letters tree (parent_of path))

    -- the storage of an object that is made
    storage_there : (a : Object) → (made letters tree path a).1 ≡ done → (n : List ℕ) × (f : Facts) × (i : Content) × (object_at letters tree (parent_of path) ≡ Some (a_storage n f i))
    storage_there a is = by_object (object_at letters tree (parent_of path)) refl is
      where
        by_object : (o : Option Object) → object_at letters tree (parent_of path) ≡ o → (on_storage tree (λ p. if is_name (last_of path) then (added letters a path tree, done) else (tree, refused InvalidInput)) o).1 ≡ done
            → (n : List ℕ) × (f : Facts) × (i : Content) × (object_at letters tree (parent_of path) ≡ Some (a_storage n f i))
        by_object None at is = absurd (cc)
        by_object (Some (a_stream n s x)) at is = absurd (cc)
        by_object (Some (a_storage n f i)) at is = (n, f, i, at)

    some_names : object_at letters tree path ≡ None → 0 < length path
    some_names free = by_path path free
      where
        by_path : (p : Path) → object_at letters tree p ≡ None → 0 < length p
        by_path [] free = absurd (cc)
        by_path (name ∷ names) free = omega arith

    -- a new stream is made where no object is
    new_made : (tree_step letters tree (create_new_stream path)).1 ≡ done → (object_at letters tree path ≡ None) × (tree_step letters tree (create_new_stream path) ≡ made letters tree path (a_stream (last_of path) 0 []))
    new_made is = by_object (object_at letters tree path) is
      where
        by_object : (o : Option Object) → answered (if is_some o then (tree, refused AlreadyExists) else made letters tree path (a_stream (last_of path) 0 [])) ≡ done
            → (o ≡ None) × ((if is_some o then (tree, refused AlreadyExists) else made letters tree path (a_stream (last_of path) 0 [])) ≡ made letters tree path (a_stream (last_of path) 0 []))
        by_object None is = (refl, refl)
        by_object (Some o) is = absurd (cc)

    module _ (bytes : List ℕ) where
      -- LAW: a stream is made at the path, and gets the bytes: so is one put there
      pub put_new : (tree_step letters tree (create_new_stream path)).1 ≡ done → (later : Tree) → (tree_step letters tree (create_new_stream path)).0 ≡ later
          → (rewriting bytes letters later path ≡ (changed letters (with_bytes bytes) path later, done)) × (putting bytes letters tree path ≡ (changed letters (with_bytes bytes) path later, done))
      put_new is later gives =
          let empty = a_stream (last_of path) 0 [] in
          let new = new_made is in
          let accepted : (made letters tree path empty).1 ≡ done = ap (λ (o : Outcome). o.1) (sym new.1) ∙ is in
          let step = made_done empty empty accepted in
          let there : later ≡ added letters empty path tree = sym gives ∙ ap (λ (o : Outcome). o.0) (new.1 ∙ step) in
          let storage = storage_there empty accepted in
          let place : HasFreePlace letters tree empty path = record { below_root = some_names new.0; named = refl; name = storage.0; facts = storage.1; inside = storage.2; storage = storage.3; free = new.0 } in
          let found : object_at letters later path ≡ Some empty = ap (λ t. object_at letters t path) there ∙ (added_stands letters tree empty path place).there in
          let up = path_is path (some_names new.0) in
          let whole : changed letters (with_bytes bytes) path later ≡ added letters (a_stream (last_of path) 0 bytes) path tree =
          ap (changed letters (with_bytes bytes) path) there
          ∙ subst (λ p. changed letters (with_bytes bytes) p (added letters empty path tree) ≡ added letters (a_stream (last_of path) 0 bytes) path tree) up
          (put_at (last_of path) bytes (parent_of path) tree (ap (object_at letters tree) up ∙ new.0)) in (
            ap (λ o. on_stream later (λ b. (changed letters (with_bytes bytes) path later, done)) o) found,
            ap (λ o. put_over bytes letters tree path o) new.0 ∙ made_done empty (a_stream (last_of path) 0 bytes) accepted ∙ ap (λ t. (t, done)) (sym whole),
          )

      -- LAW: where no stream is at the path, one is put there just where one is made
      pub put_refused : (e : Error) → is_stream_found (object_at letters tree path) ≡ false → (tree_step letters tree (create_new_stream path)).1 ≡ refused e → (putting bytes letters tree path).1 ≡ refused e
      put_refused e none is = by_object (object_at letters tree path) none is
        where
          by_object : (o : Option Object) → is_stream_found o ≡ false → answered (if is_some o then (tree, refused AlreadyExists) else made letters tree path (a_stream (last_of path) 0 [])) ≡ refused e → (put_over bytes letters tree path o).1 ≡ refused e
          by_object None none is = made_alike (a_stream (last_of path) 0 bytes) (a_stream (last_of path) 0 []) ∙ is
          by_object (Some (a_stream n s x)) none is = absurd (cc)
          by_object (Some (a_storage n f i)) none is = is

      -- LAW: where one is, it is rewritten
      pub put_there : is_stream_found (object_at letters tree path) ≡ true → putting bytes letters tree path ≡ rewriting bytes letters tree path
      put_there there = by_object (object_at letters tree path) there
        where
          by_object : (o : Option Object) → is_stream_found o ≡ true → put_over bytes letters tree path o ≡ on_stream tree (λ b. (changed letters (with_bytes bytes) path tree, done)) o
          by_object None there = absurd (cc)
          by_object (Some (a_stream n s x)) there = refl
          by_object (Some (a_storage n f i)) there = absurd (cc)
