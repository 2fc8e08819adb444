-- What calls by paths answer, by the object that is found.
use Rattle.std.proofs.Common.{◌≡◌, ◌≢◌, ℕ, ◌<◌, ◌==◌, Bool, true, false, List, [], ◌∷◌, ◌++◌, length, take, refl, sym, ◌∙◌, ap, arith, ◌⊎◌, inl, inr, Ok, Err, ◌-◌, chars}
use Rattle.std.specs.Prelude.{slice_get, Some, None, Result, IfOk, IfErr}
use Rattle.std.specs.Borrow.{Bor}
use Rattle.std.proofs.lemmas.List.{length-map, take-map}
use Rattle.cfb_siblings.specs.Places.{path_of}
use Rattle.cfb_spec.specs.TreeRules.{refused, entries, an_entry, Call, tree_step, entry, open_read_stream, read_storage, walk_storage, shown, all_shown, children_shown, stored_path, parent_of}
use Rattle.cfb_medium.specs.declared.error.Error.{Error}
use Rattle.cfb_medium.specs.declared.error.Error.TheVariants.{InvalidInput, Memory, NotFound}
use Rattle.cfb_tree.specs.Names.{CaseTable}
use Rattle.cfb_tree.specs.Paths.{Path}
use Rattle.cfb_tree.specs.Tree.{Facts, Content, Tree}
use Rattle.cfb_tree.specs.Directory.{Entry, HasName, kind_stream, kind_storage}
use Rattle.cfb_tree.specs.Objects.{Object, a_stream, a_storage, name_of, inside_of, root_object, object_at, IsObject}
use Rattle.cfb_tree.proofs.OneContent.{Some_same}
use Rattle.cfb_tree.specs.Entries.{HasSize}
use Rattle.cfb_entries.specs.Listed.{listed, listed_at, root_listed, prefix_of_listed, prefix_text, Listed}
use Rattle.cfb_entries.specs.Rules.{answer_at, kind_at, names_in}
use Rattle.cfb_entries.proofs.Found.{Found}
use Rattle.cfb_entries.proofs.Preorder.{listed_as, listed_object, object_named, shown_prefix}

-- what is known of both cases of a result
pub both_cases : {A E : Type 0} (P P' : A → Type 0) (Q Q' : E → Type 0) (r : Result A E) → ((x : A) → P x → P' x) → ((e : E) → Q e → Q' e)
    → IfOk r P → IfErr r Q → IfOk r P' × IfErr r Q'
both_cases P P' Q Q' (Ok x) good bad p q = (good x p, tt)
both_cases P P' Q Q' (Err e) good bad p q = (tt, bad e q)

pub ok_case : {A E : Type 0} (P P' : A → Type 0) (r : Result A E) → ((x : A) → P x → P' x) → IfOk r P → IfOk r P'
ok_case P P' (Ok x) good p = good x p
ok_case P P' (Err e) good p = tt

module _ (letters : CaseTable) (tree : Tree) where
  -- why no entry was found
  abbrev pub IsLost : List ℕ → Error → Type 0
  IsLost text e = (e ≡ Memory) ⊎ ((e ≡ InvalidInput) × (names_in text ≡ None))
      ⊎ ((e ≡ NotFound) × (names : Path) × (names_in text ≡ Some names) × (object_at letters tree names ≡ None))

  pub refusal : (call : Path → Call) → ((names : Path) → object_at letters tree names ≡ None → (tree_step letters tree (call names)).1 ≡ refused NotFound)
      → (text : List ℕ) (e : Error) → IsLost text e → (e ≡ Memory) ⊎ (answer_at letters tree call (names_in text) ≡ refused e)
  refusal call lost text e h = elim h [
    | inl memory ↦ inl memory
    | inr rest ↦ elim rest [
      | inl (is, none_there) ↦ inr (ap (answer_at letters tree call) none_there ∙ ap refused (sym is))
      | inr (is, names, some, nowhere) ↦ inr (ap (answer_at letters tree call) some ∙ lost names nowhere ∙ ap refused (sym is))
    ]
  ]

  pub entry_lost : (names : Path) → object_at letters tree names ≡ None → (tree_step letters tree (entry names)).1 ≡ refused NotFound
  entry_lost names lost = rw lost refl

  pub read_lost : (names : Path) → object_at letters tree names ≡ None → (tree_step letters tree (read_storage names)).1 ≡ refused NotFound
  read_lost names lost = rw lost refl

  pub stream_lost : (names : Path) → object_at letters tree names ≡ None → (tree_step letters tree (open_read_stream names)).1 ≡ refused NotFound
  stream_lost names lost = rw lost refl

  pub walk_lost : (names : Path) → object_at letters tree names ≡ None → (tree_step letters tree (walk_storage names)).1 ≡ refused NotFound
  walk_lost names lost = rw lost refl

  module _ (directory : List Entry) (path : Path) (id : ℕ) (e : Entry) (at : slice_get directory id ≡ Some e) (it : Found letters directory tree path id e) where
    pub entry_answer : (tree_step letters tree (entry path)).1 ≡ an_entry (shown path it.object)
    entry_answer = rw it.at_path refl

    -- the root, as it is listed
    pub root_is : path ≡ [] → root_listed e.facts ≡ listed (shown path it.object)
    root_is none_there =
        let (is, facts, kind) = it.root none_there in
        ap root_listed facts ∙ ap (λ p. listed (shown p (root_object tree))) (sym none_there) ∙ ap (λ o. listed (shown path o)) (sym is)

    -- another object, as it is listed
    pub below_is : path ≢ [] → (name : List ℕ) → HasName e name → listed_at e (prefix_text path) name ≡ listed (shown path it.object)
    below_is some name named = by_path path some (it.below some)
      where
        by_path : (p : Path) → p ≢ [] → IsObject directory HasSize id it.object it.own → listed_at e (prefix_text p) name ≡ listed (shown p it.object)
        by_path [] some is = absurd (some refl)
        by_path (n ∷ ns) some is = listed_as directory id it.object it.own e name (n ∷ ns) is at named refl

    pub object_name : path ≢ [] → HasName e (name_of it.object)
    object_name some = object_named directory id it.object it.own e (it.below some) at

    -- at a stream
    stream_object : (e.kind == kind_stream) ≡ true → (o : Object) (own : List ℕ) → IsObject directory HasSize id o own → (n : List ℕ) × (b : ℕ) × (x : List ℕ) × (o ≡ a_stream n b x)
    stream_object is (a_stream n b x) own h = (n, b, x, refl)
    stream_object is (a_storage n f i) own (g, children, has, siblings, inside) =
        let kind : e.kind ≡ kind_storage = ap (λ y. y.kind) (Some_same (sym at ∙ has.found)) ∙ has.of_kind in
        let never : false ≡ true = sym (rw kind refl) ∙ is in absurd (cc)

    pub is_a_stream : (e.kind == kind_stream) ≡ true → (n : List ℕ) × (b : ℕ) × (x : List ℕ) × (it.object ≡ a_stream n b x)
    is_a_stream is = by_path path refl
      where
        by_path : (p : Path) → p ≡ path → (n : List ℕ) × (b : ℕ) × (x : List ℕ) × (it.object ≡ a_stream n b x)
        by_path [] same =
            let (root, facts, kind) = it.root (sym same) in
            let never : false ≡ true = sym (rw kind refl) ∙ is in absurd (cc)
        by_path (name ∷ names) same = stream_object is it.object it.own (it.below (λ none_there. let never : (name ∷ names) ≡ [] = same ∙ none_there in absurd (cc)))

    pub is_a_storage : (e.kind == kind_stream) ≡ false → (n : List ℕ) × (f : Facts) × (i : Content) × (it.object ≡ a_storage n f i)
    is_a_storage isnt = by_path path refl
      where
        storage_object : (o : Object) (own : List ℕ) → IsObject directory HasSize id o own → (n : List ℕ) × (f : Facts) × (i : Content) × (o ≡ a_storage n f i)
        storage_object (a_storage n f i) own h = (n, f, i, refl)
        storage_object (a_stream n b x) own (g, has, reads, empty) =
            let kind : e.kind ≡ kind_stream = ap (λ y. y.kind) (Some_same (sym at ∙ has.found)) ∙ has.of_kind in
            let never : true ≡ false = sym (rw kind refl) ∙ isnt in absurd (cc)

        by_path : (p : Path) → p ≡ path → (n : List ℕ) × (f : Facts) × (i : Content) × (it.object ≡ a_storage n f i)
        by_path [] same = (_, _, _, (it.root (sym same)).0)
        by_path (name ∷ names) same = storage_object it.object it.own (it.below (λ none_there. let never : (name ∷ names) ≡ [] = same ∙ none_there in absurd (cc)))

    pub read_refused : (e.kind == kind_stream) ≡ true → (tree_step letters tree (read_storage path)).1 ≡ refused InvalidInput
    read_refused is = let (n, b, x, stream) = is_a_stream is in rw (it.at_path, stream) refl

    pub walk_refused : (e.kind == kind_stream) ≡ true → (tree_step letters tree (walk_storage path)).1 ≡ refused InvalidInput
    walk_refused is = let (n, b, x, stream) = is_a_stream is in rw (it.at_path, stream) refl

    pub stream_refused : (e.kind == kind_stream) ≡ false → (tree_step letters tree (open_read_stream path)).1 ≡ refused InvalidInput
    stream_refused isnt = let (n, f, i, storage) = is_a_storage isnt in rw (it.at_path, storage) refl

    pub read_answer : (e.kind == kind_stream) ≡ false → (tree_step letters tree (read_storage path)).1 ≡ entries (children_shown path (inside_of it.object))
    read_answer isnt = let (n, f, i, storage) = is_a_storage isnt in rw (it.at_path, storage) refl

    pub walk_answer : (e.kind == kind_stream) ≡ false
        → (tree_step letters tree (walk_storage path)).1 ≡ entries (shown (stored_path path it.object) it.object ∷ all_shown (stored_path path it.object) (inside_of it.object))
    walk_answer isnt = let (n, f, i, storage) = is_a_storage isnt in rw (it.at_path, storage) refl

    -- the first of a listing, under its stored name
    pub top_is : (x : Listed) → (path ≡ [] → x ≡ root_listed e.facts)
        → (path ≢ [] → (name : List ℕ) × HasName e name × (x ≡ listed_at e (prefix_text (parent_of path) ++ 47 ∷ name) name))
        → x ≡ listed (shown (stored_path path it.object) it.object)
    top_is x root below = by_path path refl
      where
        by_path : (p : Path) → p ≡ path → x ≡ listed (shown (stored_path p it.object) it.object)
        by_path [] same = root (sym same) ∙ root_is (sym same) ∙ ap (λ q. listed (shown q it.object)) (sym same)
        by_path (n ∷ ns) same =
            let some : path ≢ [] = λ none_there. let never : (n ∷ ns) ≡ [] = same ∙ none_there in absurd (cc) in
            let (name, named, is) = below some in
            is ∙ ap (λ q. listed_at e (prefix_text (parent_of q) ++ 47 ∷ name) name) (sym same)
            ∙ listed_object directory id it.object it.own e name (parent_of (n ∷ ns)) (it.below some) at named

    pub top_prefix : prefix_of_listed (listed (shown (stored_path path it.object) it.object)) ≡ prefix_text (stored_path path it.object)
    top_prefix = by_path path refl
      where
        by_path : (p : Path) → p ≡ path → prefix_of_listed (listed (shown (stored_path p it.object) it.object)) ≡ prefix_text (stored_path p it.object)
        by_path [] same = let (is, facts, kind) = it.root (sym same) in rw is refl
        by_path (n ∷ ns) same = shown_prefix (parent_of (n ∷ ns)) it.object

-- no names, and some
pub no_names : (names : List (Bor (List ℕ))) → length names ≡ 0 → path_of names ≡ []
no_names [] is = refl
no_names (name ∷ names) is = absurd (omega (arith, is))

pub some_names : (names : List (Bor (List ℕ))) → 0 < length names → path_of names ≢ []
some_names [] some = absurd (omega (arith, some))
some_names (name ∷ names) some = λ none_there. absurd (cc)

-- the parent's names are all but the last
pub parents_of : (names : List (Bor (List ℕ))) (n : ℕ) → n ≡ length names - 1 → path_of (take n names) ≡ parent_of (path_of names)
parents_of names n is = sym (take-map (λ name. chars name.now) n names) ∙ ap (λ k. take k (path_of names)) (is ∙ ap (λ k. k - 1) (sym (simp length-map refl)))

module _ (letters : CaseTable) (tree : Tree) (directory : List Entry) (names : List (Bor (List ℕ))) (id : ℕ) (e : Entry) (at : slice_get directory id ≡ Some e)
    (it : Found letters directory tree (path_of names) id e) where
  -- what is told of the first of a listing by the names that lead to it
  pub top_told : (x : Listed) (ns : List (Bor (List ℕ))) → ns ≡ names → (length ns ≡ 0 → x ≡ root_listed e.facts)
      → (0 < length ns → (name : List ℕ) × HasName e name × (x ≡ listed_at e (prefix_text (parent_of (path_of ns)) ++ 47 ∷ name) name))
      → x ≡ listed (shown (stored_path (path_of names) it.object) it.object)
  top_told x ns same root below = top_is letters tree directory (path_of names) id e at it x
      (λ none_there. root (no_path ns (ap path_of same ∙ none_there)))
      (λ some. let (name, has, is) = below (some_path ns (λ none_there. some (sym (ap path_of same) ∙ none_there))) in
      (name, has, is ∙ ap (λ ks. listed_at e (prefix_text (parent_of (path_of ks)) ++ 47 ∷ name) name) same))
    where
      no_path : (ns : List (Bor (List ℕ))) → path_of ns ≡ [] → length ns ≡ 0
      no_path [] is = refl
      no_path (n ∷ ns) is = absurd (cc)

      some_path : (ns : List (Bor (List ℕ))) → path_of ns ≢ [] → 0 < length ns
      some_path [] some = absurd (some refl)
      some_path (n ∷ ns) some = omega arith

pub not_empty : (n m : ℕ) (b : Bool) → b ≡ (n == 0) → b ≡ false → n ≡ m → 0 < m
not_empty n m b test isnt same = grind arith

module _ (letters : CaseTable) (tree : Tree) (directory : List Entry) (path : Path) (id : ℕ) (e : Entry) (at : slice_get directory id ≡ Some e)
    (it : Found letters directory tree path id e) where
  -- what is at the path
  pub kind_found : (text : List ℕ) → names_in text ≡ Some path → Some (e.kind == kind_stream) ≡ kind_at letters tree (names_in text)
  kind_found text named = by_kind (e.kind == kind_stream) refl ∙ ap (kind_at letters tree) (sym named)
    where
      by_kind : (b : Bool) → (e.kind == kind_stream) ≡ b → Some (e.kind == kind_stream) ≡ kind_at letters tree (Some path)
      by_kind true is = let (n, b, x, stream) = is_a_stream letters tree directory path id e at it is in rw (is, it.at_path, stream) refl
      by_kind false isnt = let (n, f, i, storage) = is_a_storage letters tree directory path id e at it isnt in rw (isnt, it.at_path, storage) refl
