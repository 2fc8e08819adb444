-- A stream put under the root of a tree, or taken out, and the package that the tree stores then.
use Rattle.std.proofs.Common.{◌≡◌, ◌∙◌, ℕ, Bool, true, false, cond, List, [], ◌∷◌, Option, Some, None, map, refl, sym, ap, subst}
use Rattle.std.specs.Prelude.{not, filter, option_and_then, All, IsTrue}
use Rattle.std.specs.List.Sorted.{IsStrictlySortedBy}
use Rattle.std.specs.Ordering.{is_lt}
use Rattle.std.proofs.lemmas.List.Elements.{All-cons, All-filter, All-head, All-nil, All-tail}
use Rattle.cfb_tree.specs.Changes.{added, changed, removed}
use Rattle.cfb_tree.specs.Changes.{with_bytes as with_content}
use Rattle.cfb_tree.specs.Names.{CaseTable, name_cmp}
use Rattle.cfb_tree.specs.Objects.{a_storage, a_stream, is_same_name, name_of, Object}
use Rattle.cfb_tree.specs.Tree.{child_names, Tree}
use Rattle.msi_spec.specs.Opening.{keeps_encoded_names}
use Rattle.msi_spec.specs.Package.{PackageContent, at_name, is_stream, object_bytes, objects, stream_at, summary_name}
use Rattle.msi_spec.specs.Streams.{stream_put, with_bytes, without_stream}
use Rattle.msi_spec.proofs.Roots.{put_new, put_there}
use Rattle.msi_spec.proofs.UnderRoot.{child_is}
use Rattle.msi_texts.specs.StreamName.{is_marked}
use Rattle.msi_streams.proofs.Marks.{same_of_key}
use Rattle.msi_streams.proofs.Objects.{found_kept, has_name, names_of, none_kept, objects_without, put_apart, put_kept, put_storages, taken_apart, taken_dropped, taken_kept, taken_none, without_first}
use Rattle.msi_streams.proofs.Stored.{Differs, is_kept, kept_streams}

-- the name isn't marked as a table's
abbrev pub IsUnmarked : Object → Type 0
IsUnmarked o = IsTrue (not (is_marked (name_of o)))

some_same : (a b : Object) → Some a ≡ Some b → a ≡ b
some_same a b e = cc

module _ (letters : CaseTable) (name : List ℕ) where
  -- one that is put among streams of no table
  pub put_unmarked : (bytes : List ℕ) → is_marked name ≡ false → (os : List Object) → All IsUnmarked os → All IsUnmarked (stream_put letters name bytes os)
  put_unmarked bytes plain [] all = All-cons IsUnmarked (a_stream name 0 bytes) [] (ap not plain) (All-nil IsUnmarked)
  put_unmarked bytes plain (o ∷ os) all =
      by (is_same_name letters name (name_of o)) (is_lt (name_cmp letters name (name_of o))) (put_unmarked bytes plain os (All-tail IsUnmarked o os all))
    where
      changed_one : (o : Object) → IsUnmarked o → IsUnmarked (with_bytes letters bytes o)
      changed_one (a_stream n s b) is = is
      changed_one (a_storage n f i) is = is

      by : (same first : Bool) → All IsUnmarked (stream_put letters name bytes os)
          → All IsUnmarked (cond same (with_bytes letters bytes o ∷ os) (cond first (a_stream name 0 bytes ∷ o ∷ os) (o ∷ stream_put letters name bytes os)))
      by true first rest = All-cons IsUnmarked (with_bytes letters bytes o) os (changed_one o (All-head IsUnmarked o os all)) (All-tail IsUnmarked o os all)
      by false true rest = All-cons IsUnmarked (a_stream name 0 bytes) (o ∷ os) (ap not plain) all
      by false false rest = All-cons IsUnmarked o (stream_put letters name bytes os) (All-head IsUnmarked o os all) rest

  pub taken_unmarked : (os : List Object) → All IsUnmarked os → All IsUnmarked (without_stream letters name os)
  taken_unmarked os all = All-filter (λ o. not (is_same_name letters name (name_of o))) IsUnmarked os all

  module _ (old : Tree) (rising : IsStrictlySortedBy (name_cmp letters) (child_names old.content)) where
    names_rise : IsStrictlySortedBy (name_cmp letters) (map name_of (objects old.content))
    names_rise = subst (IsStrictlySortedBy (name_cmp letters)) (sym (names_of old.content)) rising

    -- ---- put

    pub put_where_none : (bytes : List ℕ) → at_name letters (objects old.content) name ≡ None
        → objects (added letters (a_stream name 0 bytes) (name ∷ []) old).content ≡ stream_put letters name bytes (objects old.content)
    put_where_none bytes none = put_new letters name bytes old.content (child_is letters old.content name ∙ none)

    pub put_where_one : (bytes : List ℕ) (o : Object) → at_name letters (objects old.content) name ≡ Some o
        → objects (changed letters (with_content bytes) (name ∷ []) old).content ≡ stream_put letters name bytes (objects old.content)
    put_where_one bytes o there = put_there letters name bytes old.content o rising (child_is letters old.content name ∙ there)

    module _ (new : Tree) (root : new.root ≡ old.root) where
      pub put_differs : (bytes : List ℕ) → objects new.content ≡ stream_put letters name bytes (objects old.content) → Differs letters name old new
      put_differs bytes is = record {
        class = root;
        others = λ other differs. ap (λ os. at_name letters os other) is ∙ put_apart letters name bytes other differs (objects old.content);
        storages = ap (filter (λ o. not (is_stream o))) is ∙ put_storages letters name bytes (objects old.content);
      }

      -- the package has it among its streams
      pub put_streams : (may : keeps_encoded_names letters ≡ true) (plain : is_marked name ≡ false) (other : is_same_name letters summary_name name ≡ false) (P : PackageContent) (bytes : List ℕ)
          → objects new.content ≡ stream_put letters name bytes (objects old.content) → ((o : Object) → at_name letters (objects old.content) name ≡ Some o → is_stream o ≡ true)
          → P.streams ≡ filter (is_kept letters P) (objects old.content) → stream_put letters name bytes P.streams ≡ filter (is_kept letters P) (objects new.content)
      put_streams may plain other P bytes is streams stored =
          ap (stream_put letters name bytes) stored
          ∙ sym (put_kept letters name bytes (is_kept letters P) (kept_streams letters may name plain other P) (same_of_key letters name name refl) (objects old.content) names_rise streams)
          ∙ ap (filter (is_kept letters P)) (sym is)

    -- ---- taken out

    pub taken_from : objects (removed letters (name ∷ []) old).content ≡ without_first letters name (objects old.content)
    taken_from = objects_without letters name old.content

    module _ (new : Tree) (root : new.root ≡ old.root) (is : objects new.content ≡ without_first letters name (objects old.content)) where
      pub taken_differs : (o : Object) → at_name letters (objects old.content) name ≡ Some o → is_stream o ≡ true → Differs letters name old new
      taken_differs o there stream_there = record {
        class = root;
        others = λ other differs. ap (λ os. at_name letters os other) is ∙ taken_apart letters name other differs (objects old.content);
        storages = ap (filter (λ o. not (is_stream o))) is ∙ taken_dropped letters name (λ o. not (is_stream o)) (objects old.content) o there (ap not stream_there);
      }

      pub taken_streams : (P : PackageContent) → P.streams ≡ filter (is_kept letters P) (objects old.content) → without_stream letters name P.streams ≡ filter (is_kept letters P) (objects new.content)
      taken_streams P stored =
          ap (without_stream letters name) stored ∙ taken_kept letters name (is_kept letters P) (objects old.content) names_rise ∙ ap (filter (is_kept letters P)) (sym is)

    -- ---- neither

    -- where no stream of the package has the name nothing is taken out
    pub none_taken_out : (keep : Object → Bool) → ((o : Object) → at_name letters (objects old.content) name ≡ Some o → keep o ≡ false)
        → without_stream letters name (filter keep (objects old.content)) ≡ filter keep (objects old.content)
    none_taken_out keep drops = taken_kept letters name keep (objects old.content) names_rise ∙ by (at_name letters (objects old.content) name) refl
      where
        by : (o : Option Object) → at_name letters (objects old.content) name ≡ o → filter keep (without_first letters name (objects old.content)) ≡ filter keep (objects old.content)
        by (Some o) there = taken_dropped letters name keep (objects old.content) o there (drops o there)
        by None none = ap (filter keep) (taken_none letters name (objects old.content) none)

    -- no storage of the package has the name where none stands at it
    pub free_storages : ((o : Object) → at_name letters (objects old.content) name ≡ Some o → is_stream o ≡ true) → at_name letters (filter (λ o. not (is_stream o)) (objects old.content)) name ≡ None
    free_storages streams = none_kept letters name (λ o. not (is_stream o)) (objects old.content) names_rise (λ o there. ap not (streams o there))

    -- what stands there and isn't the database's own is found among the package's streams
    pub stream_found : (keep : Object → Bool) → ((o : Object) → is_same_name letters name (name_of o) ≡ true → keep o ≡ is_stream o)
        → stream_at letters (filter keep (objects old.content)) name ≡ stream_at letters (objects old.content) name
    stream_found keep kept = by (at_name letters (objects old.content) name) refl
      where
        by : (o : Option Object) → at_name letters (objects old.content) name ≡ o → stream_at letters (filter keep (objects old.content)) name ≡ stream_at letters (objects old.content) name
        by None none = ap (option_and_then object_bytes) (none_kept letters name keep (objects old.content) names_rise (λ o there. let never : None ≡ Some o = sym none ∙ there in absurd (cc))) ∙ ap (option_and_then object_bytes) (sym none)
        by (Some (a_stream n s b)) there =
            ap (option_and_then object_bytes) (found_kept letters name keep (objects old.content) (a_stream n s b) there (kept (a_stream n s b) (has_name letters name (objects old.content) (a_stream n s b) there))) ∙ ap (option_and_then object_bytes) (sym there)
        by (Some (a_storage n f i)) there =
            ap (option_and_then object_bytes) (none_kept letters name keep (objects old.content) names_rise (λ o at.
            let same : a_storage n f i ≡ o = some_same (a_storage n f i) o (sym there ∙ at) in
            ap keep (sym same) ∙ kept (a_storage n f i) (has_name letters name (objects old.content) (a_storage n f i) there)))
            ∙ ap (option_and_then object_bytes) (sym there)
