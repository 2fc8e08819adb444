-- The streams of the database itself are marked or special, so that the other streams are found among all objects.
use Rattle.std.proofs.Common.{◌≡◌, ◌∙◌, ℕ, Bool, true, false, cond, List, [], ◌∷◌, Some, None, map, refl, sym, ap, inl, inr}
use Rattle.std.specs.Prelude.{◌&&◌, ◌||◌, ◌⊎◌, not, filter, find, option_and_then, encode_utf8_all}
use Rattle.std.specs.List.{list_any, AllByRecursion}
use Rattle.std.specs.List.Sorted.{IsStrictlySortedBy}
use Rattle.std.specs.Ordering.{is_eq}
use Rattle.std.specs.declared.cmp.Ordering.TheVariants.{Less}
use Rattle.std.proofs.lemmas.Map.Keys.{sorted_head, sorted_tail}
use Rattle.cfb_spec.specs.TreeRules.{Object, a_storage, a_stream}
use Rattle.cfb_spec.specs.TreeRules.{name_of as object_name}
use Rattle.cfb_tree.specs.Names.{CaseTable, key_cmp, name_cmp, name_key}
use Rattle.cfb_tree.specs.Objects.{is_same_name}
use Rattle.cfb_tree.specs.Tree.{Content, Tree, child_names, nothing, storage, stream}
use Rattle.msi_spec.specs.Opening.{keeps_encoded_names}
use Rattle.msi_spec.specs.Split.{TreeStoresRest}
use Rattle.msi_spec.specs.Package.{PackageContent, data_name, is_own, is_stream, object_bytes, objects, pool_name, stream_at, stream_name, summary_name}
use Rattle.msi_spec.specs.Streams.{document_summary_name, is_special, signature_ex_name, signature_name, stream_names}
use Rattle.msi_texts.specs.StreamName.{is_marked}
use Rattle.msi_texts.specs.StreamName.{name_of as decoded_name}
use Rattle.msi_streams.proofs.Marks.{key_of_same, marked_alike, same_of_key}
use Rattle.msi_streams.proofs.Stored.{either}

behind : (a b : Bool) → b ≡ true → a || b ≡ true
behind true b e = refl
behind false b e = e

filter_twice : {X : Type 0} (p q r : X → Bool) → ((x : X) → p x && q x ≡ r x) → (xs : List X) → filter q (filter p xs) ≡ filter r xs
filter_twice p q r both [] = refl
filter_twice p q r both (x ∷ xs) = by (p x) refl (filter_twice p q r both xs)
  where
    by : (a : Bool) → p x ≡ a → filter q (filter p xs) ≡ filter r xs → filter q (cond a (x ∷ filter p xs) (filter p xs)) ≡ cond (r x) (x ∷ filter r xs) (filter r xs)
    by true e later = ap (λ ys. cond (q x) (x ∷ ys) ys) later ∙ ap (λ b. cond b (x ∷ filter r xs) (filter r xs)) (ap (λ b. b && q x) (sym e) ∙ both x)
    by false e later = later ∙ ap (λ b. cond b (x ∷ filter r xs) (filter r xs)) (ap (λ b. b && q x) (sym e) ∙ both x)

-- none is found where each that is sought is filtered out
none_kept : {X : Type 0} (here keep : X → Bool) → ((x : X) → here x ≡ true → keep x ≡ false) → (xs : List X) → find here (filter keep xs) ≡ None
none_kept here keep out [] = refl
none_kept here keep out (x ∷ xs) = by (keep x) refl (here x) refl (none_kept here keep out xs)
  where
    by : (b : Bool) → keep x ≡ b → (h : Bool) → here x ≡ h → find here (filter keep xs) ≡ None → find here (cond b (x ∷ filter keep xs) (filter keep xs)) ≡ None
    by false e h f later = later
    by true e true f later = let no : true ≡ false = sym e ∙ out x f in absurd (cc)
    by true e false f later = ap (λ b. cond b (Some x) (find here (filter keep xs))) f ∙ later

-- what a search passes is passed in a filtered list
passed : {X : Type 0} (here keep : X → Bool) (x : X) (xs : List X) → here x ≡ false → find here (filter keep (x ∷ xs)) ≡ find here (filter keep xs)
passed here keep x xs e = by (keep x)
  where
    by : (b : Bool) → find here (cond b (x ∷ filter keep xs) (filter keep xs)) ≡ find here (filter keep xs)
    by true = ap (λ b. cond b (Some x) (find here (filter keep xs))) e
    by false = refl

-- a name is another than those above its own
apart : (letters : CaseTable) (name key other : List ℕ) → is_same_name letters name key ≡ true → name_cmp letters key other ≡ Less → is_same_name letters name other ≡ false
apart letters name key other same below = ap (λ k. is_eq (key_cmp k (name_key letters other))) (key_of_same letters name key same) ∙ ap is_eq below

-- the streams that are listed
abbrev pub is_listed : CaseTable → Object → Bool
is_listed letters o = is_stream o && (not (is_special letters (object_name o)) && not (is_marked (object_name o)))

module _ (letters : CaseTable) (may : keeps_encoded_names letters ≡ true) where
  -- the names of tables' streams are marked
  marked_any : {X : Type 0} (name : X → List ℕ) (xs : List X) (other : List ℕ) → list_any (λ n. is_same_name letters n other) (map (λ x. stream_name (name x)) xs) ≡ true → is_marked other ≡ true
  marked_any name [] other e = absurd (cc)
  marked_any name (x ∷ xs) other e = elim (either _ _ e) [
    | inl same ↦ marked_alike letters may (stream_name (name x)) other refl same
    | inr later ↦ marked_any name xs other later
  ]

  summary_special : (other : List ℕ) → is_same_name letters summary_name other ≡ true → is_special letters other ≡ true
  summary_special other e =
      let same : is_same_name letters other summary_name ≡ true = same_of_key letters other summary_name (sym (key_of_same letters summary_name other e)) in
      behind (is_same_name letters other document_summary_name) _ (ap (λ b. b || (is_same_name letters other signature_name || (is_same_name letters other signature_ex_name || false))) same)

  module _ (P : PackageContent) where
    -- one of the database's own streams is the summary or marked
    own_cases : (o : Object) → is_own letters P o ≡ true → (is_same_name letters summary_name (object_name o) ≡ true) ⊎ (is_marked (object_name o) ≡ true)
    own_cases o e = by (either _ _ e)
      where
        name : List ℕ
        name = object_name o

        of_data : (is_same_name letters (stream_name data_name) name ≡ true) ⊎ (list_any (λ n. is_same_name letters n name) (map (λ t. stream_name t.name) P.tables) ≡ true) → is_marked name ≡ true
        of_data (inl same) = marked_alike letters may (stream_name data_name) name refl same
        of_data (inr later) = marked_any (λ t. t.name) P.tables name later

        of_pool : (is_same_name letters (stream_name pool_name) name ≡ true) ⊎ (list_any (λ n. is_same_name letters n name) (stream_name data_name ∷ map (λ t. stream_name t.name) P.tables) ≡ true)
            → is_marked name ≡ true
        of_pool (inl same) = marked_alike letters may (stream_name pool_name) name refl same
        of_pool (inr later) = of_data (either _ _ later)

        by : (is_same_name letters summary_name name ≡ true)
            ⊎ (list_any (λ n. is_same_name letters n name) (stream_name pool_name ∷ stream_name data_name ∷ map (λ t. stream_name t.name) P.tables) ≡ true)
            → (is_same_name letters summary_name name ≡ true) ⊎ (is_marked name ≡ true)
        by (inl same) = inl same
        by (inr later) = inr (of_pool (either _ _ later))

    -- so it is special or marked
    own_told : (o : Object) → is_own letters P o ≡ true → is_special letters (object_name o) || is_marked (object_name o) ≡ true
    own_told o e = elim (own_cases o e) [
      | inl same ↦ ap (λ b. b || is_marked (object_name o)) (summary_special (object_name o) same)
      | inr marked ↦ behind (is_special letters (object_name o)) (is_marked (object_name o)) marked
    ]

    kept_so : (stream own special marked : Bool) → (own ≡ true → special || marked ≡ true) → (stream && not own) && (not special && not marked) ≡ stream && (not special && not marked)
    kept_so false own special marked h = refl
    kept_so true false special marked h = refl
    kept_so true true true marked h = refl
    kept_so true true false true h = refl
    kept_so true true false false h = let no : false ≡ true = h refl in absurd (cc)

    pub names_listed : (tree : Tree) → TreeStoresRest letters tree P → stream_names letters P ≡ map (λ o. encode_utf8_all (decoded_name (object_name o))) (filter (is_listed letters) (objects tree.content))
    names_listed tree stores = ap (map (λ o. encode_utf8_all (decoded_name (object_name o))))
        (ap (filter (λ o. not (is_special letters (object_name o)) && not (is_marked (object_name o)))) stores.streams
        ∙ filter_twice (λ o. is_stream o && not (is_own letters P o)) (λ o. not (is_special letters (object_name o)) && not (is_marked (object_name o))) (is_listed letters)
        (λ o. kept_so (is_stream o) (is_own letters P o) (is_special letters (object_name o)) (is_marked (object_name o)) (own_told o)) (objects tree.content))

  -- ---- what stands at a name

  -- no object after one of its name has the name too
  none_later : (name key : List ℕ) (keep : Object → Bool) (c : Content) → is_same_name letters name key ≡ true → AllByRecursion (λ other. name_cmp letters key other ≡ Less) (child_names c)
      → find (λ o. is_same_name letters name (object_name o)) (filter keep (objects c)) ≡ None
  none_later name key keep nothing same above = refl
  none_later name key keep (stream other bits bytes later) same above =
      passed (λ o. is_same_name letters name (object_name o)) keep (a_stream other bits bytes) (objects later) (apart letters name key other same above.0) ∙ none_later name key keep later same above.1
  none_later name key keep (storage other facts inside later) same above =
      passed (λ o. is_same_name letters name (object_name o)) keep (a_storage other facts inside) (objects later) (apart letters name key other same above.0) ∙ none_later name key keep later same above.1

  module _ (P : PackageContent) (name : List ℕ) (free : (o : Object) → is_same_name letters name (object_name o) ≡ true → is_own letters P o ≡ false) where
    abbrev is_here : Object → Bool
    is_here o = is_same_name letters name (object_name o)

    abbrev is_kept : Object → Bool
    is_kept o = is_stream o && not (is_own letters P o)

    found : (c : Content) → IsStrictlySortedBy (name_cmp letters) (child_names c)
        → option_and_then object_bytes (find is_here (filter is_kept (objects c))) ≡ option_and_then object_bytes (find is_here (objects c))
    found nothing rising = refl
    found (stream key bits bytes later) rising = by (is_here (a_stream key bits bytes)) refl (found later (sorted_tail (name_cmp letters) key (child_names later) rising))
      where
        by : (b : Bool) → is_here (a_stream key bits bytes) ≡ b
            → option_and_then object_bytes (find is_here (filter is_kept (objects later))) ≡ option_and_then object_bytes (find is_here (objects later))
            → option_and_then object_bytes (find is_here (filter is_kept (a_stream key bits bytes ∷ objects later))) ≡ option_and_then object_bytes (cond b (Some (a_stream key bits bytes)) (find is_here (objects later)))
        by true e rest =
            ap (λ b. option_and_then object_bytes (find is_here (cond (not b) (a_stream key bits bytes ∷ filter is_kept (objects later)) (filter is_kept (objects later))))) (free (a_stream key bits bytes) e)
            ∙ ap (λ b. option_and_then object_bytes (cond b (Some (a_stream key bits bytes)) (find is_here (filter is_kept (objects later))))) e
        by false e rest = ap (option_and_then object_bytes) (passed is_here is_kept (a_stream key bits bytes) (objects later) e) ∙ rest
    found (storage key facts inside later) rising = by (is_here (a_storage key facts inside)) refl (found later (sorted_tail (name_cmp letters) key (child_names later) rising))
      where
        by : (b : Bool) → is_here (a_storage key facts inside) ≡ b
            → option_and_then object_bytes (find is_here (filter is_kept (objects later))) ≡ option_and_then object_bytes (find is_here (objects later))
            → option_and_then object_bytes (find is_here (filter is_kept (objects later))) ≡ option_and_then object_bytes (cond b (Some (a_storage key facts inside)) (find is_here (objects later)))
        by true e rest = ap (option_and_then object_bytes) (none_later name key is_kept later e (sorted_head (name_cmp letters) key (child_names later) rising))
        by false e rest = rest

    -- a stream of no such name is found among all objects
    pub stream_found : (tree : Tree) → TreeStoresRest letters tree P → IsStrictlySortedBy (name_cmp letters) (child_names tree.content)
        → stream_at letters P.streams name ≡ stream_at letters (objects tree.content) name
    stream_found tree stores rising = ap (λ os. stream_at letters os name) stores.streams ∙ found tree.content rising

  -- which names are those of the database's own streams hangs on keys alone
  own_alike : (P : PackageContent) (name : List ℕ) (o : Object) → is_same_name letters name (object_name o) ≡ true → is_own letters P o ≡ is_own letters P (a_stream name 0 [])
  own_alike P name o same =
      ap (λ k. list_any (λ n. is_eq (key_cmp (name_key letters n) k)) (summary_name ∷ stream_name pool_name ∷ stream_name data_name ∷ map (λ t. stream_name t.name) P.tables))
      (sym (key_of_same letters name (object_name o) same))

  -- a name that calls take is none of these
  pub taken_free : (P : PackageContent) (name : List ℕ) → is_special letters name ≡ false → is_marked name ≡ false → (o : Object) → is_same_name letters name (object_name o) ≡ true → is_own letters P o ≡ false
  taken_free P name special marked o same = own_alike P name o same ∙ by (is_own letters P (a_stream name 0 [])) refl
    where
      by : (b : Bool) → is_own letters P (a_stream name 0 []) ≡ b → b ≡ false
      by false e = refl
      by true e = let no : true ≡ false = sym (own_told P (a_stream name 0 []) e) ∙ ap (λ b. b || is_marked name) special ∙ marked in absurd (cc)

  -- nor is the signature's, where it isn't the summary's
  pub signature_free : (P : PackageContent) → is_same_name letters summary_name signature_name ≡ false → (o : Object) → is_same_name letters signature_name (object_name o) ≡ true → is_own letters P o ≡ false
  signature_free P other o same = own_alike P signature_name o same ∙ by (is_own letters P (a_stream signature_name 0 [])) refl
    where
      by : (b : Bool) → is_own letters P (a_stream signature_name 0 []) ≡ b → b ≡ false
      by false e = refl
      by true e = elim (own_cases P (a_stream signature_name 0 []) e) [
        | inl summary ↦ let no : true ≡ false = sym summary ∙ other in absurd (cc)
        | inr marked ↦ let no : false ≡ true = marked in absurd (cc)
      ]

  -- where it is the summary's, no stream is the signature
  pub signature_own : (P : PackageContent) → is_same_name letters summary_name signature_name ≡ true → (o : Object) → is_same_name letters signature_name (object_name o) ≡ true → is_own letters P o ≡ true
  signature_own P summary o same = own_alike P signature_name o same
      ∙ ap (λ b. b || list_any (λ n. is_same_name letters n signature_name) (stream_name pool_name ∷ stream_name data_name ∷ map (λ t. stream_name t.name) P.tables)) summary

  -- nothing is found by a name that only the database's own streams have
  pub none_found : (P : PackageContent) (tree : Tree) (name : List ℕ) → TreeStoresRest letters tree P → ((o : Object) → is_same_name letters name (object_name o) ≡ true → is_own letters P o ≡ true) → stream_at letters P.streams name ≡ None
  none_found P tree name stores own = ap (λ os. stream_at letters os name) stores.streams ∙ ap (option_and_then object_bytes)
      (none_kept (λ o. is_same_name letters name (object_name o)) (λ o. is_stream o && not (is_own letters P o)) (λ o same. out (is_stream o) (is_own letters P o) (own o same)) (objects tree.content))
    where
      out : (a b : Bool) → b ≡ true → a && not b ≡ false
      out true b e = ap not e
      out false b e = refl
