-- A tree that got the rows of a new package stores it.
use Rattle.std.proofs.Common.{◌≡◌, ◌∙◌, ℕ, zero, suc, Bool, true, false, cond, List, [], ◌∷◌, length, map, Some, None, refl, sym, ap, subst, arith, Ok}
use Rattle.std.specs.Prelude.{◌&&◌, ◌||◌, ◌↔◌, not, bytes_eq, filter, option_and_then, slice_get, unwrap_or, All, Contains, IsTrue}
use Rattle.std.specs.List.{list_any}
use Rattle.std.specs.Str.{chars}
use Rattle.std.specs.List.Sorted.{IsPermutation, IsStrictlySortedBy}
use Rattle.std.proofs.lemmas.Cmp.{nat_list_eq_equiv}
use Rattle.std.proofs.lemmas.List.Elements.{All-cons, All-head, All-nil}
use Rattle.std.proofs.lemmas.List.Sorted.{All-permutation, IsPermutation-map, length_permutation}
use Rattle.std.proofs.lemmas.Map.Views.{list_any-from_Contains, Contains-from_any}
use Rattle.cfb_tree.specs.Names.{CaseTable}
use Rattle.cfb_tree.specs.Objects.{a_stream, is_same_name, name_of, Object}
use Rattle.cfb_tree.specs.Tree.{Tree}
use Rattle.cfb_tree.proofs.OneContent.{Some_same}
use Rattle.msi_columns.specs.Column.{Column}
use Rattle.msi_pool.specs.Pool.{Pool}
use Rattle.msi_tables.specs.Rows.{kinds_of, rows_bytes, rows_of, Row}
use Rattle.msi_tables.specs.Schema.{begins_with, columns_columns, columns_in, columns_name, columns_rows, is_schema, tables_columns, tables_name, validation_columns, validation_name, validation_row}
use Rattle.msi_tables.specs.Table.{row_data, IsStoredByKeys}
use Rattle.msi_texts.specs.Category.{is_identifier}
use Rattle.msi_texts.specs.StreamName.{is_marked}
use Rattle.msi_values.specs.Datum.{text, Datum}
use Rattle.msi_schema.proofs.Beside.{moved}
use Rattle.msi_schema.proofs.Schemas.{schemas_moved}
use Rattle.msi_spec.specs.RoundTrips.{RowsRoundTrip}
use Rattle.msi_spec.specs.Calls.{bare_package, described, Rows3}
use Rattle.msi_spec.specs.Opening.{keeps_encoded_names}
use Rattle.msi_spec.specs.Package.{at_name, data_name, is_own, is_stream, is_table_name, object_bytes, objects, pool_name, stream_at, stream_name, summary_name, table_name_cmp, table_stream, PackageContent}
use Rattle.msi_spec.specs.Sound.{is_free_table_name}
use Rattle.msi_spec.specs.SoundParts.{HasSoundNames}
use Rattle.msi_spec.specs.Split.{TreeStoresRest}
use Rattle.msi_spec.specs.Streams.{stream_put, IsDropped}
use Rattle.msi_spec.specs.declared.kind.PackageType.{PackageType}
use Rattle.msi_spec.specs.declared.kind.PackageType.TheVariants.{Installer, Patch, Transform}
use Rattle.msi_spec.proofs.Roots.{put_dropped, put_found}
use Rattle.msi_spec.proofs.StreamKeys.{same_by_key}
use Rattle.msi_spec.proofs.SystemRows.{same_bytes}
use Rattle.msi_stored.specs.Changing.{StoresSoundPackage}
use Rattle.msi_rewritten.proofs.Beside.{put_beside, put_keeps_storages}
use Rattle.msi_rewritten.proofs.Names.{no_slash, storage_listed, tables_apart}
use Rattle.msi_rewritten.proofs.Put.{names_differ}
use Rattle.msi_new_package.specs.New.{new_package, IsLaidDown}
use Rattle.msi_new_package.proofs.Counted.{all_three, new_counted, system_tables}
use Rattle.msi_new_package.proofs.Made.{c_moved, columns_say, free_empty, made, made_is, rows_back, t_moved, tables_say, v_moved, validation_says}

abbrev storages_in : List Object → List Object
storages_in os = filter (λ o. not (is_stream o)) os

or_right : (a b : Bool) → b ≡ true → (a || b) ≡ true
or_right true b e = refl
or_right false b e = e

and_none : (a b : Bool) → b ≡ true → (a && not b) ≡ false
and_none true b e = ap not e
and_none false b e = refl

any_at : (f : List ℕ → Bool) (xs : List (List ℕ)) (k : ℕ) (x : List ℕ) → slice_get xs k ≡ Some x → f x ≡ true → list_any f xs ≡ true
any_at f [] k x at h = absurd (cc)
any_at f (y ∷ ys) zero x at h = (let one : y ≡ x = Some_same at in ap (λ b. b || list_any f ys) (ap f one ∙ h))
any_at f (y ∷ ys) (suc k) x at h = or_right (f y) (list_any f ys) (any_at f ys k x at h)

one_left : {X : Type 0} (x : X) (ys : List X) → IsPermutation (x ∷ []) ys → ys ≡ x ∷ []
one_left {X} x ys moved = on ys (length_permutation (x ∷ []) ys moved) (All-permutation (λ y. y ≡ x) (x ∷ []) ys moved (All-cons (λ y. y ≡ x) x [] refl (All-nil (λ y. y ≡ x))))
  where
    on : (ys : List X) → length ys ≡ 1 → All (λ y. y ≡ x) ys → ys ≡ x ∷ []
    on [] long all = absurd (omega (arith, long))
    on (y ∷ []) long all = ap (λ z. z ∷ []) (All-head (λ y. y ≡ x) y [] all)
    on (y ∷ z ∷ zs) long all = absurd (omega (arith, long))

pub names_free : (is_free_table_name columns_name ≡ true) × (is_free_table_name tables_name ≡ true) × (is_free_table_name validation_name ≡ true)
unfolding chars
names_free = (refl, refl, refl)

-- ---- a stream that is put where no storage is

module _ (letters : CaseTable) (name bytes : List ℕ) (os : List Object) (none : storages_in os ≡ []) where
  abbrev n : List ℕ
  n = stream_name name

  pub none_there : at_name letters (storages_in os) n ≡ None
  none_there = ap (λ os. at_name letters os n) none

  pub none_after : storages_in (stream_put letters n bytes os) ≡ []
  none_after = put_keeps_storages letters n bytes os none_there ∙ none

  only_streams : (o : Object) → at_name letters os n ≡ Some o → is_stream o ≡ true
  only_streams o there = by (is_stream o) refl
    where
      by : (b : Bool) → is_stream o ≡ b → b ≡ true
      by true is = refl
      by false is = (let never : None ≡ Some o = sym none_there ∙ storage_listed letters n os o there is in absurd (cc))

  pub found_there : stream_at letters (stream_put letters n bytes os) n ≡ Some bytes
  found_there = put_found letters n bytes os only_streams (same_by_key letters n n refl)

module _ (letters : CaseTable) (usable : keeps_encoded_names letters ≡ true) (kind : PackageType) (c t v : List Row) (by_columns : IsStoredByKeys made.1 columns_columns made.0.0 c)
    (by_tables : IsStoredByKeys made.1 tables_columns made.0.1 t) (by_validation : IsStoredByKeys made.1 validation_columns made.0.2 v) where
  abbrev Q : PackageContent
  Q = new_package kind made.1 c t v

  -- ---- the rows as values

  abbrev said : List Row → List (List Datum)
  said rows = map (row_data made.1) rows

  columns_moved : IsPermutation (columns_rows validation_name 1 validation_columns) (said c)
  columns_moved = subst (λ rows. IsPermutation rows (said c)) columns_say (IsPermutation-map (row_data made.1) made.0.0 c (c_moved c t v by_columns by_tables by_validation))

  validation_moved : IsPermutation (map (validation_row validation_name) validation_columns) (said v)
  validation_moved = subst (λ rows. IsPermutation rows (said v)) validation_says (IsPermutation-map (row_data made.1) made.0.2 v (v_moved c t v by_columns by_tables by_validation))

  tables_moved : IsPermutation ((text validation_name ∷ []) ∷ []) (said t)
  tables_moved = subst (λ rows. IsPermutation rows (said t)) tables_say (IsPermutation-map (row_data made.1) made.0.1 t (t_moved c t v by_columns by_tables by_validation))

  tables_are : said t ≡ (text validation_name ∷ []) ∷ []
  tables_are = one_left (text validation_name ∷ []) (said t) tables_moved

  -- ---- names

  names_are : (m : List ℕ) → IsTrue (is_table_name Q m) ↔ Contains (map (λ t. t.name) Q.tables) m
  names_are m =
      let told : list_any (bytes_eq m) (map (λ t. t.name) Q.tables) ≡ is_table_name Q m =
      sym (either (bytes_eq m tables_name) (bytes_eq m columns_name) (bytes_eq m validation_name) (list_any (begins_with m) (said t)) (listed m)) in (
        λ h. Contains-from_any {eq = bytes_eq} same_bytes m (map (λ t. t.name) Q.tables) (told ∙ h),
        λ h. (sym told ∙ list_any-from_Contains {eq = bytes_eq} nat_list_eq_equiv m (map (λ t. t.name) Q.tables) h),
      )
    where
      swap : (a b : List ℕ) → bytes_eq a b ≡ bytes_eq b a
      swap a b = both (bytes_eq a b) (bytes_eq b a) refl refl
        where
          both : (p q : Bool) → bytes_eq a b ≡ p → bytes_eq b a ≡ q → p ≡ q
          both true true e f = refl
          both false false e f = refl
          both true false e f = absurd (names_differ b a f (sym (same_bytes a b e)))
          both false true e f = absurd (names_differ a b e (sym (same_bytes b a f)))

      listed : (m : List ℕ) → list_any (begins_with m) (said t) ≡ (bytes_eq m validation_name || false)
      listed m = ap (list_any (begins_with m)) tables_are ∙ ap (λ b. b || false) (swap validation_name m)

      either : (a b d l : Bool) → l ≡ (d || false) → (a || b || l) ≡ (b || (a || (d || false)))
      either true true d l e = refl
      either true false d l e = refl
      either false true d l e = refl
      either false false d l e = e

  rising : IsStrictlySortedBy table_name_cmp (map (λ t. t.name) Q.tables)
  unfolding IsStrictlySortedBy
  rising = ((refl, (refl, tt)), ((refl, tt), (tt, tt)))

  -- ---- the schema

  schema_is : is_schema (said t) (said c) (said v) ≡ true
  schema_is = schemas_moved ((text validation_name ∷ []) ∷ []) (said t) (columns_rows validation_name 1 validation_columns) (said c) (map (validation_row validation_name) validation_columns) (said v)
      tables_moved columns_moved validation_moved refl

  own_columns : columns_in (said c) (said v) validation_name ≡ Some validation_columns
  own_columns = moved (columns_rows validation_name 1 validation_columns) (said c) (map (validation_row validation_name) validation_columns) (said v) columns_moved validation_moved refl refl validation_name

  columns_are : All (λ u. columns_in (said c) (said v) u.name ≡ Some u.columns) (system_tables c t v)
  columns_are = all_three (λ u. columns_in (said c) (said v) u.name ≡ Some u.columns) c t v refl refl own_columns

  named : HasSoundNames letters Q
  named = record {
    one_section = sections kind;
    no_strays = All-nil (λ o. IsTrue (not (is_marked (name_of o))));
    table_names = all_three (λ t. IsTrue (is_free_table_name t.name)) c t v names_free.0 names_free.1 names_free.2;
    no_storage = all_three (λ t. at_name letters [] (stream_name t.name) ≡ None) c t v refl refl refl;
    not_listed = subst (All (λ r. IsTrue (not (begins_with tables_name r) && not (begins_with columns_name r)))) (sym tables_are)
        (All-cons (λ r. IsTrue (not (begins_with tables_name r) && not (begins_with columns_name r))) (text validation_name ∷ []) [] refl (All-nil (λ r. IsTrue (not (begins_with tables_name r) && not (begins_with columns_name r)))));
    validation_kinds = refl;
    validation_keys = refl;
  }
    where
      sections : (kind : PackageType) → (bare_package kind).summary.sections ≡ 1
      sections Installer = refl
      sections Patch = refl
      sections Transform = refl

  -- ---- streams

  abbrev keep : Object → Bool
  keep o = is_stream o && not (is_own letters Q o)

  dropped : (name : List ℕ) (k : ℕ) → slice_get (summary_name ∷ stream_name pool_name ∷ stream_name data_name ∷ map (λ t. stream_name t.name) Q.tables) k ≡ Some (stream_name name) → IsDropped letters keep (stream_name name)
  dropped name k at = record {
    dropped = λ o same. and_none (is_stream o) (is_own letters Q o) (own o same);
    new = λ content. and_none true (is_own letters Q (a_stream (stream_name name) 0 content)) (own (a_stream (stream_name name) 0 content) (same_by_key letters (stream_name name) (stream_name name) refl));
  }
    where
      own : (o : Object) → is_same_name letters (stream_name name) (name_of o) ≡ true → is_own letters Q o ≡ true
      own o same = any_at (λ n. is_same_name letters n (name_of o)) (summary_name ∷ stream_name pool_name ∷ stream_name data_name ∷ map (λ t. stream_name t.name) Q.tables) k (stream_name name) at same

  module _ (bc bt bv : List ℕ) (wc : rows_bytes false (kinds_of columns_columns) c ≡ Some bc) (wt : rows_bytes false (kinds_of tables_columns) t ≡ Some bt) (wv : rows_bytes false (kinds_of validation_columns) v ≡ Some bv)
      (tree : Tree) (laid : IsLaidDown letters kind bc bt bv tree) where
    abbrev os0 : List Object
    os0 = objects laid.start.content

    abbrev os1 : List Object
    os1 = stream_put letters (stream_name columns_name) bc os0

    abbrev os2 : List Object
    os2 = stream_put letters (stream_name tables_name) bt os1

    abbrev os3 : List Object
    os3 = stream_put letters (stream_name validation_name) bv os2

    objects_are : objects tree.content ≡ os3
    objects_are =
        laid.validation.objects
        ∙ ap (stream_put letters (stream_name validation_name) bv)
        (laid.tables.objects ∙ ap (stream_put letters (stream_name tables_name) bt) laid.columns.objects)

    none0 : storages_in os0 ≡ []
    none0 = ap storages_in laid.nothing

    none1 : storages_in os1 ≡ []
    none1 = none_after letters columns_name bc os0 none0

    none2 : storages_in os2 ≡ []
    none2 = none_after letters tables_name bt os1 none1

    none3 : storages_in os3 ≡ []
    none3 = none_after letters validation_name bv os2 none2

    nothing_else : filter keep os3 ≡ []
    nothing_else =
        put_dropped letters (stream_name validation_name) bv keep (dropped validation_name 5 refl) os2
        ∙ put_dropped letters (stream_name tables_name) bt keep (dropped tables_name 4 refl) os1
        ∙ put_dropped letters (stream_name columns_name) bc keep (dropped columns_name 3 refl) os0
        ∙ ap (filter keep) laid.nothing

    -- what stands at a name beside one that was put
    past : (name bytes : List ℕ) (os : List Object) (other : List ℕ) → is_identifier name ≡ true → is_identifier other ≡ true → bytes_eq other name ≡ false
        → stream_at letters (stream_put letters (stream_name name) bytes os) (stream_name other) ≡ stream_at letters os (stream_name other)
    past name bytes os other e f differ = ap (option_and_then object_bytes) (put_beside letters (stream_name name) bytes (stream_name other) (tables_apart letters usable other name f e (names_differ other name differ)) os)

    at_columns : stream_at letters os3 (stream_name columns_name) ≡ Some bc
    at_columns =
        past validation_name bv os2 columns_name refl refl refl
        ∙ past tables_name bt os1 columns_name refl refl refl
        ∙ found_there letters columns_name bc os0 none0

    at_tables : stream_at letters os3 (stream_name tables_name) ≡ Some bt
    at_tables = past validation_name bv os2 tables_name refl refl refl ∙ found_there letters tables_name bt os1 none1

    at_validation : stream_at letters os3 (stream_name validation_name) ≡ Some bv
    at_validation = found_there letters validation_name bv os2 none2

    read_back : (name : List ℕ) (columns : List Column) (rows : List Row) (bytes : List ℕ) → is_identifier name ≡ true → RowsRoundTrip false columns rows → rows_bytes false (kinds_of columns) rows ≡ Some bytes
        → stream_at letters os3 (stream_name name) ≡ Some bytes → rows_of false (kinds_of columns) (unwrap_or (table_stream letters (objects tree.content) name) []) ≡ Some rows
    read_back name columns rows bytes e back written there =
        ap (λ os. rows_of false (kinds_of columns) (unwrap_or (table_stream letters os name) [])) objects_are
        ∙ ap (λ b. rows_of false (kinds_of columns) (unwrap_or (cond b None (stream_at letters os3 (stream_name name))) [])) (no_slash name e)
        ∙ ap (λ o. rows_of false (kinds_of columns) (unwrap_or o [])) there
        ∙ ap (rows_of false (kinds_of columns)) (Some_same (sym written ∙ back.written))
        ∙ back.read

    abbrev backs : RowsRoundTrip false columns_columns c × RowsRoundTrip false tables_columns t × RowsRoundTrip false validation_columns v
    backs = rows_back c t v by_columns by_tables by_validation

    validation_read : rows_of false (kinds_of validation_columns) (unwrap_or (table_stream letters (objects tree.content) validation_name) []) ≡ Some v
    validation_read = read_back validation_name validation_columns v bv refl backs.2 wv at_validation

    rows_are : All (λ u. rows_of false (kinds_of u.columns) (unwrap_or (table_stream letters (objects tree.content) u.name) []) ≡ Some u.rows) (system_tables c t v)
    rows_are = all_three (λ u. rows_of false (kinds_of u.columns) (unwrap_or (table_stream letters (objects tree.content) u.name) []) ≡ Some u.rows) c t v
        (read_back columns_name columns_columns c bc refl backs.0 wc at_columns)
        (read_back tables_name tables_columns t bt refl backs.1 wt at_tables)
        validation_read

    stores : TreeStoresRest letters tree Q
    stores = record {
      class = ap (λ facts. facts.clsid) (laid.validation.root ∙ laid.tables.root ∙ laid.columns.root) ∙ laid.class;
      rising = rising;
      names = names_are;
      rows = rows_are;
      validation = v;
      validation_is = validation_read;
      schema = schema_is;
      columns = columns_are;
      streams = sym (ap (filter keep) objects_are ∙ nothing_else);
      storages = sym (ap storages_in objects_are ∙ none3);
    }

    pub stored_made : StoresSoundPackage letters tree Q
    stored_made = record {
      usable = usable;
      stores = stores;
      counted = new_counted c t v (c_moved c t v by_columns by_tables by_validation) (t_moved c t v by_columns by_tables by_validation) (v_moved c t v by_columns by_tables by_validation);
      free = free_empty;
      named = named;
    }

pub new_stored : (letters : CaseTable) → keeps_encoded_names letters ≡ true → (kind : PackageType) (x : Rows3 × Pool) → described (bare_package kind) validation_name validation_columns ≡ Ok x
    → (c t v : List Row) → IsStoredByKeys x.1 columns_columns x.0.0 c → IsStoredByKeys x.1 tables_columns x.0.1 t → IsStoredByKeys x.1 validation_columns x.0.2 v
    → (bc bt bv : List ℕ) → rows_bytes false (kinds_of columns_columns) c ≡ Some bc → rows_bytes false (kinds_of tables_columns) t ≡ Some bt → rows_bytes false (kinds_of validation_columns) v ≡ Some bv
    → (tree : Tree) → IsLaidDown letters kind bc bt bv tree → StoresSoundPackage letters tree (new_package kind x.1 c t v)
new_stored letters usable kind x is =
    subst (λ (y : Rows3 × Pool). (c t v : List Row) → IsStoredByKeys y.1 columns_columns y.0.0 c → IsStoredByKeys y.1 tables_columns y.0.1 t → IsStoredByKeys y.1 validation_columns y.0.2 v
    → (bc bt bv : List ℕ) → rows_bytes false (kinds_of columns_columns) c ≡ Some bc → rows_bytes false (kinds_of tables_columns) t ≡ Some bt → rows_bytes false (kinds_of validation_columns) v ≡ Some bv
    → (tree : Tree) → IsLaidDown letters kind bc bt bv tree → StoresSoundPackage letters tree (new_package kind y.1 c t v))
    (made_is kind x is)
    (stored_made letters usable kind)

pub new_back : (kind : PackageType) (x : Rows3 × Pool) → described (bare_package kind) validation_name validation_columns ≡ Ok x
    → (c t v : List Row) → IsStoredByKeys x.1 columns_columns x.0.0 c → IsStoredByKeys x.1 tables_columns x.0.1 t → IsStoredByKeys x.1 validation_columns x.0.2 v
    → RowsRoundTrip false columns_columns c × RowsRoundTrip false tables_columns t × RowsRoundTrip false validation_columns v
new_back kind x is =
    subst (λ (y : Rows3 × Pool). (c t v : List Row) → IsStoredByKeys y.1 columns_columns y.0.0 c → IsStoredByKeys y.1 tables_columns y.0.1 t → IsStoredByKeys y.1 validation_columns y.0.2 v
    → RowsRoundTrip false columns_columns c × RowsRoundTrip false tables_columns t × RowsRoundTrip false validation_columns v)
    (made_is kind x is)
    rows_back
