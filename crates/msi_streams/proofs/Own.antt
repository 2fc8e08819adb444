-- A stream of the database itself that is put: the tree stores the package still.
use Rattle.std.proofs.Common.{◌≡◌, ◌∙◌, ℕ, Bool, true, false, cond, List, [], ◌∷◌, Some, None, Option, get_or, map, refl, sym, ap}
use Rattle.std.specs.Prelude.{◌&&◌, ◌||◌, not, bytes_eq, filter, option_and_then, unwrap_or, All, IsTrue, chars}
use Rattle.std.specs.List.{list_any}
use Rattle.std.specs.Ordering.{is_eq}
use Rattle.std.proofs.lemmas.Bool.{and_parts}
use Rattle.cfb_tree.specs.Names.{CaseTable, key_cmp, name_key}
use Rattle.cfb_tree.specs.Objects.{a_stream, is_same_name, name_of, Object}
use Rattle.cfb_tree.specs.Tree.{Tree}
use Rattle.msi_columns.specs.Column.{Column}
use Rattle.msi_spec.specs.Opening.{keeps_encoded_names}
use Rattle.msi_spec.specs.Package.{PackageContent, at_name, data_name, has_slash, is_own, is_stream, object_bytes, objects, pool_name, stream_at, stream_name, summary_name, table_stream}
use Rattle.msi_spec.specs.Sound.{is_free_table_name}
use Rattle.msi_spec.specs.Split.{TreeStoresRest}
use Rattle.msi_spec.specs.Streams.{stream_put, IsDropped}
use Rattle.msi_spec.proofs.EncodedKeys.{keys_tell, name_encoded, one_table}
use Rattle.msi_spec.proofs.Roots.{put_dropped, put_found}
use Rattle.msi_tables.specs.Rows.{Row, kinds_of, rows_of}
use Rattle.msi_tables.specs.Schema.{validation_columns, validation_name}
use Rattle.msi_texts.specs.Category.{is_identifier}
use Rattle.msi_texts.specs.StreamName.{is_valid_name}
use Rattle.msi_streams.specs.Parts.{HasNoStorageAt}
use Rattle.msi_streams.proofs.Marks.{key_of_same, same_of_key}
use Rattle.msi_streams.proofs.Objects.{put_apart, put_storages}
use Rattle.msi_streams.proofs.Stored.{is_kept, marked_differs, not_true}

-- the root's objects with these bytes at a name, where no storage stood
pub record IsPut (letters : CaseTable) (name bytes : List ℕ) (old new : Tree) : Type 0 where
  pub root : new.root ≡ old.root
  pub put : objects new.content ≡ stream_put letters name bytes (objects old.content)
  pub streams : (o : Object) → at_name letters (objects old.content) name ≡ Some o → is_stream o ≡ true

second : (a b c : Bool) → b ≡ true → a || (b || c) ≡ true
second true b c e = refl
second false true c e = refl
second false false c e = absurd (cc)

third : (a b c d : Bool) → c ≡ true → a || (b || (c || d)) ≡ true
third true b c d e = refl
third false b c d e = second b c d e

-- names of tables that differ have streams that differ
unlike : (a b : List ℕ) → bytes_eq a b ≡ false → bytes_eq b b ≡ true → a ≡ b → ⊥
unlike a b differ same e = let never : false ≡ true = sym differ ∙ ap (λ n. bytes_eq n b) e ∙ same in cc

is_false : (b : Bool) → not b ≡ true → b ≡ false
is_false true e = absurd (cc)
is_false false e = refl

module _ (letters : CaseTable) (may : keeps_encoded_names letters ≡ true) where
  tables_apart : (a b : List ℕ) → is_identifier a ≡ true → is_identifier b ≡ true → (a ≡ b → ⊥) → is_same_name letters (stream_name a) (stream_name b) ≡ false
  tables_apart a b one other differ = not_true (is_same_name letters (stream_name a) (stream_name b)) (λ same.
      differ (one_table a b one other (keys_tell letters (stream_name a) (stream_name b) may (name_encoded a one) (key_of_same letters (stream_name a) (stream_name b) same))))

  -- a name of the database itself, which no table has
  pub record IsApart (P : PackageContent) (name : List ℕ) : Type 0 where
    pub own : is_own letters P (a_stream name 0 []) ≡ true
    pub tables : All (λ t. is_same_name letters (stream_name t.name) name ≡ false) P.tables
    pub validation : is_same_name letters (stream_name validation_name) name ≡ false

  self : (name : List ℕ) → is_same_name letters name name ≡ true
  self name = same_of_key letters name name refl

  module _ (P : PackageContent) (free : All (λ t. IsTrue (is_free_table_name t.name)) P.tables) where
    parts : (name : List ℕ) → is_free_table_name name ≡ true → (is_identifier name ≡ true) × (bytes_eq name pool_name ≡ false) × (bytes_eq name data_name ≡ false)
    parts name is =
        let outer = and_parts ((is_identifier name && is_valid_name true (chars name)) && not (bytes_eq name pool_name)) (not (bytes_eq name data_name)) is in
        let inner = and_parts (is_identifier name && is_valid_name true (chars name)) (not (bytes_eq name pool_name)) outer.0 in
        let first = and_parts (is_identifier name) (is_valid_name true (chars name)) inner.0 in
        (first.0, is_false _ inner.1, is_false _ outer.1)

    pub summary_apart : IsApart P summary_name
    summary_apart = record {
      own = ap (λ b. b || list_any (λ n. is_same_name letters n summary_name) (stream_name pool_name ∷ stream_name data_name ∷ map (λ t. stream_name t.name) P.tables)) (self summary_name);
      tables = λ k t below. marked_differs letters may summary_name refl (stream_name (get_or P.tables k t).name) refl;
      validation = marked_differs letters may summary_name refl (stream_name validation_name) refl;
    }

    pub pool_apart : IsApart P (stream_name pool_name)
    pool_apart = record {
      own = second (is_same_name letters summary_name (stream_name pool_name)) (is_same_name letters (stream_name pool_name) (stream_name pool_name))
          (list_any (λ n. is_same_name letters n (stream_name pool_name)) (stream_name data_name ∷ map (λ t. stream_name t.name) P.tables)) (self (stream_name pool_name));
      tables = λ k t below.
          let is = parts (get_or P.tables k t).name (free k t below) in tables_apart (get_or P.tables k t).name pool_name is.0 refl (unlike (get_or P.tables k t).name pool_name is.1 refl);
      validation = tables_apart validation_name pool_name refl refl (unlike validation_name pool_name refl refl);
    }

    pub data_apart : IsApart P (stream_name data_name)
    data_apart = record {
      own = third (is_same_name letters summary_name (stream_name data_name)) (is_same_name letters (stream_name pool_name) (stream_name data_name))
          (is_same_name letters (stream_name data_name) (stream_name data_name))
          (list_any (λ n. is_same_name letters n (stream_name data_name)) (map (λ t. stream_name t.name) P.tables)) (self (stream_name data_name));
      tables = λ k t below.
          let is = parts (get_or P.tables k t).name (free k t below) in tables_apart (get_or P.tables k t).name data_name is.0 refl (unlike (get_or P.tables k t).name data_name is.2 refl);
      validation = tables_apart validation_name data_name refl refl (unlike validation_name data_name refl refl);
    }

  module _ (name bytes : List ℕ) (old new : Tree) (is : IsPut letters name bytes old new) where
    others_yet : (other : List ℕ) → is_same_name letters other name ≡ false → at_name letters (objects new.content) other ≡ at_name letters (objects old.content) other
    others_yet other differs = ap (λ os. at_name letters os other) is.put ∙ put_apart letters name bytes other differs (objects old.content)

    table_yet : (table : List ℕ) → is_same_name letters (stream_name table) name ≡ false → table_stream letters (objects new.content) table ≡ table_stream letters (objects old.content) table
    table_yet table differs = ap (λ o. cond (has_slash table) None (option_and_then object_bytes o)) (others_yet (stream_name table) differs)

    -- no storage comes to another name
    pub open_yet : (other : List ℕ) → is_same_name letters other name ≡ false → HasNoStorageAt letters old other → HasNoStorageAt letters new other
    open_yet other differs none o there = none o (sym (others_yet other differs) ∙ there)

    pub stream_yet : (other : List ℕ) → is_same_name letters other name ≡ false → stream_at letters (objects new.content) other ≡ stream_at letters (objects old.content) other
    stream_yet other differs = ap (option_and_then object_bytes) (others_yet other differs)

    -- it is found there
    pub put_at : stream_at letters (objects new.content) name ≡ Some bytes
    put_at = ap (λ os. stream_at letters os name) is.put ∙ put_found letters name bytes (objects old.content) is.streams (self name)

    abbrev read_by : Bool → List Column → Option (List ℕ) → Option (List Row)
    read_by long columns bytes = rows_of long (kinds_of columns) (unwrap_or bytes [])

    pub own_stores : (P : PackageContent) → IsApart P name → TreeStoresRest letters old P → TreeStoresRest letters new P
    own_stores P apart s = record {
      class = ap (λ r. r.clsid) is.root ∙ s.class;
      rising = s.rising;
      names = s.names;
      rows = λ k t below. ap (read_by P.pool.long (get_or P.tables k t).columns) (table_yet (get_or P.tables k t).name (apart.tables k t below)) ∙ s.rows k t below;
      validation = s.validation;
      validation_is = ap (read_by P.pool.long validation_columns) (table_yet validation_name apart.validation) ∙ s.validation_is;
      schema = s.schema;
      columns = s.columns;
      streams = s.streams ∙ sym (put_dropped letters name bytes (is_kept letters P) gone (objects old.content)) ∙ ap (filter (is_kept letters P)) (sym is.put);
      storages = s.storages ∙ sym (put_storages letters name bytes (objects old.content)) ∙ ap (filter (λ o. not (is_stream o))) (sym is.put);
    }
      where
        own_alike : (o : Object) → is_same_name letters name (name_of o) ≡ true → is_own letters P o ≡ true
        own_alike o same =
            ap (λ k. list_any (λ n. is_eq (key_cmp (name_key letters n) k)) (summary_name ∷ stream_name pool_name ∷ stream_name data_name ∷ map (λ t. stream_name t.name) P.tables)) (sym (key_of_same letters name (name_of o) same))
            ∙ apart.own

        none : (a b : Bool) → b ≡ true → a && not b ≡ false
        none true b e = ap not e
        none false b e = refl

        gone : IsDropped letters (is_kept letters P) name
        gone = record {
          dropped = λ o same. none (is_stream o) (is_own letters P o) (own_alike o same);
          new = λ content. none true (is_own letters P (a_stream name 0 content)) (own_alike (a_stream name 0 content) (self name));
        }

  -- ---- the three, one after the other

  module _ (P : PackageContent) (free : All (λ t. IsTrue (is_free_table_name t.name)) P.tables) (summary pool rest : List ℕ) (t0 t1 t2 t3 : Tree)
      (one : IsPut letters summary_name summary t0 t1) (two : IsPut letters (stream_name pool_name) pool t1 t2) (three : IsPut letters (stream_name data_name) rest t2 t3) where
    pub parts_stored : TreeStoresRest letters t0 P → TreeStoresRest letters t3 P
    parts_stored s =
        own_stores (stream_name data_name) rest t2 t3 three P (data_apart P free)
        (own_stores (stream_name pool_name) pool t1 t2 two P (pool_apart P free) (own_stores summary_name summary t0 t1 one P (summary_apart P free) s))

    pub marked_else : (table : List ℕ) → is_same_name letters summary_name (stream_name table) ≡ false
    marked_else table = not_true _ (λ same.
        let turned : is_same_name letters (stream_name table) summary_name ≡ true = same_of_key letters (stream_name table) summary_name (sym (key_of_same letters summary_name (stream_name table) same)) in
        let never : true ≡ false = sym turned ∙ marked_differs letters may summary_name refl (stream_name table) refl in cc)

    pub summary_there : stream_at letters (objects t3.content) summary_name ≡ Some summary
    summary_there =
        stream_yet (stream_name data_name) rest t2 t3 three summary_name (marked_else data_name)
        ∙ stream_yet (stream_name pool_name) pool t1 t2 two summary_name (marked_else pool_name) ∙ put_at summary_name summary t0 t1 one

    pub pool_there : table_stream letters (objects t3.content) pool_name ≡ Some pool
    pool_there =
        stream_yet (stream_name data_name) rest t2 t3 three (stream_name pool_name) (tables_apart pool_name data_name refl refl (unlike pool_name data_name refl refl))
        ∙ put_at (stream_name pool_name) pool t1 t2 two

    pub data_there : table_stream letters (objects t3.content) data_name ≡ Some rest
    data_there = put_at (stream_name data_name) rest t2 t3 three

  -- ---- names of the three differ

  pub pool_not_summary : is_same_name letters (stream_name pool_name) summary_name ≡ false
  pool_not_summary = marked_differs letters may summary_name refl (stream_name pool_name) refl

  pub data_not_summary : is_same_name letters (stream_name data_name) summary_name ≡ false
  data_not_summary = marked_differs letters may summary_name refl (stream_name data_name) refl

  pub data_not_pool : is_same_name letters (stream_name data_name) (stream_name pool_name) ≡ false
  data_not_pool = tables_apart data_name pool_name refl refl (unlike data_name pool_name refl refl)
