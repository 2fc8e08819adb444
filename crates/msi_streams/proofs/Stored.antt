-- What a tree stores of a sound package, where a call changed the streams of one name under its root.
use Rattle.std.proofs.Common.{◌≡◌, ◌∙◌, ℕ, Bool, true, false, cond, List, [], ◌∷◌, Option, None, map, get_or, refl, sym, ap, inl, inr}
use Rattle.std.specs.Prelude.{◌&&◌, ◌||◌, ◌⊎◌, not, filter, option_and_then, unwrap_or, All, IsTrue}
use Rattle.std.specs.List.{list_any}
use Rattle.std.specs.Ordering.{is_eq}
use Rattle.cfb_tree.specs.Names.{CaseTable, key_cmp, name_key}
use Rattle.cfb_tree.specs.Objects.{is_same_name, name_of, Object}
use Rattle.cfb_tree.specs.Tree.{Tree}
use Rattle.msi_columns.specs.Column.{Column}
use Rattle.msi_spec.specs.Opening.{keeps_encoded_names}
use Rattle.msi_spec.specs.Package.{PackageContent, at_name, data_name, has_slash, is_own, is_stream, object_bytes, objects, pool_name, stream_name, summary_name, table_stream}
use Rattle.msi_spec.specs.SoundParts.{HasSoundNames}
use Rattle.msi_spec.specs.Split.{TreeStoresRest}
use Rattle.msi_stored.specs.Changing.{KeepsParts}
use Rattle.msi_tables.specs.Rows.{Row, kinds_of, rows_of}
use Rattle.msi_tables.specs.Schema.{validation_columns, validation_name}
use Rattle.msi_tables.specs.Table.{Table}
use Rattle.msi_texts.specs.StreamName.{is_marked}
use Rattle.msi_streams.proofs.Marks.{key_of_same, marked_alike}

-- the streams of a package, among all objects
abbrev pub is_kept : CaseTable → PackageContent → Object → Bool
is_kept letters P o = is_stream o && not (is_own letters P o)

-- all but the streams of a name stands under the root as it did
pub record Differs (letters : CaseTable) (name : List ℕ) (old new : Tree) : Type 0 where
  pub class : new.root ≡ old.root
  pub others : (other : List ℕ) → is_same_name letters other name ≡ false → at_name letters (objects new.content) other ≡ at_name letters (objects old.content) other
  pub storages : filter (λ o. not (is_stream o)) (objects new.content) ≡ filter (λ o. not (is_stream o)) (objects old.content)

pub either : (a b : Bool) → a || b ≡ true → (a ≡ true) ⊎ (b ≡ true)
either true b e = inl refl
either false b e = inr e

-- where a test isn't true it is false
pub not_true : (b : Bool) → (b ≡ true → ⊥) → b ≡ false
not_true true never = absurd (never refl)
not_true false never = refl

module _ (letters : CaseTable) (may : keeps_encoded_names letters ≡ true) (name : List ℕ) (plain : is_marked name ≡ false) where
  -- a marked name is another
  pub marked_differs : (other : List ℕ) → is_marked other ≡ true → is_same_name letters other name ≡ false
  marked_differs other marked = not_true (is_same_name letters other name) (λ same.
      let now : is_marked name ≡ true = marked_alike letters may other name marked same in let never : true ≡ false = sym now ∙ plain in cc)

  marked_others : {X : Type 0} (called : X → List ℕ) (xs : List X) → list_any (λ n. is_same_name letters n name) (map (λ x. stream_name (called x)) xs) ≡ false
  marked_others called [] = refl
  marked_others called (x ∷ xs) = ap (λ b. b || list_any (λ n. is_same_name letters n name) (map (λ x. stream_name (called x)) xs)) (marked_differs (stream_name (called x)) refl) ∙ marked_others called xs

  module _ (other : is_same_name letters summary_name name ≡ false) where
    -- the name is none of the database's own streams
    pub not_own : (P : PackageContent) (o : Object) → is_same_name letters name (name_of o) ≡ true → is_own letters P o ≡ false
    not_own P o same =
        ap (λ k. list_any (λ n. is_eq (key_cmp (name_key letters n) k)) (summary_name ∷ stream_name pool_name ∷ stream_name data_name ∷ map (λ t. stream_name t.name) P.tables)) (sym (key_of_same letters name (name_of o) same))
        ∙ ap (λ b. b || (is_same_name letters (stream_name pool_name) name || (is_same_name letters (stream_name data_name) name || list_any (λ n. is_same_name letters n name) (map (λ t. stream_name t.name) P.tables)))) other
        ∙ ap (λ b. b || (is_same_name letters (stream_name data_name) name || list_any (λ n. is_same_name letters n name) (map (λ t. stream_name t.name) P.tables))) (marked_differs (stream_name pool_name) refl)
        ∙ ap (λ b. b || list_any (λ n. is_same_name letters n name) (map (λ t. stream_name t.name) P.tables)) (marked_differs (stream_name data_name) refl)
        ∙ marked_others (λ t. t.name) P.tables

    -- so its streams are streams of the package
    pub kept_streams : (P : PackageContent) (o : Object) → is_same_name letters name (name_of o) ≡ true → is_kept letters P o ≡ is_stream o
    kept_streams P o same = ap (λ b. is_stream o && not b) (not_own P o same) ∙ all_of (is_stream o)
      where
        all_of : (b : Bool) → (b && true) ≡ b
        all_of true = refl
        all_of false = refl

    module _ (old new : Tree) (d : Differs letters name old new) where
      -- each table's stream is as it was
      tables_yet : (table : List ℕ) → table_stream letters (objects new.content) table ≡ table_stream letters (objects old.content) table
      tables_yet table = ap (λ o. cond (has_slash table) None (option_and_then object_bytes o)) (d.others (stream_name table) (marked_differs (stream_name table) refl))

      -- so are those of pool and summary
      pub parts_yet : KeepsParts letters old new
      parts_yet = record {
        pool = tables_yet pool_name;
        pool_data = tables_yet data_name;
        summary = ap (option_and_then object_bytes) (d.others summary_name other);
      }

      abbrev read_by : Bool → List Column → Option (List ℕ) → Option (List Row)
      read_by long columns bytes = rows_of long (kinds_of columns) (unwrap_or bytes [])

      -- the tree stores the package with these streams
      pub stores_yet : (P : PackageContent) (streams : List Object) → TreeStoresRest letters old P → streams ≡ filter (is_kept letters P) (objects new.content) → TreeStoresRest letters new (record P { streams = streams })
      stores_yet P streams s is = record {
        class = ap (λ r. r.clsid) d.class ∙ s.class;
        rising = s.rising;
        names = s.names;
        rows = λ k t below. ap (read_by P.pool.long (row_table k t).columns) (tables_yet (row_table k t).name) ∙ s.rows k t below;
        validation = s.validation;
        validation_is = ap (read_by P.pool.long validation_columns) (tables_yet validation_name) ∙ s.validation_is;
        schema = s.schema;
        columns = s.columns;
        streams = is;
        storages = s.storages ∙ sym d.storages;
      }
        where
          row_table : ℕ → Table → Table
          row_table k t = get_or P.tables k t

      pub named_yet : (P : PackageContent) (streams : List Object) → HasSoundNames letters P → All (λ o. IsTrue (not (is_marked (name_of o)))) streams → HasSoundNames letters (record P { streams = streams })
      named_yet P streams n unmarked = record {
        one_section = n.one_section;
        no_strays = unmarked;
        table_names = n.table_names;
        no_storage = n.no_storage;
        not_listed = n.not_listed;
        validation_kinds = n.validation_kinds;
        validation_keys = n.validation_keys;
      }
