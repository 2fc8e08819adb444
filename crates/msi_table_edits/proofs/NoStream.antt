-- No stream stands where that of a table that isn't there would, and no bytes are no rows.
use Rattle.std.proofs.Common.{◌≡◌, ◌∙◌, ℕ, ◌/◌, Bool, true, false, cond, List, [], ◌∷◌, map, refl, ap, subst, Option, Some, None, not}
use Rattle.std.specs.Prelude.{◌&&◌, ◌==◌, bytes_eq, filter, nat_le, option_and_then, All, IsTrue}
use Rattle.std.specs.List.{list_any}
use Rattle.std.proofs.Math.Nat.{zero-div}
use Rattle.cfb_tree.specs.Names.{CaseTable}
use Rattle.cfb_tree.specs.Objects.{a_storage, a_stream, is_same_name, name_of, Object}
use Rattle.cfb_tree.specs.Tree.{Tree}
use Rattle.msi_columns.specs.declared.column.ColumnType.{ColumnType}
use Rattle.msi_spec.specs.Opening.{keeps_encoded_names}
use Rattle.msi_spec.specs.Package.{at_name, data_name, is_own, is_stream, object_bytes, objects, pool_name, stream_at, stream_name, summary_name, table_stream, PackageContent}
use Rattle.msi_spec.specs.Sound.{is_free_table_name}
use Rattle.msi_spec.specs.SoundParts.{HasSoundNames}
use Rattle.msi_spec.specs.Split.{TreeStoresRest}
use Rattle.msi_spec.proofs.EncodedKeys.{keys_tell, name_encoded}
use Rattle.msi_spec.proofs.StreamKeys.{key_by_same}
use Rattle.msi_rewritten.proofs.Names.{found_same, kept_has, no_slash, summary_apart, tables_apart}
use Rattle.msi_rewritten.proofs.Put.{free_parts, not_true}
use Rattle.msi_rewritten.proofs.Stored.{none_listed, or_none}
use Rattle.msi_tables.specs.Rows.{max_rows, numbers_from, row_at, row_count, row_width, rows_of}
use Rattle.msi_tables.specs.Table.{table_named}
use Rattle.msi_texts.specs.Category.{is_identifier}
use Rattle.msi_texts.specs.StreamName.{is_marked}

-- ---- rows of no bytes

no_count : (long : Bool) (ks : List ColumnType) → row_count long ks [] ≡ 0
no_count long ks = on (row_width long ks == 0)
  where
    on : (b : Bool) → cond b 0 (0 / row_width long ks) ≡ 0
    on true = refl
    on false = zero-div (row_width long ks)

pub no_rows : (long : Bool) (ks : List ColumnType) → rows_of long ks [] ≡ Some []
no_rows long ks = ap (λ n. cond (nat_le n max_rows) (Some (map (row_at long n [] 0 ks) (numbers_from 0 n))) None) (no_count long ks)

-- ---- no stream has the name of a table that isn't there

abbrev pub Unmarked : Object → Type 0
Unmarked o = IsTrue (not (is_marked (name_of o)))

module _ (letters : CaseTable) (old : Tree) (P : PackageContent) (usable : keeps_encoded_names letters ≡ true) (stores : TreeStoresRest letters old P) (named : HasSoundNames letters P) where
  abbrev pub keep : Object → Bool
  keep o = is_stream o && not (is_own letters P o)

  pub no_strays : All Unmarked (filter keep (objects old.content))
  no_strays = subst (All Unmarked) stores.streams named.no_strays

  module _ (name : List ℕ) (free : is_free_table_name name ≡ true) (none : table_named P.tables name ≡ None) where
    pub identifier : is_identifier name ≡ true
    identifier = (free_parts name free).0

    -- an object of the name is marked
    pub marked : (o : Object) → is_same_name letters (stream_name name) (name_of o) ≡ true → Unmarked o → ⊥
    marked o same unmarked =
        let one : stream_name name ≡ name_of o = keys_tell letters (stream_name name) (name_of o) usable (name_encoded name identifier) (key_by_same letters (stream_name name) (name_of o) same) in
        not_true (is_marked (name_of o)) unmarked (subst (λ x. is_marked x ≡ true) one refl)

    not_own : (o : Object) → stream_name name ≡ name_of o → is_own letters P o ≡ false
    not_own o one =
        subst (λ x. list_any (λ n. is_same_name letters n x) (summary_name ∷ stream_name pool_name ∷ stream_name data_name ∷ map (λ t. stream_name t.name) P.tables) ≡ false) one
        (or_none (is_same_name letters summary_name (stream_name name)) _ (summary_apart letters usable name identifier)
        (or_none (is_same_name letters (stream_name pool_name) (stream_name name)) _ (tables_apart letters usable pool_name name refl identifier (λ e. not_true (bytes_eq name pool_name) (free_parts name free).1 (subst (λ n. bytes_eq n pool_name ≡ true) e refl)))
        (or_none (is_same_name letters (stream_name data_name) (stream_name name)) _ (tables_apart letters usable data_name name refl identifier (λ e. not_true (bytes_eq name data_name) (free_parts name free).2 (subst (λ n. bytes_eq n data_name ≡ true) e refl)))
        (none_listed letters usable name identifier P.tables named.table_names none))))

    pub no_stream : stream_at letters (objects old.content) (stream_name name) ≡ None
    no_stream = by (at_name letters (objects old.content) (stream_name name)) refl
      where
        by : (found : Option Object) → at_name letters (objects old.content) (stream_name name) ≡ found → option_and_then object_bytes found ≡ None
        by None is = refl
        by (Some (a_storage n f i)) is = refl
        by (Some (a_stream n s b)) is =
            let same = found_same letters (stream_name name) (objects old.content) (a_stream n s b) is in
            let one : stream_name name ≡ n = keys_tell letters (stream_name name) n usable (name_encoded name identifier) (key_by_same letters (stream_name name) n same) in
            let kept : keep (a_stream n s b) ≡ true = ap not (not_own (a_stream n s b) one) in
            absurd (marked (a_stream n s b) same (kept_has letters (stream_name name) Unmarked keep (objects old.content) (a_stream n s b) no_strays is kept))

    -- the table has none
    pub no_table_stream : table_stream letters (objects old.content) name ≡ None
    no_table_stream = ap (λ slash. cond slash None (stream_at letters (objects old.content) (stream_name name))) (no_slash name identifier) ∙ no_stream
