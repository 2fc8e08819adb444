-- A tree stores the package of which one table got other rows, where the table's stream got their bytes.
use Rattle.std.proofs.Common.{◌≡◌, ◌∙◌, ℕ, zero, suc, ◌<◌, Bool, true, false, cond, List, [], ◌∷◌, map, length, get_or, Some, None, refl, sym, ap, subst, arith}
use Rattle.std.specs.Prelude.{◌&&◌, ◌||◌, ◌↔◌, not, filter, bytes_eq, option_and_then, option_map, slice_get, unwrap_or, All, Contains, IfSome, IsTrue, Option}
use Rattle.std.specs.List.{list_any}
use Rattle.std.specs.List.Sorted.{IsStrictlySortedBy}
use Rattle.std.proofs.lemmas.Bool.{or_parts}
use Rattle.std.proofs.lemmas.List.Elements.{All-map, All-head, All-tail}
use Rattle.std.proofs.lemmas.Option.{get_or_from_slice_get}
use Rattle.cfb_tree.specs.Names.{CaseTable}
use Rattle.cfb_tree.specs.Objects.{a_storage, a_stream, is_same_name, name_of, Object}
use Rattle.cfb_tree.specs.Tree.{Tree}
use Rattle.msi_pool.specs.Pool.{Pool}
use Rattle.msi_tables.specs.Rows.{kinds_of, rows_of, Row}
use Rattle.msi_tables.specs.Schema.{begins_with, columns_in, columns_name, is_schema, tables_name, validation_columns, validation_name}
use Rattle.msi_tables.specs.Table.{data_rows, row_data, table_named, Table}
use Rattle.msi_texts.specs.Category.{is_identifier}
use Rattle.msi_texts.specs.StreamName.{is_marked}
use Rattle.msi_spec.specs.Calls.{rows_put, with_rows}
use Rattle.msi_spec.specs.Opening.{keeps_encoded_names}
use Rattle.msi_spec.specs.Package.{at_name, data_name, table_name_cmp, is_own, is_stream, is_table_name, object_bytes, objects, pool_name, rows_named, stream_at, stream_name, summary_name, table_stream, PackageContent}
use Rattle.msi_spec.specs.Sound.{is_free_table_name}
use Rattle.msi_spec.specs.SoundParts.{HasSoundNames}
use Rattle.msi_spec.specs.Split.{TreeStoresRest}
use Rattle.msi_spec.specs.Streams.{IsDropped}
use Rattle.msi_spec.proofs.EncodedKeys.{keys_tell, name_encoded}
use Rattle.msi_spec.proofs.Roots.{put_dropped, put_found}
use Rattle.msi_spec.proofs.StreamKeys.{key_by_same, same_by_key}
use Rattle.msi_spec.proofs.SystemRows.{same_bytes}
use Rattle.msi_rewritten.specs.Rewriting.{rewritten, DescribesAlike, HasPut, ReplacesTableRows}
use Rattle.msi_rewritten.proofs.Beside.{put_keeps_storages}
use Rattle.msi_rewritten.proofs.Counted.{data_stays}
use Rattle.msi_rewritten.proofs.Names.{found_same, kept_has, no_slash, storage_listed, summary_apart, tables_apart}
use Rattle.msi_rewritten.proofs.Put.{beside, free_parts, names_differ, not_true, own_identifier, within_it}
use Rattle.msi_rewritten.proofs.Tables.{columns_kept, found_after, name_kept, names_kept, one_changed, other_kept}

-- ---- tests

pub or_right : (a b : Bool) → b ≡ true → (a || b) ≡ true
or_right true b e = refl
or_right false b e = e

pub or_none : (a b : Bool) → a ≡ false → b ≡ false → (a || b) ≡ false
or_none a b e f = rw (e, f) refl

pub and_none : (a b : Bool) → b ≡ true → (a && not b) ≡ false
and_none true b e = ap not e
and_none false b e = refl

-- ---- tables by their names

pub found_at : (ts : List Table) (m : List ℕ) (u : Table) → table_named ts m ≡ Some u → (j : ℕ) × (j < length ts) × (get_or ts j u ≡ u) × (u.name ≡ m)
found_at [] m u is = (let never : None ≡ Some u = is in absurd (cc))
found_at (t ∷ ts) m u is = by (bytes_eq t.name m) refl (found_at ts m u)
  where
    by : (b : Bool) → bytes_eq t.name m ≡ b → (table_named ts m ≡ Some u → (j : ℕ) × (j < length ts) × (get_or ts j u ≡ u) × (u.name ≡ m)) → (j : ℕ) × (j < length (t ∷ ts)) × (get_or (t ∷ ts) j u ≡ u) × (u.name ≡ m)
    by true e rest =
        let here : Some t ≡ Some u = rw e at is in
        let same : t ≡ u = grind (arith, here) in
        (0, omega arith, same, sym (ap (λ (v : Table). v.name) same) ∙ same_bytes t.name m e)
    by false e rest =
        let later = rest (rw e at is) in
        (suc later.0, (let below = later.1 in omega (arith, below)), later.2, later.3)

pub own_listed : (letters : CaseTable) (x : List ℕ) (ts : List Table) (k : ℕ) (t : Table) → slice_get ts k ≡ Some t → is_same_name letters (stream_name t.name) x ≡ true
    → list_any (λ name. is_same_name letters name x) (map (λ t. stream_name t.name) ts) ≡ true
own_listed letters x [] k t at same = absurd (cc)
own_listed letters x (u ∷ us) zero t at same = (let one : u ≡ t = grind (arith, at) in ap (λ b. b || list_any (λ name. is_same_name letters name x) (map (λ t. stream_name t.name) us)) (ap (λ (v : Table). is_same_name letters (stream_name v.name) x) one ∙ same))
own_listed letters x (u ∷ us) (suc k) t at same = or_right (is_same_name letters (stream_name u.name) x) _ (own_listed letters x us k t at same)

pub none_listed : (letters : CaseTable) → keeps_encoded_names letters ≡ true → (m : List ℕ) → is_identifier m ≡ true → (ts : List Table) → All (λ t. IsTrue (is_free_table_name t.name)) ts → table_named ts m ≡ None
    → list_any (λ name. is_same_name letters name (stream_name m)) (map (λ t. stream_name t.name) ts) ≡ false
none_listed letters usable m e [] free none = refl
none_listed letters usable m e (t ∷ ts) free none = by (bytes_eq t.name m) refl (none_listed letters usable m e ts (All-tail (λ t. IsTrue (is_free_table_name t.name)) t ts free))
  where
    by : (b : Bool) → bytes_eq t.name m ≡ b
        → (table_named ts m ≡ None → list_any (λ name. is_same_name letters name (stream_name m)) (map (λ t. stream_name t.name) ts) ≡ false)
        → list_any (λ name. is_same_name letters name (stream_name m)) (map (λ t. stream_name t.name) (t ∷ ts)) ≡ false
    by true is rest = (let never : Some t ≡ None = rw is at none in absurd (cc))
    by false is rest =
        or_none _ _
        (tables_apart letters usable t.name m (free_parts t.name (All-head (λ t. IsTrue (is_free_table_name t.name)) t ts free)).0 e (names_differ t.name m is))
        (rest (rw is at none))

-- a table of the name is found where one has it
named_there : (ts : List Table) (k : ℕ) (t : Table) (m : List ℕ) → slice_get ts k ≡ Some t → bytes_eq t.name m ≡ true → table_named ts m ≡ None → ⊥
named_there [] k t m at is none = absurd (cc)
named_there (u ∷ us) zero t m at is none =
    let same : u ≡ t = grind (arith, at) in
    let here : bytes_eq u.name m ≡ true = ap (λ (v : Table). bytes_eq v.name m) same ∙ is in
    let never : Some u ≡ None = rw here at none in
    cc
named_there (u ∷ us) (suc k) t m at is none = by (bytes_eq u.name m) refl (named_there us k t m at is)
  where
    by : (b : Bool) → bytes_eq u.name m ≡ b → (table_named us m ≡ None → ⊥) → ⊥
    by true e rest = (let never : Some u ≡ None = rw e at none in cc)
    by false e rest = rest (rw e at none)

nothing_there : (long : Bool) → rows_of long (kinds_of validation_columns) [] ≡ Some []
nothing_there true = refl
nothing_there false = refl

module _ (letters : CaseTable) (old new : Tree) (P : PackageContent) (usable : keeps_encoded_names letters ≡ true) (named : HasSoundNames letters P) (stores : TreeStoresRest letters old P) where
  abbrev keep : Object → Bool
  keep o = is_stream o && not (is_own letters P o)

  -- where _Validation is no table it has no stream
  no_validation : table_named P.tables validation_name ≡ None → stream_at letters (objects old.content) (stream_name validation_name) ≡ None
  no_validation none = by (at_name letters (objects old.content) (stream_name validation_name)) refl
    where
      by : (found : Option Object) → at_name letters (objects old.content) (stream_name validation_name) ≡ found → option_and_then object_bytes found ≡ None
      by None is = refl
      by (Some (a_storage n f i)) is = refl
      by (Some (a_stream n s b)) is =
          let same = found_same letters (stream_name validation_name) (objects old.content) (a_stream n s b) is in
          let one : stream_name validation_name ≡ n = keys_tell letters (stream_name validation_name) n usable (name_encoded validation_name refl) (key_by_same letters (stream_name validation_name) n same) in
          let not_own : is_own letters P (a_stream n s b) ≡ false = subst (λ x. is_own letters P (a_stream x s b) ≡ false) one (
          or_none (is_same_name letters summary_name (stream_name validation_name)) _ (summary_apart letters usable validation_name refl)
          (or_none (is_same_name letters (stream_name pool_name) (stream_name validation_name)) _ (tables_apart letters usable pool_name validation_name refl refl (names_differ pool_name validation_name refl))
          (or_none (is_same_name letters (stream_name data_name) (stream_name validation_name)) _ (tables_apart letters usable data_name validation_name refl refl (names_differ data_name validation_name refl))
          (none_listed letters usable validation_name refl P.tables named.table_names none)))
          ) in
          let kept : keep (a_stream n s b) ≡ true = ap not not_own in
          let strays : All (λ o. IsTrue (not (is_marked (name_of o)))) (filter keep (objects old.content)) = subst (λ os. All (λ o. IsTrue (not (is_marked (name_of o)))) os) stores.streams named.no_strays in
          let unmarked : not (is_marked n) ≡ true = kept_has letters (stream_name validation_name) (λ o. IsTrue (not (is_marked (name_of o)))) keep (objects old.content) (a_stream n s b) strays is kept in
          absurd (not_true (is_marked n) unmarked (subst (λ x. is_marked x ≡ true) one refl))

  module _ (k : ℕ) (t : Table) (stored : List Row) (pool : Pool) (r : ReplacesTableRows P k t stored pool) where
    abbrev Q : PackageContent
    Q = rewritten P t.name stored pool

    identifier : is_identifier t.name ≡ true
    identifier = own_identifier letters P usable named k t r.at

    ordinary : (bytes_eq t.name tables_name ≡ false) × (bytes_eq t.name columns_name ≡ false)
    ordinary = or_parts (bytes_eq t.name tables_name) (bytes_eq t.name columns_name) r.unlisted

    swapped : (m : List ℕ) → bytes_eq t.name m ≡ false → (u : Table) → u.name ≡ m → bytes_eq u.name t.name ≡ false
    swapped m differs u is = by (bytes_eq u.name t.name) refl
      where
        by : (b : Bool) → bytes_eq u.name t.name ≡ b → b ≡ false
        by false e = refl
        by true e = absurd (names_differ t.name m differs (sym (same_bytes u.name t.name e) ∙ is))

    -- ---- rows of the other tables as values

    pub rows_named_after : (m : List ℕ) → bytes_eq t.name m ≡ false → rows_named Q m ≡ rows_named P m
    rows_named_after m differs = ap (data_rows pool) (found_after t.name stored m P.tables) ∙ by (table_named P.tables m) refl
      where
        by : (found : Option Table) → table_named P.tables m ≡ found → data_rows pool (option_map (with_rows t.name stored) found) ≡ data_rows P.pool found
        by None is = refl
        by (Some u) is =
            let at = found_at P.tables m u is in
            let other = swapped m differs u at.3 in
            let differs_there : bytes_eq (get_or P.tables at.0 u).name t.name ≡ false = subst (λ (v : Table). bytes_eq v.name t.name ≡ false) (sym at.2) other in
            ap (λ (v : Table). map (row_data pool) v.rows) (other_kept t.name stored u other)
            ∙ subst (λ (v : Table). map (row_data pool) v.rows ≡ map (row_data P.pool) v.rows) at.2 (data_stays letters old P stores k t stored pool r at.0 u at.1 differs_there)

    -- those of _Validation, where it is one of them
    validation_after : bytes_eq t.name validation_name ≡ false → map (row_data pool) stores.validation ≡ map (row_data P.pool) stores.validation
    validation_after apart = by (table_named P.tables validation_name) refl
      where
        by : (found : Option Table) → table_named P.tables validation_name ≡ found → map (row_data pool) stores.validation ≡ map (row_data P.pool) stores.validation
        by None is =
            let empty : Some stores.validation ≡ Some [] =
            sym stores.validation_is ∙ ap (λ o. rows_of P.pool.long (kinds_of validation_columns) (unwrap_or o [])) (no_validation is) ∙ nothing_there P.pool.long in
            let same : stores.validation ≡ [] = grind (arith, empty) in
            ap (map (row_data pool)) same ∙ sym (ap (map (row_data P.pool)) same)
        by (Some u) is =
            let at = found_at P.tables validation_name u is in
            let kinds : kinds_of u.columns ≡ kinds_of validation_columns = subst (λ o. IfSome o (λ t. kinds_of t.columns ≡ kinds_of validation_columns)) is named.validation_kinds in
            let read : rows_of P.pool.long (kinds_of u.columns) (unwrap_or (table_stream letters (objects old.content) u.name) []) ≡ Some u.rows =
            subst (λ (v : Table). rows_of P.pool.long (kinds_of v.columns) (unwrap_or (table_stream letters (objects old.content) v.name) []) ≡ Some v.rows) at.2 (stores.rows at.0 u at.1) in
            let rows : Some stores.validation ≡ Some u.rows =
            sym stores.validation_is
            ∙ ap (λ ks. rows_of P.pool.long ks (unwrap_or (table_stream letters (objects old.content) validation_name) [])) (sym kinds)
            ∙ ap (λ m. rows_of P.pool.long (kinds_of u.columns) (unwrap_or (table_stream letters (objects old.content) m) [])) (sym at.3)
            ∙ read in
            let same : stores.validation ≡ u.rows = grind (arith, rows) in
            let other = swapped validation_name apart u at.3 in
            let differs_there : bytes_eq (get_or P.tables at.0 u).name t.name ≡ false = subst (λ (v : Table). bytes_eq v.name t.name ≡ false) (sym at.2) other in
            let stays : map (row_data pool) u.rows ≡ map (row_data P.pool) u.rows =
            subst (λ (v : Table). map (row_data pool) v.rows ≡ map (row_data P.pool) v.rows) at.2 (data_stays letters old P stores k t stored pool r at.0 u at.1 differs_there) in
            ap (map (row_data pool)) same ∙ stays ∙ sym (ap (map (row_data P.pool)) same)

    module _ (bytes : List ℕ) (put : HasPut letters t.name bytes old new) (read : rows_of P.pool.long (kinds_of t.columns) bytes ≡ Some stored) where
      free_of_storage : at_name letters (filter (λ o. not (is_stream o)) (objects old.content)) (stream_name t.name) ≡ None
      free_of_storage =
          ap (λ os. at_name letters os (stream_name t.name)) (sym stores.storages)
          ∙ subst (λ (u : Table). at_name letters P.storages (stream_name u.name) ≡ None) (get_or_from_slice_get P.tables k t t r.at) (named.no_storage k t (within_it letters P usable named k t r.at))

      own_stream : table_stream letters (objects new.content) t.name ≡ Some bytes
      own_stream =
          ap (λ b. cond b None (stream_at letters (objects new.content) (stream_name t.name))) (no_slash t.name identifier)
          ∙ ap (λ os. stream_at letters os (stream_name t.name)) put.objects
          ∙ put_found letters (stream_name t.name) bytes (objects old.content) (λ o there. by o there (is_stream o) refl) (same_by_key letters (stream_name t.name) (stream_name t.name) refl)
        where
          by : (o : Object) → at_name letters (objects old.content) (stream_name t.name) ≡ Some o → (b : Bool) → is_stream o ≡ b → b ≡ true
          by o there true is = refl
          by o there false is =
              let listed = storage_listed letters (stream_name t.name) (objects old.content) o there is in
              let never : None ≡ Some o = sym free_of_storage ∙ listed in
              absurd (cc)

      -- ---- the fields

      names_after : (m : List ℕ) → IsTrue (is_table_name Q m) ↔ Contains (map (λ t. t.name) Q.tables) m
      names_after m =
          let same : is_table_name Q m ≡ is_table_name P m = ap (λ rows. bytes_eq m tables_name || bytes_eq m columns_name || list_any (begins_with m) rows) (rows_named_after tables_name ordinary.0) in
          let names = names_kept t.name stored (λ n. n) P.tables in
          (λ is. subst (λ ns. Contains ns m) (sym names) ((stores.names m).0 (sym same ∙ is)), λ there. same ∙ (stores.names m).1 (subst (λ ns. Contains ns m) names there))

      own_columns : (j : ℕ) (d : Table) → j < length P.tables → (get_or P.tables j d).name ≡ t.name → (get_or P.tables j d).columns ≡ t.columns
      own_columns j d within same =
          let vs = map (row_data P.pool) stores.validation in
          let one : columns_in (rows_named P columns_name) vs t.name ≡ Some t.columns =
          subst (λ (u : Table). columns_in (rows_named P columns_name) vs u.name ≡ Some u.columns) (get_or_from_slice_get P.tables k t t r.at) (stores.columns k t (within_it letters P usable named k t r.at)) in
          let both : Some (get_or P.tables j d).columns ≡ Some t.columns = sym (stores.columns j d within) ∙ ap (columns_in (rows_named P columns_name) vs) same ∙ one in
          grind (arith, both)

      own_rows : (j : ℕ) (d : Table) → j < length P.tables → (get_or P.tables j d).name ≡ t.name
          → rows_of pool.long (kinds_of (get_or P.tables j d).columns) (unwrap_or (table_stream letters (objects new.content) (get_or P.tables j d).name) []) ≡ Some stored
      own_rows j d within same =
          let u : Table = get_or P.tables j d in
          ap (λ long. rows_of long (kinds_of u.columns) (unwrap_or (table_stream letters (objects new.content) u.name) [])) r.long
          ∙ ap (λ cs. rows_of P.pool.long (kinds_of cs) (unwrap_or (table_stream letters (objects new.content) u.name) [])) (own_columns j d within same)
          ∙ ap (λ m. rows_of P.pool.long (kinds_of t.columns) (unwrap_or (table_stream letters (objects new.content) m) [])) same
          ∙ ap (λ o. rows_of P.pool.long (kinds_of t.columns) (unwrap_or o [])) own_stream
          ∙ read

      rows_after : All (λ u. rows_of pool.long (kinds_of u.columns) (unwrap_or (table_stream letters (objects new.content) u.name) []) ≡ Some u.rows) (rows_put t.name stored P.tables)
      rows_after = All-map (λ u. HasRows u) (with_rows t.name stored) P.tables (λ j d within. at j d within (bytes_eq (get_or P.tables j d).name t.name) refl)
        where
          HasRows : Table → Type 0
          HasRows u = rows_of pool.long (kinds_of u.columns) (unwrap_or (table_stream letters (objects new.content) u.name) []) ≡ Some u.rows

          at : (j : ℕ) (d : Table) → j < length P.tables → (b : Bool) → bytes_eq (get_or P.tables j d).name t.name ≡ b → HasRows (with_rows t.name stored (get_or P.tables j d))
          at j d within true is = subst HasRows (sym (one_changed t.name stored (get_or P.tables j d) is)) (own_rows j d within (same_bytes (get_or P.tables j d).name t.name is))
          at j d within false is =
              let u : Table = get_or P.tables j d in
              let apart = tables_apart letters usable u.name t.name ((free_parts u.name (named.table_names j d within)).0) identifier (names_differ u.name t.name is) in
              subst HasRows (sym (other_kept t.name stored u is))
              (ap (λ long. rows_of long (kinds_of u.columns) (unwrap_or (table_stream letters (objects new.content) u.name) [])) r.long
              ∙ ap (λ o. rows_of P.pool.long (kinds_of u.columns) (unwrap_or o [])) (beside letters P usable named k t r.at old new bytes put u.name apart)
              ∙ stores.rows j d within)

      -- the table is _Validation
      own_kinds : bytes_eq t.name validation_name ≡ true → kinds_of t.columns ≡ kinds_of validation_columns
      own_kinds is = by (table_named P.tables validation_name) refl
        where
          by : (found : Option Table) → table_named P.tables validation_name ≡ found → kinds_of t.columns ≡ kinds_of validation_columns
          by None none = absurd (named_there P.tables k t validation_name r.at is none)
          by (Some u) there =
              let at = found_at P.tables validation_name u there in
              let kinds : kinds_of u.columns ≡ kinds_of validation_columns = subst (λ o. IfSome o (λ t. kinds_of t.columns ≡ kinds_of validation_columns)) there named.validation_kinds in
              let name : (get_or P.tables at.0 u).name ≡ t.name = ap (λ (v : Table). v.name) at.2 ∙ at.3 ∙ sym (same_bytes t.name validation_name is) in
              ap kinds_of (sym (own_columns at.0 u at.1 name) ∙ ap (λ (v : Table). v.columns) at.2) ∙ kinds

      -- the rows of _Validation that the new tree has
      record ValidationNow : Type 0 where
        rows : List Row
        is : rows_of P.pool.long (kinds_of validation_columns) (unwrap_or (table_stream letters (objects new.content) validation_name) []) ≡ Some rows
        alike : DescribesAlike (map (row_data P.pool) stores.validation) (map (row_data pool) rows)

      validation_now : ValidationNow
      validation_now = by (bytes_eq t.name validation_name) refl
        where
          by : (b : Bool) → bytes_eq t.name validation_name ≡ b → ValidationNow
          by false differs =
              let same = validation_after differs in
              record {
                rows = stores.validation;
                is = ap (λ o. rows_of P.pool.long (kinds_of validation_columns) (unwrap_or o []))
                    (beside letters P usable named k t r.at old new bytes put validation_name (tables_apart letters usable validation_name t.name refl identifier (λ same. names_differ t.name validation_name differs (sym same))))
                    ∙ stores.validation_is;
                alike = record { schema = λ tables columns is. ap (is_schema tables columns) same ∙ is; columns = λ tables columns is name. ap (λ vs. columns_in columns vs name) same };
              }
          by true is =
              let same : t.name ≡ validation_name = same_bytes t.name validation_name is in
              let kinds = own_kinds is in
              let there : rows_of P.pool.long (kinds_of t.columns) (unwrap_or (table_stream letters (objects old.content) t.name) []) ≡ Some t.rows =
              subst (λ (u : Table). rows_of P.pool.long (kinds_of u.columns) (unwrap_or (table_stream letters (objects old.content) u.name) []) ≡ Some u.rows) (get_or_from_slice_get P.tables k t t r.at)
              (stores.rows k t (within_it letters P usable named k t r.at)) in
              let both : Some stores.validation ≡ Some t.rows =
              sym stores.validation_is
              ∙ ap (λ ks. rows_of P.pool.long ks (unwrap_or (table_stream letters (objects old.content) validation_name) [])) (sym kinds)
              ∙ ap (λ m. rows_of P.pool.long (kinds_of t.columns) (unwrap_or (table_stream letters (objects old.content) m) [])) (sym same)
              ∙ there in
              let rows : stores.validation ≡ t.rows = grind (arith, both) in
              record {
                rows = stored;
                is = ap (λ ks. rows_of P.pool.long ks (unwrap_or (table_stream letters (objects new.content) validation_name) [])) (sym kinds)
                    ∙ ap (λ m. rows_of P.pool.long (kinds_of t.columns) (unwrap_or (table_stream letters (objects new.content) m) [])) (sym same)
                    ∙ ap (λ o. rows_of P.pool.long (kinds_of t.columns) (unwrap_or o [])) own_stream
                    ∙ read;
                alike = subst (λ (rs : List Row). DescribesAlike (map (row_data P.pool) rs) (map (row_data pool) stored)) (sym rows) (r.described is);
              }

      schema_after : is_schema (rows_named Q tables_name) (rows_named Q columns_name) (map (row_data pool) validation_now.rows) ≡ true
      schema_after =
          ap (λ a. is_schema a (rows_named Q columns_name) (map (row_data pool) validation_now.rows)) (rows_named_after tables_name ordinary.0)
          ∙ ap (λ b. is_schema (rows_named P tables_name) b (map (row_data pool) validation_now.rows)) (rows_named_after columns_name ordinary.1)
          ∙ validation_now.alike.schema (rows_named P tables_name) (rows_named P columns_name) stores.schema

      columns_after : All (λ u. columns_in (rows_named Q columns_name) (map (row_data pool) validation_now.rows) u.name ≡ Some u.columns) (rows_put t.name stored P.tables)
      columns_after = All-map (λ u. columns_in (rows_named Q columns_name) (map (row_data pool) validation_now.rows) u.name ≡ Some u.columns) (with_rows t.name stored) P.tables (λ j d within.
          let u : Table = get_or P.tables j d in
          ap (λ m. columns_in (rows_named Q columns_name) (map (row_data pool) validation_now.rows) m) (name_kept t.name stored u)
          ∙ ap (λ cs. columns_in cs (map (row_data pool) validation_now.rows) u.name) (rows_named_after columns_name ordinary.1)
          ∙ validation_now.alike.columns (rows_named P tables_name) (rows_named P columns_name) stores.schema u.name
          ∙ stores.columns j d within
          ∙ sym (ap (λ cs. Some cs) (columns_kept t.name stored u)))

      dropped : IsDropped letters keep (stream_name t.name)
      dropped = record {
        dropped = λ o same. and_none (is_stream o) (is_own letters P o) (own o same);
        new = λ content. and_none true (is_own letters P (a_stream (stream_name t.name) 0 content)) (own (a_stream (stream_name t.name) 0 content) (same_by_key letters (stream_name t.name) (stream_name t.name) refl));
      }
        where
          own : (o : Object) → is_same_name letters (stream_name t.name) (name_of o) ≡ true → is_own letters P o ≡ true
          own o same =
              or_right (is_same_name letters summary_name (name_of o)) _
              (or_right (is_same_name letters (stream_name pool_name) (name_of o)) _
              (or_right (is_same_name letters (stream_name data_name) (name_of o)) _
              (own_listed letters (name_of o) P.tables k t r.at same)))

      streams_after : P.streams ≡ filter (λ o. is_stream o && not (is_own letters Q o)) (objects new.content)
      streams_after =
          stores.streams
          ∙ sym (put_dropped letters (stream_name t.name) bytes keep dropped (objects old.content))
          ∙ ap (filter keep) (sym put.objects)
          ∙ sym (ap (λ names. filter (λ o. is_stream o && not (list_any (λ name. is_same_name letters name (name_of o)) (summary_name ∷ stream_name pool_name ∷ stream_name data_name ∷ names))) (objects new.content)) (names_kept t.name stored stream_name P.tables))

      storages_after : P.storages ≡ filter (λ o. not (is_stream o)) (objects new.content)
      storages_after =
          stores.storages
          ∙ sym (put_keeps_storages letters (stream_name t.name) bytes (objects old.content) free_of_storage)
          ∙ ap (filter (λ o. not (is_stream o))) (sym put.objects)

      pub stores_after : TreeStoresRest letters new Q
      stores_after = record {
        class = ap (λ facts. facts.clsid) put.root ∙ stores.class;
        rising = subst (IsStrictlySortedBy table_name_cmp) (sym (names_kept t.name stored (λ n. n) P.tables)) stores.rising;
        names = names_after;
        rows = rows_after;
        validation = validation_now.rows;
        validation_is = ap (λ long. rows_of long (kinds_of validation_columns) (unwrap_or (table_stream letters (objects new.content) validation_name) [])) r.long ∙ validation_now.is;
        schema = schema_after;
        columns = columns_after;
        streams = streams_after;
        storages = storages_after;
      }

    -- ---- names

    pub named_after : HasSoundNames letters Q
    named_after = record {
      one_section = named.one_section;
      no_strays = named.no_strays;
      table_names = All-map (λ u. IsTrue (is_free_table_name u.name)) (with_rows t.name stored) P.tables
          (λ j d within. subst (λ n. IsTrue (is_free_table_name n)) (sym (name_kept t.name stored (get_or P.tables j d))) (named.table_names j d within));
      no_storage = All-map (λ u. at_name letters P.storages (stream_name u.name) ≡ None) (with_rows t.name stored) P.tables
          (λ j d within. subst (λ n. at_name letters P.storages (stream_name n) ≡ None) (sym (name_kept t.name stored (get_or P.tables j d))) (named.no_storage j d within));
      not_listed = subst (All (λ r. IsTrue (not (begins_with tables_name r) && not (begins_with columns_name r)))) (sym (rows_named_after tables_name ordinary.0)) named.not_listed;
      validation_kinds = subst (λ o. IfSome o (λ u. kinds_of u.columns ≡ kinds_of validation_columns)) (sym (found_after t.name stored validation_name P.tables)) (kinds (table_named P.tables validation_name) named.validation_kinds);
      validation_keys = subst (λ o. IfSome o (λ u. map (λ c. c.key) u.columns ≡ map (λ c. c.key) validation_columns)) (sym (found_after t.name stored validation_name P.tables)) (keys (table_named P.tables validation_name) named.validation_keys);
    }
      where
        kinds : (o : Option Table) → IfSome o (λ u. kinds_of u.columns ≡ kinds_of validation_columns) → IfSome (option_map (with_rows t.name stored) o) (λ u. kinds_of u.columns ≡ kinds_of validation_columns)
        kinds None h = h
        kinds (Some u) h = ap kinds_of (columns_kept t.name stored u) ∙ h

        keys : (o : Option Table) → IfSome o (λ u. map (λ c. c.key) u.columns ≡ map (λ c. c.key) validation_columns) → IfSome (option_map (with_rows t.name stored) o) (λ u. map (λ c. c.key) u.columns ≡ map (λ c. c.key) validation_columns)
        keys None h = h
        keys (Some u) h = ap (map (λ c. c.key)) (columns_kept t.name stored u) ∙ h
