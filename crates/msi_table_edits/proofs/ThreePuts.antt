-- A tree stores the package with a new table, where the streams of the system tables got the rows that describe it.
use Rattle.std.proofs.Common.{◌≡◌, ◌∙◌, ℕ, ◌<◌, Bool, true, false, cond, List, [], ◌∷◌, get_or, length, map, refl, sym, ap, ap₂, subst, Some, None, not}
use Rattle.std.specs.Prelude.{◌&&◌, ◌||◌, bytes_eq, filter, unwrap_or, All}
use Rattle.std.specs.List.{list_any}
use Rattle.std.proofs.lemmas.List.Elements.{All-head, All-map, All-tail}
use Rattle.cfb_tree.specs.Names.{CaseTable}
use Rattle.cfb_tree.specs.Objects.{a_stream, is_same_name, name_of, Object}
use Rattle.cfb_tree.specs.Tree.{Tree}
use Rattle.msi_columns.specs.Column.{Column}
use Rattle.msi_spec.specs.Calls.{with_rows}
use Rattle.msi_spec.specs.Opening.{keeps_encoded_names}
use Rattle.msi_spec.specs.Package.{at_name, data_name, is_own, is_stream, objects, pool_name, stream_at, stream_name, summary_name, table_stream, PackageContent}
use Rattle.msi_spec.specs.SoundParts.{HasSoundNames}
use Rattle.msi_spec.specs.Split.{TreeStoresRest}
use Rattle.msi_spec.specs.Streams.{IsDropped}
use Rattle.msi_spec.proofs.Roots.{put_dropped, put_found}
use Rattle.msi_spec.proofs.StreamKeys.{same_by_key}
use Rattle.msi_spec.proofs.SystemRows.{bytes_swap, same_bytes}
use Rattle.msi_pool.specs.Pool.{Pool}
use Rattle.msi_rewritten.specs.Rewriting.{HasPut}
use Rattle.msi_rewritten.proofs.Beside.{put_keeps_storages}
use Rattle.msi_rewritten.proofs.Names.{no_slash, storage_listed, tables_apart}
use Rattle.msi_rewritten.proofs.Put.{beside, data_beside, free_parts, names_differ, pool_beside, summary_beside}
use Rattle.msi_rewritten.proofs.Stored.{and_none, or_right, own_listed}
use Rattle.msi_rewritten.proofs.Tables.{other_kept}
use Rattle.msi_stored.specs.Changing.{KeepsParts}
use Rattle.msi_tables.specs.Rows.{kinds_of, rows_of, Row}
use Rattle.msi_tables.specs.Schema.{columns_columns, columns_name, tables_columns, tables_name, validation_name}
use Rattle.msi_tables.specs.Table.{Table}
use Rattle.msi_texts.specs.Category.{is_identifier}
use Rattle.msi_table_edits.specs.Validating.{AreReadTwo, HasPutTwo}
use Rattle.msi_table_edits.proofs.Holding.{all_put, any_put, holding, there_has, IsThere}
use Rattle.msi_table_edits.proofs.NoStream.{identifier, keep, marked, no_rows, no_strays, no_table_stream, Unmarked}
use Rattle.msi_table_edits.proofs.NewTable.{name_apart, all_told, apart, columns_by_name, columns_now, names_after, names_same, new, rises_after, schema_after, tables0, tables1, tables2, tables_now, validation_now, IsNewTable, Q}

-- ---- tests

-- one name more takes nothing that the others leave, where that has not this name
not_more : (k a b d s l : Bool) → ((k && not (a || (b || (d || l)))) ≡ true → s ≡ false) → (k && not (a || (b || (d || (s || l))))) ≡ (k && not (a || (b || (d || l))))
not_more false a b d s l h = refl
not_more true true b d s l h = refl
not_more true false true d s l h = refl
not_more true false false true s l h = refl
not_more true false false false true true h = refl
not_more true false false false true false h = absurd (let never : true ≡ false = h refl in cc)
not_more true false false false false l h = refl

abbrev storages_in : List Object → List Object
storages_in os = filter (λ o. not (is_stream o)) os

-- ---- one of the puts

module _ (letters : CaseTable) (name bytes : List ℕ) (a b : Tree) (put : HasPut letters name bytes a b) (others : List Object) (same : storages_in (objects a.content) ≡ others)
    (free : at_name letters others (stream_name name) ≡ None) where
  none_there : at_name letters (storages_in (objects a.content)) (stream_name name) ≡ None
  none_there = ap (λ os. at_name letters os (stream_name name)) same ∙ free

  storages_still : storages_in (objects b.content) ≡ others
  storages_still = ap storages_in put.objects ∙ put_keeps_storages letters (stream_name name) bytes (objects a.content) none_there ∙ same

  put_there : is_identifier name ≡ true → table_stream letters (objects b.content) name ≡ Some bytes
  put_there e =
      ap (λ slash. cond slash None (stream_at letters (objects b.content) (stream_name name))) (no_slash name e)
      ∙ ap (λ os. stream_at letters os (stream_name name)) put.objects
      ∙ put_found letters (stream_name name) bytes (objects a.content) (λ o there. by o there (is_stream o) refl) (same_by_key letters (stream_name name) (stream_name name) refl)
    where
      by : (o : Object) → at_name letters (objects a.content) (stream_name name) ≡ Some o → (b : Bool) → is_stream o ≡ b → b ≡ true
      by o there true is = refl
      by o there false is = (let never : None ≡ Some o = sym none_there ∙ storage_listed letters (stream_name name) (objects a.content) o there is in absurd (cc))

-- ---- what a tree leaves of another, but for the stream of _Validation

pub record LeavesOthers (letters : CaseTable) (old new : Tree) : Type 0 where
  pub root : new.root ≡ old.root
  pub storages : storages_in (objects new.content) ≡ storages_in (objects old.content)
  pub beside : (m : List ℕ) → is_identifier m ≡ true → bytes_eq m validation_name ≡ false → table_stream letters (objects new.content) m ≡ table_stream letters (objects old.content) m
  pub parts : KeepsParts letters old new
  pub streams : (keeps : Object → Bool) → IsDropped letters keeps (stream_name validation_name) → filter keeps (objects new.content) ≡ filter keeps (objects old.content)

pub leaves_all : (letters : CaseTable) (tree : Tree) → LeavesOthers letters tree tree
leaves_all letters tree = record { root = refl; storages = refl; beside = λ m e differ. refl; parts = record { pool = refl; pool_data = refl; summary = refl }; streams = λ keeps dropped. refl }

module _ (letters : CaseTable) (P : PackageContent) (usable : keeps_encoded_names letters ≡ true) (named : HasSoundNames letters P) (u : Table) (there : IsThere P.tables u) (is : u.name ≡ validation_name) (bv : List ℕ) (old new : Tree)
    (put : HasPut letters validation_name bv old new) (free : at_name letters (storages_in (objects old.content)) (stream_name validation_name) ≡ None) where
  put_u : HasPut letters u.name bv old new
  put_u = subst (λ n. HasPut letters n bv old new) (sym is) put

  pub put_leaves : LeavesOthers letters old new
  put_leaves = record {
    root = put.root;
    storages = storages_still letters validation_name bv old new put (storages_in (objects old.content)) refl free;
    beside = λ m e differ. beside letters P usable named there.k u there.at old new bv put_u m
        (ap (λ n. is_same_name letters (stream_name m) (stream_name n)) is ∙ tables_apart letters usable m validation_name e refl (names_differ m validation_name differ));
    parts = record {
      pool = pool_beside letters P usable named there.k u there.at old new bv put_u;
      pool_data = data_beside letters P usable named there.k u there.at old new bv put_u;
      summary = summary_beside letters P usable named there.k u there.at old new bv put_u;
    };
    streams = λ keeps dropped. ap (filter keeps) put.objects ∙ put_dropped letters (stream_name validation_name) bv keeps dropped (objects old.content);
  }

  pub put_stands : table_stream letters (objects new.content) validation_name ≡ Some bv
  put_stands = put_there letters validation_name bv old new put (storages_in (objects old.content)) refl free refl

module _ (letters : CaseTable) (old after : Tree) (P : PackageContent) (usable : keeps_encoded_names letters ≡ true) (stores : TreeStoresRest letters old P) (named : HasSoundNames letters P)
    (name : List ℕ) (columns : List Column) (pool : Pool) (c t v : List Row) (h : IsNewTable letters P name columns pool c t v) where
  abbrev R : PackageContent
  R = Q letters old P stores named name columns pool c t v h

  abbrev N : Table
  N = new letters old P stores named name columns pool c t v h

  abbrev c0 : Table
  c0 = holding columns_name columns_columns h.old_c

  abbrev t0 : Table
  t0 = holding tables_name tables_columns h.old_t

  abbrev kept : Object → Bool
  kept = keep letters old P usable stores named

  own_identifier : is_identifier name ≡ true
  own_identifier = identifier letters old P usable stores named name h.free h.none

  -- ---- the streams that belong to none

  abbrev keep_after : Object → Bool
  keep_after o = is_stream o && not (is_own letters R o)

  keeps_alike : (o : Object) → (kept o ≡ true → Unmarked o) → keep_after o ≡ kept o
  keeps_alike o unmarked =
      let f : List ℕ → Bool = λ n. is_same_name letters n (name_of o) in
      let s : Bool = f (stream_name name) in
      let l : Bool = list_any f (map (λ t. stream_name t.name) P.tables) in
      let all : list_any f (map (λ t. stream_name t.name) R.tables) ≡ (s || l) =
      ap (list_any f) (names_same letters old P stores named name columns pool c t v h stream_name) ∙ any_put N f stream_name P.tables in
      ap (λ b. is_stream o && not (f summary_name || (f (stream_name pool_name) || (f (stream_name data_name) || b)))) all
      ∙ not_more (is_stream o) (f summary_name) (f (stream_name pool_name)) (f (stream_name data_name)) s l (λ is. by s refl (unmarked is))
    where
      by : (b : Bool) → is_same_name letters (stream_name name) (name_of o) ≡ b → Unmarked o → b ≡ false
      by false is u = refl
      by true is u = absurd (marked letters old P usable stores named name h.free h.none o is u)

  filtered_alike : (os : List Object) → All Unmarked (filter kept os) → filter keep_after os ≡ filter kept os
  filtered_alike [] all = refl
  filtered_alike (o ∷ os) all = by (kept o) refl (filtered_alike os)
    where
      by : (b : Bool) → kept o ≡ b → (All Unmarked (filter kept os) → filter keep_after os ≡ filter kept os) → filter keep_after (o ∷ os) ≡ filter kept (o ∷ os)
      by true is rest =
          let kept_all : All Unmarked (o ∷ filter kept os) = rw is at all in
          let now : keep_after o ≡ true = keeps_alike o (λ is. All-head Unmarked o (filter kept os) kept_all) ∙ is in
          ap (λ b. cond b (o ∷ filter keep_after os) (filter keep_after os)) now
          ∙ ap (λ l. o ∷ l) (rest (All-tail Unmarked o (filter kept os) kept_all))
          ∙ sym (ap (λ b. cond b (o ∷ filter kept os) (filter kept os)) is)
      by false is rest =
          let none : All Unmarked (filter kept os) = rw is at all in
          let now : keep_after o ≡ false = keeps_alike o (λ yes_kept. absurd (let never : false ≡ true = sym is ∙ yes_kept in cc)) ∙ is in
          ap (λ b. cond b (o ∷ filter keep_after os) (filter keep_after os)) now
          ∙ rest none
          ∙ sym (ap (λ b. cond b (o ∷ filter kept os) (filter kept os)) is)

  dropped : (u : Table) → IsThere R.tables u → IsDropped letters keep_after (stream_name u.name)
  dropped u there = record {
    dropped = λ o same. and_none (is_stream o) (is_own letters R o) (own o same);
    new = λ content. and_none true (is_own letters R (a_stream (stream_name u.name) 0 content)) (own (a_stream (stream_name u.name) 0 content) (same_by_key letters (stream_name u.name) (stream_name u.name) refl));
  }
    where
      own : (o : Object) → is_same_name letters (stream_name u.name) (name_of o) ≡ true → is_own letters R o ≡ true
      own o same =
          or_right (is_same_name letters summary_name (name_of o)) _
          (or_right (is_same_name letters (stream_name pool_name) (name_of o)) _
          (or_right (is_same_name letters (stream_name data_name) (name_of o)) _
          (own_listed letters (name_of o) R.tables there.k u there.at same)))

  abbrev others : List Object
  others = storages_in (objects old.content)

  free_of : (u : Table) → IsThere P.tables u → at_name letters others (stream_name u.name) ≡ None
  free_of u there = ap (λ os. at_name letters os (stream_name u.name)) (sym stores.storages) ∙ there_has (λ u. at_name letters P.storages (stream_name u.name) ≡ None) P.tables u there named.no_storage

  -- ---- the tree in which _Columns and _Tables are put

  module _ (bc bt : List ℕ) (two : Tree) (put : HasPutTwo letters bc bt old two) where
    first_storages : storages_in (objects put.first.content) ≡ others
    first_storages = storages_still letters columns_name bc old put.first put.columns others refl (free_of c0 h.columns_there)

    pub two_storages : storages_in (objects two.content) ≡ others
    two_storages = storages_still letters tables_name bt put.first two put.tables others first_storages (free_of t0 h.tables_there)

    -- where a storage would stand at the name of _Validation, none does
    pub two_free : at_name letters (storages_in (objects two.content)) (stream_name validation_name) ≡ None
    two_free = ap (λ os. at_name letters os (stream_name validation_name)) (two_storages ∙ sym stores.storages) ∙ h.limited.no_storage

    -- what each put leaves
    past_columns : (m : List ℕ) → is_identifier m ≡ true → bytes_eq m columns_name ≡ false → table_stream letters (objects put.first.content) m ≡ table_stream letters (objects old.content) m
    past_columns m e differ = beside letters P usable named h.columns_there.k c0 h.columns_there.at old put.first bc put.columns m (tables_apart letters usable m columns_name e refl (names_differ m columns_name differ))

    past_tables : (m : List ℕ) → is_identifier m ≡ true → bytes_eq m tables_name ≡ false → table_stream letters (objects two.content) m ≡ table_stream letters (objects put.first.content) m
    past_tables m e differ = beside letters P usable named h.tables_there.k t0 h.tables_there.at put.first two bt put.tables m (tables_apart letters usable m tables_name e refl (names_differ m tables_name differ))

    pub past_two : (m : List ℕ) → is_identifier m ≡ true → bytes_eq m columns_name ≡ false → bytes_eq m tables_name ≡ false → table_stream letters (objects two.content) m ≡ table_stream letters (objects old.content) m
    past_two m e a b = past_tables m e b ∙ past_columns m e a

    columns_two : table_stream letters (objects two.content) columns_name ≡ Some bc
    columns_two = past_tables columns_name refl refl ∙ put_there letters columns_name bc old put.first put.columns others refl (free_of c0 h.columns_there) refl

    tables_two : table_stream letters (objects two.content) tables_name ≡ Some bt
    tables_two = put_there letters tables_name bt put.first two put.tables others first_storages (free_of t0 h.tables_there) refl

    -- pool and summary stay
    pub two_stay : KeepsParts letters old two
    two_stay = record {
      pool = pool_beside letters P usable named h.tables_there.k t0 h.tables_there.at put.first two bt put.tables ∙ pool_beside letters P usable named h.columns_there.k c0 h.columns_there.at old put.first bc put.columns;
      pool_data = data_beside letters P usable named h.tables_there.k t0 h.tables_there.at put.first two bt put.tables ∙ data_beside letters P usable named h.columns_there.k c0 h.columns_there.at old put.first bc put.columns;
      summary = summary_beside letters P usable named h.tables_there.k t0 h.tables_there.at put.first two bt put.tables ∙ summary_beside letters P usable named h.columns_there.k c0 h.columns_there.at old put.first bc put.columns;
    }

    streams_two : P.streams ≡ filter keep_after (objects two.content)
    streams_two =
        stores.streams
        ∙ sym (filtered_alike (objects old.content) (no_strays letters old P usable stores named))
        ∙ sym (put_dropped letters (stream_name columns_name) bc keep_after (dropped (holding columns_name columns_columns c) (columns_now letters old P stores named name columns pool c t v h)) (objects old.content))
        ∙ ap (filter keep_after) (sym put.columns.objects)
        ∙ sym (put_dropped letters (stream_name tables_name) bt keep_after (dropped (holding tables_name tables_columns t) (tables_now letters old P stores named name columns pool c t v h)) (objects put.first.content))
        ∙ ap (filter keep_after) (sym put.tables.objects)

    -- ---- the tree after that, in which the rows of _Validation stand

    module _ (last : LeavesOthers letters two after) (stands : rows_of P.pool.long (kinds_of h.own) (unwrap_or (table_stream letters (objects after.content) validation_name) []) ≡ Some v) where
      past_all : (m : List ℕ) → is_identifier m ≡ true → bytes_eq m columns_name ≡ false → bytes_eq m tables_name ≡ false → bytes_eq m validation_name ≡ false
          → table_stream letters (objects after.content) m ≡ table_stream letters (objects old.content) m
      past_all m e a b d = last.beside m e d ∙ past_two m e a b

      columns_put : table_stream letters (objects after.content) columns_name ≡ Some bc
      columns_put = last.beside columns_name refl refl ∙ columns_two

      tables_put : table_stream letters (objects after.content) tables_name ≡ Some bt
      tables_put = last.beside tables_name refl refl ∙ tables_two

      streams_after : P.streams ≡ filter keep_after (objects after.content)
      streams_after =
          streams_two
          ∙ sym (last.streams keep_after (dropped (holding validation_name h.own v) (validation_now letters old P stores named name columns pool c t v h)))

      -- ---- rows

      module _ (read : AreReadTwo P bc bt c t) where
        abbrev Reads : Table → Type 0
        Reads u = rows_of pool.long (kinds_of u.columns) (unwrap_or (table_stream letters (objects after.content) u.name) []) ≡ Some u.rows

        reads_at : (m : List ℕ) (cs : List Column) (bytes : List ℕ) (rows : List Row) → table_stream letters (objects after.content) m ≡ Some bytes → rows_of P.pool.long (kinds_of cs) bytes ≡ Some rows → Reads (holding m cs rows)
        reads_at m cs bytes rows at is =
            ap (λ long. rows_of long (kinds_of cs) (unwrap_or (table_stream letters (objects after.content) m) [])) h.kept.long
            ∙ ap (λ o. rows_of P.pool.long (kinds_of cs) (unwrap_or o [])) at
            ∙ is

        reads_c : Reads (holding columns_name columns_columns c)
        reads_c = reads_at columns_name columns_columns bc c columns_put read.columns

        reads_t : Reads (holding tables_name tables_columns t)
        reads_t = reads_at tables_name tables_columns bt t tables_put read.tables

        reads_v : Reads (holding validation_name h.own v)
        reads_v = ap (λ long. rows_of long (kinds_of h.own) (unwrap_or (table_stream letters (objects after.content) validation_name) [])) h.kept.long ∙ stands

        abbrev three : Table → Table
        three u = with_rows columns_name c (with_rows tables_name t (with_rows validation_name v u))

        beside_three : (u : Table) → bytes_eq u.name columns_name ≡ false → bytes_eq u.name tables_name ≡ false → bytes_eq u.name validation_name ≡ false → three u ≡ u
        beside_three u a b d =
            ap (λ w. with_rows columns_name c (with_rows tables_name t w)) (other_kept validation_name v u d) ∙ ap (with_rows columns_name c) (other_kept tables_name t u b) ∙ other_kept columns_name c u a

        -- the new table has no stream, or it is _Validation
        new_reads : Reads (three N)
        new_reads = by (bytes_eq name validation_name) refl
          where
            a : bytes_eq name columns_name ≡ false
            a = apart letters old P stores named name columns pool c t v h c0 h.columns_there

            b : bytes_eq name tables_name ≡ false
            b = apart letters old P stores named name columns pool c t v h t0 h.tables_there

            by : (d : Bool) → bytes_eq name validation_name ≡ d → Reads (three N)
            by true is = subst (λ u. Reads (three u)) (ap₂ (λ n cs. holding n cs []) (sym (same_bytes name validation_name is)) (sym (h.limited.own_new is))) reads_v
            by false is =
                subst Reads (sym (beside_three N a b is))
                (ap (λ o. rows_of pool.long (kinds_of columns) (unwrap_or o [])) (past_all name own_identifier a b is ∙ no_table_stream letters old P usable stores named name h.free h.none)
                ∙ no_rows pool.long (kinds_of columns))

        -- a table of this name has these columns
        columns_of_name : (j : ℕ) (d : Table) → j < length P.tables → (u : Table) → IsThere P.tables u → bytes_eq (get_or P.tables j d).name u.name ≡ true → get_or P.tables j d ≡ holding u.name u.columns (get_or P.tables j d).rows
        columns_of_name j d within u there is =
            let w : Table = get_or P.tables j d in
            let same = same_bytes w.name u.name is in
            ap₂ (λ n cs. holding n cs w.rows) same (columns_by_name letters old P stores named name columns pool c t v h j d within u there same)

        old_reads : All (λ u. Reads (three u)) P.tables
        old_reads = λ j d within. at_columns j d within (bytes_eq (get_or P.tables j d).name columns_name) refl
          where
            at_validation : (j : ℕ) (d : Table) → j < length P.tables → bytes_eq (get_or P.tables j d).name columns_name ≡ false → bytes_eq (get_or P.tables j d).name tables_name ≡ false
                → (b : Bool) → bytes_eq (get_or P.tables j d).name validation_name ≡ b → Reads (three (get_or P.tables j d))
            at_validation j d within a b true is =
                let w : Table = get_or P.tables j d in
                let other : bytes_eq name validation_name ≡ false = subst (λ n. bytes_eq name n ≡ false) (same_bytes w.name validation_name is) (bytes_swap name w.name ∙ name_apart letters old P stores named name columns pool c t v h j d within) in
                subst (λ u. Reads (three u)) (sym (columns_of_name j d within (holding validation_name h.own h.old_v) (h.limited.there other) is)) reads_v
            at_validation j d within a b false is =
                let u : Table = get_or P.tables j d in
                subst Reads (sym (beside_three u a b is))
                (ap (λ long. rows_of long (kinds_of u.columns) (unwrap_or (table_stream letters (objects after.content) u.name) [])) h.kept.long
                ∙ ap (λ o. rows_of P.pool.long (kinds_of u.columns) (unwrap_or o [])) (past_all u.name (free_parts u.name (named.table_names j d within)).0 a b is)
                ∙ stores.rows j d within)

            at_tables : (j : ℕ) (d : Table) → j < length P.tables → bytes_eq (get_or P.tables j d).name columns_name ≡ false → (b : Bool) → bytes_eq (get_or P.tables j d).name tables_name ≡ b → Reads (three (get_or P.tables j d))
            at_tables j d within a true is = subst (λ u. Reads (three u)) (sym (columns_of_name j d within t0 h.tables_there is)) reads_t
            at_tables j d within a false is = at_validation j d within a is (bytes_eq (get_or P.tables j d).name validation_name) refl

            at_columns : (j : ℕ) (d : Table) → j < length P.tables → (b : Bool) → bytes_eq (get_or P.tables j d).name columns_name ≡ b → Reads (three (get_or P.tables j d))
            at_columns j d within true is = subst (λ u. Reads (three u)) (sym (columns_of_name j d within c0 h.columns_there is)) reads_c
            at_columns j d within false is = at_tables j d within is (bytes_eq (get_or P.tables j d).name tables_name) refl

        abbrev first_tables : List Table
        first_tables = tables0 letters old P stores named name columns pool c t v h

        rows_after : All Reads R.tables
        rows_after =
            All-map Reads (with_rows columns_name c) (tables2 letters old P stores named name columns pool c t v h)
            (All-map (λ u. Reads (with_rows columns_name c u)) (with_rows tables_name t) (tables1 letters old P stores named name columns pool c t v h)
            (All-map (λ u. Reads (with_rows columns_name c (with_rows tables_name t u))) (with_rows validation_name v) first_tables
            (all_put N (λ u. Reads (three u)) P.tables new_reads old_reads)))

        pub stores_new : TreeStoresRest letters after R
        stores_new = record {
          class = ap (λ facts. facts.clsid) (last.root ∙ put.tables.root ∙ put.columns.root) ∙ stores.class;
          rising = rises_after letters old P stores named name columns pool c t v h;
          names = names_after letters old P stores named name columns pool c t v h;
          rows = rows_after;
          validation = v;
          validation_is = ap (λ ks. rows_of pool.long ks (unwrap_or (table_stream letters (objects after.content) validation_name) [])) (sym h.limited.kinds) ∙ reads_v;
          schema = schema_after letters old P stores named name columns pool c t v h;
          columns = all_told letters old P stores named name columns pool c t v h;
          streams = streams_after;
          storages = stores.storages ∙ sym (last.storages ∙ two_storages);
        }
