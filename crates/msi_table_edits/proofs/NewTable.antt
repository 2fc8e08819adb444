-- A package with a new table: its tables, its schema, its names and its counts.
use Rattle.std.proofs.Common.{◌≡◌, ◌∙◌, ℕ, ◌+◌, ◌<◌, ◌≤◌, Bool, true, false, cond, List, [], ◌∷◌, ◌++◌, get_or, length, map, refl, sym, ap, ap₂, subst, arith, Some, None, not}
use Rattle.std.specs.Prelude.{◌&&◌, ◌||◌, ◌↔◌, bytes_eq, count_by, is_some, take, All, Contains, IfSome, IsTrue}
use Rattle.std.specs.List.{list_all, list_any}
use Rattle.std.specs.List.Sorted.{IsPermutation, IsStrictlySortedBy}
use Rattle.std.proofs.lemmas.Bool.{and_parts}
use Rattle.std.proofs.lemmas.Cmp.{nat_list_eq_equiv}
use Rattle.std.proofs.lemmas.List.{get_or-map, length-map, map-append}
use Rattle.std.proofs.lemmas.List.Elements.{All-append, All-cons, All-nil, Contains-get_or}
use Rattle.std.proofs.lemmas.List.Folds.{list_any-append}
use Rattle.std.proofs.lemmas.List.Sorted.{list_any-IsPermutation, sum_by-IsPermutation, All-permutation, IsPermutation-map}
use Rattle.std.proofs.lemmas.List.Sums.{get_or-le-sum_by, sum_by-append}
use Rattle.std.proofs.lemmas.Map.Views.{list_any-from_Contains, Contains-from_any}
use Rattle.cfb_tree.specs.Names.{CaseTable}
use Rattle.cfb_tree.specs.Tree.{Tree}
use Rattle.cfb_tree.proofs.OneContent.{Some_same}
use Rattle.msi_changes.specs.Laws.{names_place, uses_in, KeepsPlaces}
use Rattle.msi_changes.proofs.CellUses.{HasUses, Stays}
use Rattle.msi_columns.specs.Column.{Column}
use Rattle.msi_spec.specs.Calls.{new_table, rows_put, table_put}
use Rattle.msi_spec.specs.Package.{at_name, is_table_name, rows_named, stream_name, table_name_cmp, PackageContent}
use Rattle.msi_spec.specs.Sound.{is_free_table_name, refcounts_of}
use Rattle.msi_spec.specs.SoundParts.{HasSoundNames}
use Rattle.msi_spec.specs.Split.{TreeStoresRest}
use Rattle.msi_spec.specs.Uses.{RefcountsAreExact}
use Rattle.msi_spec.proofs.NewRows.{columns_begin, columns_filled, columns_keys}
use Rattle.msi_spec.proofs.SystemRows.{bytes_swap, same_bytes, table_found}
use Rattle.msi_pool.specs.Pool.{Pool}
use Rattle.msi_rewritten.proofs.Tables.{names_kept}
use Rattle.msi_rewritten.proofs.Texts.{rows_used}
use Rattle.msi_schema.proofs.Beside.{added, begins_once, moved}
use Rattle.msi_schema.proofs.Schemas.{schemas_grow, schemas_moved}
use Rattle.msi_tables.specs.Rows.{kinds_of, Row}
use Rattle.msi_tables.specs.Schema.{are_keys, begins_with, columns_columns, columns_in, columns_name, columns_rows, is_filled, is_of_listed, is_schema, names_described, schema_of, tables_columns, tables_name, validation_columns, validation_name}
use Rattle.msi_tables.specs.Table.{are_distinct, data_rows, has_key, row_data, table_named, Table}
use Rattle.msi_values.specs.Datum.{binary, null, number, text, Datum}
use Rattle.msi_table_edits.specs.Created.{with_table}
use Rattle.msi_table_edits.proofs.Among.{put_uses, rises_put}
use Rattle.msi_table_edits.proofs.Given.{none_used, said_still, AreGiven}
use Rattle.msi_table_edits.proofs.Holding.{all_put, all_with_rows, any_put, holding, rises_still, there_beside, there_has, there_own, there_put, uses_swapped, IsThere}

abbrev Rows : Type 0
Rows = List (List Datum)

-- ---- tests

or_right : (a b : Bool) → b ≡ true → (a || b) ≡ true
or_right true b e = refl
or_right false b e = e

bool_same : (a b : Bool) → (a ≡ true → b ≡ true) → (b ≡ true → a ≡ true) → a ≡ b
bool_same true b there back = sym (there refl)
bool_same false true there back = absurd (let never : false ≡ true = back refl in cc)
bool_same false false there back = refl

shuffled : (x a b l : Bool) → (x || (a || b || l)) ≡ (a || b || (l || (x || false)))
shuffled true true b l = refl
shuffled true false true l = refl
shuffled true false false true = refl
shuffled true false false false = refl
shuffled false a b true = refl
shuffled false a b false = refl

-- the second, the fourth and the fifth of six tests
six : (a b c d k f : Bool) → (a && b && c && d && k && f) ≡ true → (b ≡ true) × (d ≡ true) × (k ≡ true)
six a b c d k f e =
    let five = and_parts (a && b && c && d && k) f e in
    let four = and_parts (a && b && c && d) k five.0 in
    let three = and_parts (a && b && c) d four.0 in
    let two = and_parts (a && b) c three.0 in
    ((and_parts a b two.0).1, three.1, four.1)

schema_tests : (T C V : Rows) → is_schema T C V ≡ true → (are_distinct (map (take 2) C) ≡ true) × (list_all (is_of_listed T) C ≡ true) × (are_distinct (map (take 2) V) ≡ true)
schema_tests T C V e =
    let is = six (are_keys T) (are_keys (map (take 2) C)) (list_all (list_all is_filled) C) (list_all (is_of_listed T) C) (are_keys (map (take 2) V)) (list_all (names_described C V) T) e in
    ((and_parts (list_all (list_all is_filled) (map (take 2) C)) (are_distinct (map (take 2) C)) is.0).1, is.1, (and_parts (list_all (list_all is_filled) (map (take 2) V)) (are_distinct (map (take 2) V)) is.2).1)

-- rows of tables that are listed don't speak of another
none_spoken : (name : List ℕ) (T : Rows) → list_any (begins_with name) T ≡ false → (C : Rows) → list_all (is_of_listed T) C ≡ true → list_any (begins_with name) C ≡ false
none_spoken name T none [] all = refl
none_spoken name T none (row ∷ C) all =
    let parts = and_parts (is_of_listed T row) (list_all (is_of_listed T) C) all in
    ap₂ (λ a b. a || b) (one row parts.0) (none_spoken name T none C parts.1)
  where
    one : (row : List Datum) → is_of_listed T row ≡ true → begins_with name row ≡ false
    one [] e = refl
    one (null ∷ ds) e = refl
    one (number z ∷ ds) e = refl
    one (binary ∷ ds) e = refl
    one (text s ∷ ds) e = by (bytes_eq s name) refl
      where
        by : (b : Bool) → bytes_eq s name ≡ b → b ≡ false
        by false is = refl
        by true is =
            let never : true ≡ false = sym e ∙ ap (λ n. list_any (begins_with n) T) (same_bytes s name is) ∙ none in
            absurd (cc)

-- rows that speak of one table speak of no other
none_speak : (name other : List ℕ) → bytes_eq other name ≡ false → (rows : Rows) → list_all (begins_with name) rows ≡ true → list_any (begins_with other) rows ≡ false
none_speak name other apart [] all = refl
none_speak name other apart (row ∷ rows) all =
    let parts = and_parts (begins_with name row) (list_all (begins_with name) rows) all in
    ap₂ (λ a b. a || b) (begins_once other name apart row parts.0) (none_speak name other apart rows parts.1)

-- uses that are counted leave no reference without one
counted_from : (pool : Pool) (ts : List Table) → HasUses pool (refcounts_of ts) → refcounts_of ts 0 ≡ 0 → RefcountsAreExact pool ts
counted_from pool ts has none = record {
  references = λ j d within.
      let least : (n : ℕ) → uses_in (get_or ts j d).rows n ≤ refcounts_of ts n = λ n. get_or-le-sum_by (λ u. uses_in u.rows n) ts j d within in
      rows_used pool (get_or ts j d).rows (let low = least 0 in omega (arith, low, none)) (λ n at used. let low = least n in let count = has.counts n at in omega (arith, low, count, used));
  counts = λ n at within. has.counts n at;
}

-- ---- the new table

-- no other has its name
pub is_apart : (ts : List Table) (name : List ℕ) → table_named ts name ≡ None → (u : Table) → IsThere ts u → bytes_eq name u.name ≡ false
is_apart ts name none u there = by (bytes_eq name u.name) refl
  where
    by : (b : Bool) → bytes_eq name u.name ≡ b → b ≡ false
    by false e = refl
    by true e = (let never : None ≡ Some u = sym none ∙ ap (table_named ts) (same_bytes name u.name e) ∙ there.found in absurd (cc))

-- What _Validation comes to beside a new table: rows stand behind its own, in some order; or it is the new table itself, and has none.
-- What they say of the new table, if anything, is said of no other.
pub record IsLimited (letters : CaseTable) (P : PackageContent) (name : List ℕ) (columns : List Column) (limits : Rows) (pool : Pool) (own : List Column) (old_v new_v v : List Row) : Type 0 where
  pub now : IsThere (rows_put validation_name v (table_put (new_table name columns) P.tables)) (holding validation_name own v)
  pub there : bytes_eq name validation_name ≡ false → IsThere P.tables (holding validation_name own old_v)
  pub own_new : bytes_eq name validation_name ≡ true → columns ≡ own
  pub read : (tree : Tree) (stores : TreeStoresRest letters tree P) → stores.validation ≡ old_v
  pub said : IsPermutation (map (row_data P.pool) old_v ++ limits) (map (row_data pool) v)
  pub uses : (n : ℕ) → refcounts_of (rows_put validation_name v (table_put (new_table name columns) P.tables)) n ≡ uses_in new_v n + refcounts_of (table_put (new_table name columns) P.tables) n
  pub kinds : kinds_of own ≡ kinds_of validation_columns
  pub keys : map (λ c. c.key) own ≡ map (λ c. c.key) validation_columns
  pub no_storage : at_name letters P.storages (stream_name validation_name) ≡ None
  pub described : (cs : Rows) → list_any (begins_with name) cs ≡ false → schema_of (cs ++ columns_rows name 1 columns) (map (row_data P.pool) old_v ++ limits) name ≡ Some columns
  pub whole : are_keys (map (take 2) limits) ≡ true
  pub begin : list_all (begins_with name) limits ≡ true
  pub apart : list_all (λ key. not (has_key (map (take 2) limits) key)) (map (take 2) (map (row_data P.pool) old_v)) ≡ true

-- What makes a table new: none has its name, and the rows that describe it stand behind those of the system tables, in some order; the
-- pool counts their texts beside the others.
pub record IsNewTable (letters : CaseTable) (P : PackageContent) (name : List ℕ) (columns : List Column) (pool : Pool) (c t v : List Row) : Type 0 where
  pub old_c : List Row
  pub old_t : List Row
  pub old_v : List Row
  pub own : List Column
  pub columns_there : IsThere P.tables (holding columns_name columns_columns old_c)
  pub tables_there : IsThere P.tables (holding tables_name tables_columns old_t)
  pub new_c : List Row
  pub new_t : List Row
  pub new_v : List Row
  pub c_moved : IsPermutation (old_c ++ new_c) c
  pub t_moved : IsPermutation (old_t ++ new_t) t
  pub limits : Rows
  pub limited : IsLimited letters P name columns limits pool own old_v new_v v
  pub given : AreGiven P.pool (refcounts_of P.tables) name columns limits pool new_c new_t new_v
  pub kept : KeepsPlaces P.pool pool
  pub none : table_named P.tables name ≡ None
  pub free : is_free_table_name name ≡ true
  pub no_storage : at_name letters P.storages (stream_name name) ≡ None

-- rows as values, where new ones stand behind them in some order
pub said_moved : (letters : CaseTable) (tree : Tree) (P : PackageContent) → TreeStoresRest letters tree P → (pool : Pool) → Stays (refcounts_of P.tables) P.pool pool → (u : Table) → IsThere P.tables u
    → (added_rows stored : List Row) (also : Rows) → map (row_data pool) added_rows ≡ also → IsPermutation (u.rows ++ added_rows) stored → IsPermutation (map (row_data P.pool) u.rows ++ also) (map (row_data pool) stored)
said_moved letters tree P stores pool stays u there added_rows stored also says moves =
    let said : map (row_data pool) (u.rows ++ added_rows) ≡ map (row_data P.pool) u.rows ++ also =
    map-append (row_data pool) u.rows added_rows ∙ ap₂ (λ a b. a ++ b) (said_still letters tree P stores pool stays u there) says in
    subst (λ rows. IsPermutation rows (map (row_data pool) stored)) said (IsPermutation-map (row_data pool) (u.rows ++ added_rows) stored moves)

-- their uses of texts
pub uses_stored : (old added_rows stored : List Row) → IsPermutation (old ++ added_rows) stored → (n : ℕ) → uses_in stored n ≡ uses_in old n + uses_in added_rows n
uses_stored old added_rows stored moves n =
    let use_in_row : Row → ℕ = λ row. count_by (names_place n) row in
    sum_by-IsPermutation use_in_row (old ++ added_rows) stored moves ∙ sum_by-append use_in_row old added_rows

module _ (letters : CaseTable) (tree : Tree) (P : PackageContent) (stores : TreeStoresRest letters tree P) (named : HasSoundNames letters P) (name : List ℕ) (columns : List Column) (pool : Pool) (c t v : List Row)
    (h : IsNewTable letters P name columns pool c t v) where
  abbrev pub Q : PackageContent
  Q = with_table P name columns pool c t v

  abbrev pub new : Table
  new = new_table name columns

  abbrev pub tables0 : List Table
  tables0 = table_put new P.tables

  abbrev pub tables1 : List Table
  tables1 = rows_put validation_name v tables0

  abbrev pub tables2 : List Table
  tables2 = rows_put tables_name t tables1

  pub apart : (u : Table) → IsThere P.tables u → bytes_eq name u.name ≡ false
  apart = is_apart P.tables name h.none

  -- ---- the three tables after

  pub columns_now : IsThere Q.tables (holding columns_name columns_columns c)
  columns_now =
      there_own columns_name c tables2 (holding columns_name columns_columns h.old_c)
      (there_beside tables_name t tables1 (holding columns_name columns_columns h.old_c)
      (there_beside validation_name v tables0 (holding columns_name columns_columns h.old_c)
      (there_put new P.tables (holding columns_name columns_columns h.old_c) h.columns_there (apart (holding columns_name columns_columns h.old_c) h.columns_there))
      refl) refl) refl

  pub tables_now : IsThere Q.tables (holding tables_name tables_columns t)
  tables_now =
      there_beside columns_name c tables2 (holding tables_name tables_columns t)
      (there_own tables_name t tables1 (holding tables_name tables_columns h.old_t)
      (there_beside validation_name v tables0 (holding tables_name tables_columns h.old_t)
      (there_put new P.tables (holding tables_name tables_columns h.old_t) h.tables_there (apart (holding tables_name tables_columns h.old_t) h.tables_there))
      refl) refl) refl

  pub validation_now : IsThere Q.tables (holding validation_name h.own v)
  validation_now =
      there_beside columns_name c tables2 (holding validation_name h.own v)
      (there_beside tables_name t tables1 (holding validation_name h.own v) h.limited.now refl) refl

  -- ---- rows as values

  abbrev Ts : Rows
  Ts = map (row_data P.pool) h.old_t

  abbrev Cs : Rows
  Cs = map (row_data P.pool) h.old_c

  abbrev Vs : Rows
  Vs = map (row_data P.pool) h.old_v

  abbrev more : Rows
  more = columns_rows name 1 columns

  abbrev also : Rows
  also = h.limits

  t_said : IsPermutation (Ts ++ (text name ∷ []) ∷ []) (map (row_data pool) t)
  t_said = said_moved letters tree P stores pool h.given.stays (holding tables_name tables_columns h.old_t) h.tables_there h.new_t t ((text name ∷ []) ∷ []) h.given.t_says h.t_moved

  c_said : IsPermutation (Cs ++ more) (map (row_data pool) c)
  c_said = said_moved letters tree P stores pool h.given.stays (holding columns_name columns_columns h.old_c) h.columns_there h.new_c c more h.given.c_says h.c_moved

  v_said : IsPermutation (Vs ++ also) (map (row_data pool) v)
  v_said = h.limited.said

  tables_before : rows_named P tables_name ≡ Ts
  tables_before = ap (data_rows P.pool) h.tables_there.found

  columns_before : rows_named P columns_name ≡ Cs
  columns_before = ap (data_rows P.pool) h.columns_there.found

  tables_after : rows_named Q tables_name ≡ map (row_data pool) t
  tables_after = ap (data_rows pool) tables_now.found

  columns_after : rows_named Q columns_name ≡ map (row_data pool) c
  columns_after = ap (data_rows pool) columns_now.found

  validation_same : stores.validation ≡ h.old_v
  validation_same = h.limited.read tree stores

  -- ---- the schema

  schema_before : is_schema Ts Cs Vs ≡ true
  schema_before =
      sym (ap (λ a. is_schema a Cs Vs) tables_before)
      ∙ sym (ap (λ b. is_schema (rows_named P tables_name) b Vs) columns_before)
      ∙ sym (ap (λ rows. is_schema (rows_named P tables_name) (rows_named P columns_name) (map (row_data P.pool) rows)) validation_same)
      ∙ stores.schema

  -- none speaks of the new table
  unnamed : is_table_name P name ≡ true → ⊥
  unnamed is =
      let there = list_any-from_Contains {eq = bytes_eq} nat_list_eq_equiv name (map (λ u. u.name) P.tables) ((stores.names name).0 is) in
      let found = table_found (λ u. Unit {0}) name P.tables (λ j d within. tt) there in
      let never : None ≡ Some found.0 = sym h.none ∙ found.1 in
      cc

  unlisted : list_any (begins_with name) Ts ≡ false
  unlisted = by (list_any (begins_with name) Ts) refl
    where
      by : (b : Bool) → list_any (begins_with name) Ts ≡ b → b ≡ false
      by false is = refl
      by true is = absurd (unnamed (or_right (bytes_eq name tables_name || bytes_eq name columns_name) _ (ap (list_any (begins_with name)) tables_before ∙ is)))

  unspoken : list_any (begins_with name) Cs ≡ false
  unspoken = none_spoken name Ts unlisted Cs (schema_tests Ts Cs Vs schema_before).1

  described : schema_of (Cs ++ more) (Vs ++ also) name ≡ Some columns
  described = h.limited.described Cs unspoken

  grown : is_schema (Ts ++ (text name ∷ []) ∷ []) (Cs ++ more) (Vs ++ also) ≡ true
  grown =
      schemas_grow Ts Cs Vs more also name schema_before unlisted (columns_keys name 1 columns) (columns_filled name 1 columns) (columns_begin name 1 columns)
      h.limited.whole h.limited.begin h.limited.apart (ap is_some described)

  pub schema_after : is_schema (rows_named Q tables_name) (rows_named Q columns_name) (map (row_data pool) v) ≡ true
  schema_after =
      ap (λ a. is_schema a (rows_named Q columns_name) (map (row_data pool) v)) tables_after
      ∙ ap (λ b. is_schema (map (row_data pool) t) b (map (row_data pool) v)) columns_after
      ∙ schemas_moved (Ts ++ (text name ∷ []) ∷ []) (map (row_data pool) t) (Cs ++ more) (map (row_data pool) c) (Vs ++ also) (map (row_data pool) v) t_said c_said v_said grown

  columns_told : (m : List ℕ) → columns_in (rows_named Q columns_name) (map (row_data pool) v) m ≡ columns_in (Cs ++ more) (Vs ++ also) m
  columns_told m =
      let once = schema_tests (Ts ++ (text name ∷ []) ∷ []) (Cs ++ more) (Vs ++ also) grown in
      ap (λ cs. columns_in cs (map (row_data pool) v) m) columns_after ∙ moved (Cs ++ more) (map (row_data pool) c) (Vs ++ also) (map (row_data pool) v) c_said v_said once.0 once.2 m

  abbrev Told : List ℕ → List Column → Type 0
  Told m cs = columns_in (rows_named Q columns_name) (map (row_data pool) v) m ≡ Some cs

  new_told : Told name columns
  new_told =
      columns_told name
      ∙ ap (λ b. cond b (Some tables_columns) (cond (bytes_eq name columns_name) (Some columns_columns) (schema_of (Cs ++ more) (Vs ++ also) name))) (apart (holding tables_name tables_columns h.old_t) h.tables_there)
      ∙ ap (λ b. cond b (Some columns_columns) (schema_of (Cs ++ more) (Vs ++ also) name)) (apart (holding columns_name columns_columns h.old_c) h.columns_there)
      ∙ described

  -- no other table has its name
  pub name_apart : (j : ℕ) (d : Table) → j < length P.tables → bytes_eq (get_or P.tables j d).name name ≡ false
  name_apart j d within = by (bytes_eq (get_or P.tables j d).name name) refl
    where
      by : (b : Bool) → bytes_eq (get_or P.tables j d).name name ≡ b → b ≡ false
      by false e = refl
      by true e =
          let u : Table = get_or P.tables j d in
          let inside : j < length (map (λ u. u.name) P.tables) = (let long = length-map P.tables (λ u. u.name) in omega (arith, long, within)) in
          let there : Contains (map (λ u. u.name) P.tables) u.name =
          subst (Contains (map (λ u. u.name) P.tables)) (get_or-map (λ u. u.name) P.tables j d d.name within) (Contains-get_or (map (λ u. u.name) P.tables) j d.name inside) in
          absurd (unnamed (subst (λ n. is_table_name P n ≡ true) (same_bytes u.name name e) ((stores.names u.name).1 there)))

  columns_before_told : (j : ℕ) (d : Table) → j < length P.tables → columns_in Cs Vs (get_or P.tables j d).name ≡ Some (get_or P.tables j d).columns
  columns_before_told j d within =
      let u : Table = get_or P.tables j d in
      sym (ap (λ cs. columns_in cs Vs u.name) columns_before)
      ∙ sym (ap (λ rows. columns_in (rows_named P columns_name) (map (row_data P.pool) rows) u.name) validation_same)
      ∙ stores.columns j d within

  -- a table of the name of another has its columns
  pub columns_by_name : (j : ℕ) (d : Table) → j < length P.tables → (u : Table) → IsThere P.tables u → (get_or P.tables j d).name ≡ u.name → (get_or P.tables j d).columns ≡ u.columns
  columns_by_name j d within u there same =
      let known : columns_in Cs Vs u.name ≡ Some u.columns = there_has (λ u. columns_in Cs Vs u.name ≡ Some u.columns) P.tables u there columns_before_told in
      Some_same (sym (columns_before_told j d within) ∙ ap (columns_in Cs Vs) same ∙ known)

  old_told : All (λ u. Told u.name u.columns) P.tables
  old_told = λ j d within.
      let u : Table = get_or P.tables j d in
      columns_told u.name
      ∙ added Cs more Vs also u.name (none_speak name u.name (name_apart j d within) more (columns_begin name 1 columns)) (none_speak name u.name (name_apart j d within) also h.limited.begin)
      ∙ columns_before_told j d within

  -- a fact of names and columns that all tables have
  every : (Has : List ℕ → List Column → Type 0) → All (λ u. Has u.name u.columns) P.tables → Has name columns → All (λ u. Has u.name u.columns) Q.tables
  every Has old own =
      all_with_rows Has columns_name c tables2 (all_with_rows Has tables_name t tables1 (all_with_rows Has validation_name v tables0 (all_put new (λ u. Has u.name u.columns) P.tables own old)))

  pub all_told : All (λ u. Told u.name u.columns) Q.tables
  all_told = every Told old_told new_told

  -- ---- names

  pub names_same : {X : Type 0} (f : List ℕ → X) → map (λ u. f u.name) Q.tables ≡ map (λ u. f u.name) tables0
  names_same f = names_kept columns_name c f tables2 ∙ names_kept tables_name t f tables1 ∙ names_kept validation_name v f tables0

  pub rises_after : IsStrictlySortedBy table_name_cmp (map (λ u. u.name) Q.tables)
  rises_after = subst (IsStrictlySortedBy table_name_cmp) (sym (names_same (λ n. n))) (rises_put new P.tables h.none stores.rising)

  abbrev is_own_name : (R : PackageContent) → List ℕ → Bool
  is_own_name R m = list_any (bytes_eq m) (map (λ u. u.name) R.tables)

  told_before : (m : List ℕ) → is_own_name P m ≡ is_table_name P m
  told_before m = bool_same (is_own_name P m) (is_table_name P m)
      (λ e. (stores.names m).1 (Contains-from_any {eq = bytes_eq} same_bytes m (map (λ u. u.name) P.tables) e))
      (λ e. list_any-from_Contains {eq = bytes_eq} nat_list_eq_equiv m (map (λ u. u.name) P.tables) ((stores.names m).0 e))

  listed_after : (m : List ℕ) → list_any (begins_with m) (rows_named Q tables_name) ≡ (list_any (begins_with m) (rows_named P tables_name) || (bytes_eq m name || false))
  listed_after m =
      ap (list_any (begins_with m)) tables_after
      ∙ sym (list_any-IsPermutation (begins_with m) (Ts ++ (text name ∷ []) ∷ []) (map (row_data pool) t) t_said)
      ∙ list_any-append (begins_with m) Ts ((text name ∷ []) ∷ [])
      ∙ ap₂ (λ a b. a || (b || false)) (sym (ap (list_any (begins_with m)) tables_before)) (bytes_swap name m)

  told_after : (m : List ℕ) → is_own_name Q m ≡ is_table_name Q m
  told_after m =
      ap (list_any (bytes_eq m)) (names_same (λ n. n))
      ∙ any_put new (bytes_eq m) (λ n. n) P.tables
      ∙ ap (λ b. bytes_eq m name || b) (told_before m)
      ∙ shuffled (bytes_eq m name) (bytes_eq m tables_name) (bytes_eq m columns_name) (list_any (begins_with m) (rows_named P tables_name))
      ∙ sym (ap (λ b. bytes_eq m tables_name || bytes_eq m columns_name || b) (listed_after m))

  pub names_after : (m : List ℕ) → IsTrue (is_table_name Q m) ↔ Contains (map (λ u. u.name) Q.tables) m
  names_after m = (
    λ is. Contains-from_any {eq = bytes_eq} same_bytes m (map (λ u. u.name) Q.tables) (told_after m ∙ is),
    λ there. sym (told_after m) ∙ list_any-from_Contains {eq = bytes_eq} nat_list_eq_equiv m (map (λ u. u.name) Q.tables) there,
  )

  abbrev Unlisted : List Datum → Type 0
  Unlisted row = IsTrue (not (begins_with tables_name row) && not (begins_with columns_name row))

  pub named_after : HasSoundNames letters Q
  named_after = record {
    one_section = named.one_section;
    no_strays = named.no_strays;
    table_names = every (λ m cs. IsTrue (is_free_table_name m)) named.table_names h.free;
    no_storage = every (λ m cs. at_name letters P.storages (stream_name m) ≡ None) named.no_storage h.no_storage;
    not_listed = subst (All Unlisted) (sym tables_after) (All-permutation Unlisted (Ts ++ (text name ∷ []) ∷ []) (map (row_data pool) t) t_said
        (All-append Unlisted Ts ((text name ∷ []) ∷ []) (subst (All Unlisted) tables_before named.not_listed) (All-cons Unlisted (text name ∷ []) [] new_unlisted (All-nil Unlisted))));
    validation_kinds = subst (λ o. IfSome o (λ u. kinds_of u.columns ≡ kinds_of validation_columns)) (sym validation_now.found) h.limited.kinds;
    validation_keys = subst (λ o. IfSome o (λ u. map (λ c. c.key) u.columns ≡ map (λ c. c.key) validation_columns)) (sym validation_now.found) h.limited.keys;
  }
    where
      new_unlisted : Unlisted (text name ∷ [])
      new_unlisted = ap₂ (λ a b. not a && not b) (apart (holding tables_name tables_columns h.old_t) h.tables_there) (apart (holding columns_name columns_columns h.old_c) h.columns_there)

  -- ---- counts

  uses_now : (n : ℕ) → refcounts_of Q.tables n ≡ uses_in h.new_v n + (uses_in h.new_t n + (uses_in h.new_c n + refcounts_of P.tables n))
  uses_now n =
      let c0 : Table = holding columns_name columns_columns h.old_c in
      let t0 : Table = holding tables_name tables_columns h.old_t in
      let rises0 : IsStrictlySortedBy table_name_cmp (map (λ u. u.name) tables0) = rises_put new P.tables h.none stores.rising in
      let rises1 : IsStrictlySortedBy table_name_cmp (map (λ u. u.name) tables1) = rises_still validation_name v tables0 rises0 in
      let rises2 : IsStrictlySortedBy table_name_cmp (map (λ u. u.name) tables2) = rises_still tables_name t tables1 rises1 in
      let t_there : IsThere tables1 t0 = there_beside validation_name v tables0 t0 (there_put new P.tables t0 h.tables_there (apart t0 h.tables_there)) refl in
      let c_there : IsThere tables2 c0 = there_beside tables_name t tables1 c0 (there_beside validation_name v tables0 c0 (there_put new P.tables c0 h.columns_there (apart c0 h.columns_there)) refl) refl in
      let zero_put : refcounts_of tables0 n ≡ uses_in [] n + refcounts_of P.tables n = put_uses new P.tables n in
      let none : uses_in [] n ≡ 0 = refl in
      let one : refcounts_of tables1 n ≡ uses_in h.new_v n + refcounts_of tables0 n = h.limited.uses n in
      let two : refcounts_of tables2 n + uses_in h.old_t n ≡ uses_in t n + refcounts_of tables1 n = uses_swapped tables_name t tables1 t0 t_there refl rises1 n in
      let three : refcounts_of Q.tables n + uses_in h.old_c n ≡ uses_in c n + refcounts_of tables2 n = uses_swapped columns_name c tables2 c0 c_there refl rises2 n in
      let ts = uses_stored h.old_t h.new_t t h.t_moved n in
      let cs = uses_stored h.old_c h.new_c c h.c_moved n in
      omega (arith, zero_put, none, one, two, three, ts, cs)

  pub counted_after : RefcountsAreExact pool Q.tables
  counted_after = counted_from pool Q.tables
      (record { counts = λ n at. (let count = h.given.counts.counts n at in let all = uses_now n in omega (arith, count, all)) })
      (let all = uses_now 0 in let none = none_used letters tree P stores in omega (arith, all, none, h.given.c_none, h.given.t_none, h.given.v_none))
