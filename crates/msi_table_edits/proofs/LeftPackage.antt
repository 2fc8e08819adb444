-- A tree stores a package without one of its tables, where the streams of the three system tables got the rows that are left.
use Rattle.std.proofs.Common.{◌≡◌, ◌∙◌, ℕ, ◌+◌, ◌<◌, ◌≤◌, Bool, true, false, cond, List, [], ◌∷◌, ◌++◌, map, length, get_or, Some, None, Option, Result, Ok, Err, refl, sym, ap, ap₂, subst, arith}
use Rattle.std.specs.Prelude.{◌&&◌, ◌||◌, ◌↔◌, bytes_eq, chars, filter, not, option_and_then, option_map, unwrap_or, Contains, IfSome, IsPermutation, IsTrue}
use Rattle.std.specs.List.{All, list_any, remove}
use Rattle.std.proofs.lemmas.Bool.{and_parts, or_parts}
use Rattle.std.proofs.lemmas.List.Elements.{All-filter}
use Rattle.std.proofs.lemmas.List.Sorted.{All-permutation, list_any-IsPermutation}
use Rattle.std.proofs.lemmas.List.Sums.{get_or-le-sum_by, sum_by-remove}
use Rattle.std.proofs.lemmas.Option.{slice_get-get_or}
use Rattle.cfb_medium.specs.declared.error.Error.{Error}
use Rattle.cfb_medium.specs.declared.error.Error.TheVariants.{InvalidInput, NotFound}
use Rattle.cfb_tree.specs.Names.{CaseTable}
use Rattle.cfb_tree.specs.Objects.{a_stream, is_same_name, name_of, Object}
use Rattle.cfb_tree.specs.Tree.{Tree}
use Rattle.msi_changes.specs.Changes.{all_taken_back}
use Rattle.msi_changes.specs.Laws.{uses_in, KeepsPlaces}
use Rattle.msi_changes.proofs.CellUses.{Leaves}
use Rattle.msi_changes.proofs.RowUses.{cells_left, row_uses}
use Rattle.msi_changes.proofs.Shapes.{cells_taken}
use Rattle.msi_changes.proofs.UsesKept.{none_in}
use Rattle.msi_columns.specs.Column.{Column}
use Rattle.msi_pool.specs.Pool.{pool_entry_at, Pool}
use Rattle.msi_tables.specs.Rows.{kinds_of, rows_bytes, rows_of, IsStored, Row}
use Rattle.msi_tables.specs.Schema.{begins_with, columns_columns, columns_in, columns_name, is_schema, tables_columns, tables_name, validation_columns, validation_name}
use Rattle.msi_tables.specs.Table.{data_rows, is_valid_table_name, row_data, table_named, Table}
use Rattle.msi_texts.specs.Category.{is_identifier}
use Rattle.msi_texts.specs.Results.{◌>>=◌, or_refused, unless_not}
use Rattle.msi_texts.specs.StreamName.{is_valid_name}
use Rattle.msi_spec.specs.Calls.{dropped, is_system, own_columns, rows_about, rows_beside, speaks_of, stored_rows}
use Rattle.msi_spec.specs.Package.{at_name, data_name, has_slash, is_own, is_stream, is_table_name, object_bytes, objects, pool_name, rows_named, stream_at, stream_name, summary_name, table_stream, PackageContent}
use Rattle.msi_spec.specs.Sound.{is_free_table_name, refcounts_of}
use Rattle.msi_spec.specs.SoundParts.{HasSoundNames}
use Rattle.msi_spec.specs.Streams.{IsDropped}
use Rattle.msi_spec.specs.Uses.{RefcountsAreExact}
use Rattle.msi_spec.proofs.Roots.{put_dropped}
use Rattle.msi_spec.proofs.SoundUses.{rows_read}
use Rattle.msi_spec.proofs.StreamKeys.{same_by_key}
use Rattle.msi_spec.proofs.SystemRows.{same_bytes}
use Rattle.msi_rewritten.specs.Rewriting.{HasPut}
use Rattle.msi_rewritten.proofs.Before.{uses_before}
use Rattle.msi_rewritten.proofs.Described.{alone}
use Rattle.msi_rewritten.proofs.Inserted.{of_ok}
use Rattle.msi_rewritten.proofs.Names.{summary_apart, tables_apart}
use Rattle.msi_rewritten.proofs.Put.{free_parts, names_differ}
use Rattle.msi_rewritten.proofs.Stored.{found_at}
use Rattle.msi_rewritten.proofs.Texts.{rows_stay, rows_used}
use Rattle.msi_schema.proofs.Beside.{moved, taken}
use Rattle.msi_schema.proofs.Schemas.{schemas_moved, schemas_shrink}
use Rattle.msi_stored.specs.Changing.{KeepsParts, StoresSoundPackage}
use Rattle.msi_table_edits.specs.Drops.{CanDrop}
use Rattle.msi_table_edits.specs.Dropping.{without_table, AreRead, HasDropped, IsDropping}
use Rattle.msi_table_edits.proofs.LeftRows.{any_beside, beside, in_kept, kept_in, none_beside, stored_beside, table_data}
use Rattle.msi_table_edits.proofs.LeftStreams.{any_left, any_listed, kept_left, left_beside, put_at_other, put_at_own, put_storages, storages_left}
use Rattle.msi_table_edits.proofs.LeftTables.{all_left, at_columns, at_tables, at_validation, changed, changed_columns, changed_name, each_changed, found_in_left, held, named_of, names_in_left, rising_left, uses_left}
use Rattle.msi_table_edits.proofs.TakenUses.{are_placed, both_uses, cells_in, split_uses, uses_joined}
use Rattle.msi_table_edits.proofs.Without.{names_left}

-- ---- what it means that a table may be dropped

pub record IsAccepted (P : PackageContent) (name : List ℕ) (x : Table × Pool) : Type 0 where
  pub ordinary : is_system name ≡ false
  pub valid : is_valid_table_name name ≡ true
  pub found : table_named P.tables name ≡ Some x.0
  pub own : Table
  pub own_is : table_named P.tables validation_name ≡ Some own
  pub taken : all_taken_back P.pool (cells_in (x.0.rows ++ rows_about P validation_name name ++ rows_about P columns_name name ++ rows_about P tables_name name)) ≡ Ok x.1

pub accepted : (P : PackageContent) (name : List ℕ) (x : Table × Pool) → dropped P name ≡ Ok x → IsAccepted P name x
accepted P name x is = by (not (is_system name) && is_valid_table_name name) refl (table_named P.tables name) refl (table_named P.tables validation_name) refl is
  where
    cells : Table → Row
    cells t = cells_in (t.rows ++ rows_about P validation_name name ++ rows_about P columns_name name ++ rows_about P tables_name name)

    value_of : Result (Table × Pool) Error → Table × Pool
    value_of (Ok y) = y
    value_of (Err e) = x

    false_of : (b : Bool) → not b ≡ true → b ≡ false
    false_of true e = absurd (cc)
    false_of false e = refl

    by : (a : Bool) → (not (is_system name) && is_valid_table_name name) ≡ a → (o : Option Table) → table_named P.tables name ≡ o → (w : Option Table) → table_named P.tables validation_name ≡ w
        → (unless_not a InvalidInput >>= λ _. or_refused o NotFound >>= λ t. or_refused w NotFound >>= λ _. all_taken_back P.pool (cells t) >>= λ pool. Ok (t, pool)) ≡ Ok x → IsAccepted P name x
    by false e o f w h told = absurd (cc)
    by true e None f w h told = absurd (cc)
    by true e (Some t) f None h told = absurd (cc)
    by true e (Some t) f (Some u) h told = last (all_taken_back P.pool (cells t)) refl told
      where
        last : (r : Result Pool Error) → all_taken_back P.pool (cells t) ≡ r → (r >>= λ pool. Ok (t, pool)) ≡ Ok x → IsAccepted P name x
        last (Err k) back told = absurd (cc)
        last (Ok p) back told =
            let same : (t, p) ≡ x = ap value_of told in
            let both = and_parts (not (is_system name)) (is_valid_table_name name) e in
            record {
              ordinary = false_of (is_system name) both.0;
              valid = both.1;
              found = f ∙ ap (λ y. Some y.0) same;
              own = u;
              own_is = h;
              taken = ap (λ y. all_taken_back P.pool (cells y.0)) (sym same) ∙ back ∙ ap (λ y. Ok y.1) same;
            }

module _ (letters : CaseTable) (old : Tree) (P : PackageContent) (s : StoresSoundPackage letters old P) (name : List ℕ) (x : Table × Pool) (c t v : List Row) (d : IsDropping P name x c t v) where
  abbrev Q : PackageContent
  Q = without_table P name x.1 c t v

  is : IsAccepted P name x
  is = accepted P name x d.accepted

  -- the name is none of the three
  not_tables : bytes_eq name tables_name ≡ false
  not_tables = (or_parts (bytes_eq name tables_name) (bytes_eq name columns_name) (or_parts (bytes_eq name tables_name || bytes_eq name columns_name) (bytes_eq name validation_name) is.ordinary).0).0

  not_columns : bytes_eq name columns_name ≡ false
  not_columns = (or_parts (bytes_eq name tables_name) (bytes_eq name columns_name) (or_parts (bytes_eq name tables_name || bytes_eq name columns_name) (bytes_eq name validation_name) is.ordinary).0).1

  not_validation : bytes_eq name validation_name ≡ false
  not_validation = (or_parts (bytes_eq name tables_name || bytes_eq name columns_name) (bytes_eq name validation_name) is.ordinary).1

  identifier : is_identifier name ≡ true
  identifier = (and_parts (is_identifier name) (is_valid_name true (chars name)) is.valid).0

  -- the three
  pub of_columns : (u : Table) × (table_named P.tables columns_name ≡ Some u)
  of_columns = named_of columns_name P.tables ((s.stores.names columns_name).0 refl)

  of_tables : (u : Table) × (table_named P.tables tables_name ≡ Some u)
  of_tables = named_of tables_name P.tables ((s.stores.names tables_name).0 refl)

  -- ---- uses

  abbrev gone : List Row
  gone = x.0.rows ++ rows_about P validation_name name ++ rows_about P columns_name name ++ rows_about P tables_name name

  split : (m : List ℕ) (columns : List Column) (u : Table) (stored : List Row) → table_named P.tables m ≡ Some u → IsStored columns (rows_beside P m name) stored → (n : ℕ)
      → uses_in u.rows n ≡ uses_in (rows_about P m name) n + uses_in stored n
  split m columns u stored at order n =
      let rows : uses_in (stored_rows P m) n ≡ uses_in u.rows n = ap (λ o. uses_in (unwrap_or (option_map (λ t. t.rows) o) []) n) at in
      omega (arith, rows, split_uses (speaks_of P.pool name) columns (stored_rows P m) stored order n)

  all_uses : (n : ℕ) → refcounts_of P.tables n ≡ row_uses (cells_in gone) n + refcounts_of Q.tables n
  all_uses n =
      let left = uses_left name c t v P.tables s.stores.rising of_columns.0 of_tables.0 is.own x.0 of_columns.1 of_tables.1 is.own_is is.found not_columns not_tables not_validation n in
      let one = split columns_name columns_columns of_columns.0 c of_columns.1 d.columns n in
      let two = split tables_name tables_columns of_tables.0 t of_tables.1 d.tables n in
      let three = split validation_name (own_columns P) is.own v is.own_is d.validation n in
      let about = both_uses (x.0.rows ++ rows_about P validation_name name ++ rows_about P columns_name name) (rows_about P tables_name name) n in
      let more = both_uses (x.0.rows ++ rows_about P validation_name name) (rows_about P columns_name name) n in
      let most = both_uses x.0.rows (rows_about P validation_name name) n in
      omega (arith, left, one, two, three, uses_joined gone n, about, more, most)

  none_before : refcounts_of P.tables 0 ≡ 0
  none_before = none_in (λ u. uses_in u.rows 0) P.tables (λ j w within. (rows_read P.pool.long (kinds_of (get_or P.tables j w).columns) _ (get_or P.tables j w).rows (s.stores.rows j w within)).1)

  none_after : refcounts_of Q.tables 0 ≡ 0
  none_after = omega (arith, all_uses 0, none_before)

  counts_before : (n : ℕ) → 0 < n → (pool_entry_at P.pool.places n).count ≡ refcounts_of P.tables n
  counts_before n at =
      let there = found_at P.tables name x.0 is.found in
      let uses = uses_before letters old P s.stores s.counted there.0 x.0 (slice_get-get_or P.tables there.0 x.0 there.1 ∙ ap (λ u. Some u) there.2) in
      let all : refcounts_of (remove P.tables there.0) n + uses_in (get_or P.tables there.0 x.0).rows n ≡ refcounts_of P.tables n = sum_by-remove (λ u. uses_in u.rows n) P.tables there.0 x.0 there.1 in
      let same : uses_in (get_or P.tables there.0 x.0).rows n ≡ uses_in x.0.rows n = ap (λ (u : Table). uses_in u.rows n) there.2 in
      omega (arith, uses.counts n at, all, same)

  leaves : Leaves (refcounts_of Q.tables) P.pool x.1
  leaves =
      of_ok (all_taken_back P.pool (cells_in gone)) (Leaves (refcounts_of Q.tables) P.pool) x.1 is.taken
      (cells_left P.pool (cells_in gone) (refcounts_of Q.tables) (are_placed (cells_in gone) (omega (arith, all_uses 0, none_before))) (record { counts = λ n at. counts_before n at ∙ all_uses n }))

  pub keeps : KeepsPlaces P.pool x.1
  keeps = of_ok (all_taken_back P.pool (cells_in gone)) (KeepsPlaces P.pool) x.1 is.taken (cells_taken P.pool (cells_in gone))

  among : (j : ℕ) (w : Table) → j < length Q.tables → (n : ℕ) → uses_in (get_or Q.tables j w).rows n ≤ refcounts_of Q.tables n
  among j w within n = get_or-le-sum_by (λ u. uses_in u.rows n) Q.tables j w within

  counted_left : RefcountsAreExact x.1 Q.tables
  counted_left = record {
    references = λ j w within. rows_used x.1 (get_or Q.tables j w).rows (omega (arith, among j w within 0, none_after))
        (λ n at used. (let h = leaves.0.counts n at in let most = among j w within n in omega (arith, h, most, used)));
    counts = λ n at within. leaves.0.counts n at;
  }

  -- ---- rows as values

  data_yet : (m : List ℕ) (u : Table) → table_named Q.tables m ≡ Some u → rows_named Q m ≡ map (row_data P.pool) u.rows
  data_yet m u at =
      let there = found_at Q.tables m u at in
      let most = among there.0 u there.1 in
      ap (data_rows x.1) at
      ∙ subst (λ (w : Table). map (row_data x.1) w.rows ≡ map (row_data P.pool) w.rows) there.2
      (rows_stay P.pool x.1 (get_or Q.tables there.0 u).rows (let first = most 0 in omega (arith, first, none_after)) (λ n at used. leaves.1.texts n at (let h = most n in omega (arith, h, used))))

  name_at : (m : List ℕ) (u : Table) → table_named P.tables m ≡ Some u → u.name ≡ m
  name_at m u at = (found_at P.tables m u at).3

  pub now_columns : table_named Q.tables columns_name ≡ Some (record of_columns.0 { rows = c })
  now_columns = found_in_left name c t v columns_name not_columns P.tables ∙ ap (option_map (changed name c t v)) of_columns.1 ∙ ap (λ u. Some u) (at_columns name c t v of_columns.0 (name_at columns_name of_columns.0 of_columns.1))

  -- its columns are fixed, so its rows are written as before
  pub columns_written : (bytes : List ℕ) → rows_bytes P.pool.long (kinds_of columns_columns) c ≡ Some bytes → rows_bytes x.1.long (kinds_of of_columns.0.columns) c ≡ Some bytes
  columns_written bytes written =
      let u = of_columns.0 in
      let told : List ℕ → Option (List Column) = λ m. columns_in (rows_named P columns_name) (map (row_data P.pool) s.stores.validation) m in
      let both : Some columns_columns ≡ Some u.columns = ap told (sym (name_at columns_name u of_columns.1)) ∙ held (λ u. told u.name ≡ Some u.columns) P.tables s.stores.columns columns_name u of_columns.1 in
      let same : u.columns ≡ columns_columns = ap (λ o. unwrap_or o []) (sym both) in
      ap₂ (λ long cs. rows_bytes long (kinds_of cs) c) keeps.long same ∙ written

  now_tables : table_named Q.tables tables_name ≡ Some (record of_tables.0 { rows = t })
  now_tables = found_in_left name c t v tables_name not_tables P.tables ∙ ap (option_map (changed name c t v)) of_tables.1 ∙ ap (λ u. Some u) (at_tables name c t v of_tables.0 (name_at tables_name of_tables.0 of_tables.1))

  now_validation : table_named Q.tables validation_name ≡ Some (record is.own { rows = v })
  now_validation = found_in_left name c t v validation_name not_validation P.tables ∙ ap (option_map (changed name c t v)) is.own_is ∙ ap (λ u. Some u) (at_validation name c t v is.own (name_at validation_name is.own is.own_is))

  moves : (m : List ℕ) (columns : List Column) (stored : List Row) → IsStored columns (rows_beside P m name) stored → IsPermutation (beside name (rows_named P m)) (map (row_data P.pool) stored)
  moves m columns stored order =
      subst (λ l. IsPermutation (beside name l) (map (row_data P.pool) stored)) (table_data P.pool (table_named P.tables m)) (stored_beside name P.pool columns (stored_rows P m) stored order)

  columns_moves : IsPermutation (beside name (rows_named P columns_name)) (rows_named Q columns_name)
  columns_moves = subst (IsPermutation (beside name (rows_named P columns_name))) (sym (data_yet columns_name (record of_columns.0 { rows = c }) now_columns)) (moves columns_name columns_columns c d.columns)

  tables_moves : IsPermutation (beside name (rows_named P tables_name)) (rows_named Q tables_name)
  tables_moves = subst (IsPermutation (beside name (rows_named P tables_name))) (sym (data_yet tables_name (record of_tables.0 { rows = t }) now_tables)) (moves tables_name tables_columns t d.tables)

  validation_moves : IsPermutation (beside name (rows_named P validation_name)) (rows_named Q validation_name)
  validation_moves =
      subst (IsPermutation (beside name (rows_named P validation_name))) (sym (data_yet validation_name (record is.own { rows = v }) now_validation)) (moves validation_name (own_columns P) v d.validation)

  -- ---- the rows of _Validation that are read

  own_kinds : kinds_of is.own.columns ≡ kinds_of validation_columns
  own_kinds = subst (λ o. IfSome o (λ t. kinds_of t.columns ≡ kinds_of validation_columns)) is.own_is s.named.validation_kinds

  own_keys : map (λ c. c.key) is.own.columns ≡ map (λ c. c.key) validation_columns
  own_keys = subst (λ o. IfSome o (λ t. map (λ c. c.key) t.columns ≡ map (λ c. c.key) validation_columns)) is.own_is s.named.validation_keys

  own_rows : s.stores.validation ≡ is.own.rows
  own_rows =
      let read : rows_of P.pool.long (kinds_of is.own.columns) (unwrap_or (table_stream letters (objects old.content) is.own.name) []) ≡ Some is.own.rows =
      held (λ u. rows_of P.pool.long (kinds_of u.columns) (unwrap_or (table_stream letters (objects old.content) u.name) []) ≡ Some u.rows) P.tables s.stores.rows validation_name is.own is.own_is in
      let both : Some s.stores.validation ≡ Some is.own.rows =
      sym s.stores.validation_is
      ∙ ap (λ ks. rows_of P.pool.long ks (unwrap_or (table_stream letters (objects old.content) validation_name) [])) (sym own_kinds)
      ∙ ap (λ m. rows_of P.pool.long (kinds_of is.own.columns) (unwrap_or (table_stream letters (objects old.content) m) [])) (sym (name_at validation_name is.own is.own_is))
      ∙ read in
      ap (λ o. unwrap_or o []) both

  own_data : map (row_data P.pool) s.stores.validation ≡ rows_named P validation_name
  own_data = ap (map (row_data P.pool)) own_rows ∙ sym (ap (data_rows P.pool) is.own_is)

  now_data : map (row_data x.1) v ≡ rows_named Q validation_name
  now_data = sym (ap (data_rows x.1) now_validation)

  -- ---- the schema

  schema_before : is_schema (rows_named P tables_name) (rows_named P columns_name) (rows_named P validation_name) ≡ true
  schema_before = ap (is_schema (rows_named P tables_name) (rows_named P columns_name)) (sym own_data) ∙ s.stores.schema

  schema_beside : is_schema (beside name (rows_named P tables_name)) (beside name (rows_named P columns_name)) (beside name (rows_named P validation_name)) ≡ true
  schema_beside = schemas_shrink name (rows_named P tables_name) (rows_named P columns_name) (rows_named P validation_name) schema_before

  schema_left : is_schema (rows_named Q tables_name) (rows_named Q columns_name) (map (row_data x.1) v) ≡ true
  schema_left =
      ap (is_schema (rows_named Q tables_name) (rows_named Q columns_name)) now_data
      ∙ schemas_moved (beside name (rows_named P tables_name)) (rows_named Q tables_name) (beside name (rows_named P columns_name)) (rows_named Q columns_name)
      (beside name (rows_named P validation_name)) (rows_named Q validation_name) tables_moves columns_moves validation_moves schema_beside

  columns_yet : (m : List ℕ) → bytes_eq m name ≡ false → columns_in (rows_named Q columns_name) (map (row_data x.1) v) m ≡ columns_in (rows_named P columns_name) (map (row_data P.pool) s.stores.validation) m
  columns_yet m apart =
      let once = alone (beside name (rows_named P tables_name)) (beside name (rows_named P columns_name)) (beside name (rows_named P validation_name)) schema_beside in
      ap (λ vs. columns_in (rows_named Q columns_name) vs m) now_data
      ∙ moved (beside name (rows_named P columns_name)) (rows_named Q columns_name) (beside name (rows_named P validation_name)) (rows_named Q validation_name) columns_moves validation_moves once.0 once.1 m
      ∙ taken (rows_named P columns_name) (rows_named P validation_name) m name apart
      ∙ ap (λ vs. columns_in (rows_named P columns_name) vs m) (sym own_data)

  columns_left : All (λ u. columns_in (rows_named Q columns_name) (map (row_data x.1) v) u.name ≡ Some u.columns) Q.tables
  columns_left = all_left name c t v (λ u. columns_in (rows_named Q columns_name) (map (row_data x.1) v) u.name ≡ Some u.columns) P.tables (λ j w within apart.
      let u : Table = get_or P.tables j w in
      ap (columns_in (rows_named Q columns_name) (map (row_data x.1) v)) (changed_name name c t v u)
      ∙ columns_yet u.name apart ∙ s.stores.columns j w within ∙ ap (λ cs. Some cs) (sym (changed_columns name c t v u)))

  -- ---- names

  names_now : map (λ u. u.name) Q.tables ≡ filter (λ n. not (bytes_eq n name)) (map (λ u. u.name) P.tables)
  names_now = names_in_left name c t v (λ n. n) P.tables ∙ names_left name P.tables

  any_named : (m : List ℕ) → list_any (begins_with m) (rows_named Q tables_name) ≡ list_any (begins_with m) (beside name (rows_named P tables_name))
  any_named m = sym (list_any-IsPermutation (begins_with m) (beside name (rows_named P tables_name)) (rows_named Q tables_name) tables_moves)

  names_after : (m : List ℕ) → IsTrue (is_table_name Q m) ↔ Contains (map (λ u. u.name) Q.tables) m
  names_after m = by (bytes_eq m name) refl
    where
      by : (b : Bool) → bytes_eq m name ≡ b → IsTrue (is_table_name Q m) ↔ Contains (map (λ u. u.name) Q.tables) m
      by false apart =
          let same : is_table_name Q m ≡ is_table_name P m =
          ap (λ b. bytes_eq m tables_name || bytes_eq m columns_name || b) (any_named m ∙ any_beside name m apart (rows_named P tables_name)) in (
            λ told. subst (λ ns. Contains ns m) (sym names_now) (in_kept (λ n. not (bytes_eq n name)) (map (λ u. u.name) P.tables) m ((s.stores.names m).0 (sym same ∙ told)) (ap not apart)),
            λ there. same ∙ (s.stores.names m).1 (kept_in (λ n. not (bytes_eq n name)) (map (λ u. u.name) P.tables) m (subst (λ ns. Contains ns m) names_now there)).0,
          )
      by true e =
          let same = same_bytes m name e in
          let none : is_table_name Q m ≡ false =
          ap (is_table_name Q) same
          ∙ ap (λ b. b || bytes_eq name columns_name || list_any (begins_with name) (rows_named Q tables_name)) not_tables
          ∙ ap (λ b. b || list_any (begins_with name) (rows_named Q tables_name)) not_columns
          ∙ any_named name ∙ none_beside name (rows_named P tables_name) in (
            λ told. (let never : false ≡ true = sym none ∙ told in absurd (cc)),
            λ there. (let never : not true ≡ true = ap not (sym e) ∙ (kept_in (λ n. not (bytes_eq n name)) (map (λ u. u.name) P.tables) m (subst (λ ns. Contains ns m) names_now there)).1 in absurd (cc)),
          )

  named_left : HasSoundNames letters Q
  named_left = record {
    one_section = s.named.one_section;
    no_strays = s.named.no_strays;
    table_names = all_left name c t v (λ u. IsTrue (is_free_table_name u.name)) P.tables
        (λ j w within apart. subst (λ n. IsTrue (is_free_table_name n)) (sym (changed_name name c t v (get_or P.tables j w))) (s.named.table_names j w within));
    no_storage = all_left name c t v (λ u. at_name letters P.storages (stream_name u.name) ≡ None) P.tables
        (λ j w within apart. subst (λ n. at_name letters P.storages (stream_name n) ≡ None) (sym (changed_name name c t v (get_or P.tables j w))) (s.named.no_storage j w within));
    not_listed = All-permutation (λ r. IsTrue (not (begins_with tables_name r) && not (begins_with columns_name r))) (beside name (rows_named P tables_name)) (rows_named Q tables_name) tables_moves
        (All-filter (λ r. not (begins_with name r)) (λ r. IsTrue (not (begins_with tables_name r) && not (begins_with columns_name r))) (rows_named P tables_name) s.named.not_listed);
    validation_kinds = subst (λ o. IfSome o (λ u. kinds_of u.columns ≡ kinds_of validation_columns)) (sym now_validation) own_kinds;
    validation_keys = subst (λ o. IfSome o (λ u. map (λ c. c.key) u.columns ≡ map (λ c. c.key) validation_columns)) (sym now_validation) own_keys;
  }

  -- ---- the tree

  abbrev storages_in : List Object → List Object
  storages_in os = filter (λ o. not (is_stream o)) os

  -- no storage stands at a table's name, before any of the changes
  no_storage : (m : List ℕ) (u : Table) → table_named P.tables m ≡ Some u → at_name letters (storages_in (objects old.content)) (stream_name m) ≡ None
  no_storage m u at =
      ap (λ os. at_name letters os (stream_name m)) (sym s.stores.storages)
      ∙ ap (λ n. at_name letters P.storages (stream_name n)) (sym (name_at m u at))
      ∙ held (λ u. at_name letters P.storages (stream_name u.name) ≡ None) P.tables s.named.no_storage m u at

  free_name : (m : List ℕ) (u : Table) → table_named P.tables m ≡ Some u → is_free_table_name m ≡ true
  free_name m u at = subst (λ n. is_free_table_name n ≡ true) (name_at m u at) (held (λ u. is_free_table_name u.name ≡ true) P.tables s.named.table_names m u at)

  pub can_drop : CanDrop letters name old
  can_drop = record {
    own = record { free = free_name name x.0 is.found; no_storage = no_storage name x.0 is.found };
    columns = record { free = free_name columns_name of_columns.0 of_columns.1; no_storage = no_storage columns_name of_columns.0 of_columns.1 };
    tables = record { free = free_name tables_name of_tables.0 of_tables.1; no_storage = no_storage tables_name of_tables.0 of_tables.1 };
    validation = record { free = free_name validation_name is.own is.own_is; no_storage = no_storage validation_name is.own is.own_is };
  }

  module _ (new : Tree) (cb tb vb : List ℕ) (h : HasDropped letters name cb tb vb old new) where
    first_storages : storages_in (objects h.first.content) ≡ storages_in (objects old.content)
    first_storages = put_storages letters columns_name cb old h.first h.columns (no_storage columns_name of_columns.0 of_columns.1)

    second_free : at_name letters (storages_in (objects h.first.content)) (stream_name tables_name) ≡ None
    second_free = ap (λ os. at_name letters os (stream_name tables_name)) first_storages ∙ no_storage tables_name of_tables.0 of_tables.1

    second_storages : storages_in (objects h.second.content) ≡ storages_in (objects old.content)
    second_storages = put_storages letters tables_name tb h.first h.second h.tables second_free ∙ first_storages

    third_free : at_name letters (storages_in (objects h.second.content)) (stream_name validation_name) ≡ None
    third_free = ap (λ os. at_name letters os (stream_name validation_name)) second_storages ∙ no_storage validation_name is.own is.own_is

    third_storages : storages_in (objects h.third.content) ≡ storages_in (objects old.content)
    third_storages = put_storages letters validation_name vb h.second h.third h.validation third_free ∙ second_storages

    storages_now : storages_in (objects new.content) ≡ storages_in (objects old.content)
    storages_now =
        ap storages_in h.rest
        ∙ storages_left letters (stream_name name) (objects h.third.content) (ap (λ os. at_name letters os (stream_name name)) third_storages ∙ no_storage name x.0 is.found)
        ∙ third_storages

    -- ---- what stands at names

    apart_of : (m a : List ℕ) → is_identifier m ≡ true → is_identifier a ≡ true → bytes_eq m a ≡ false → is_same_name letters (stream_name m) (stream_name a) ≡ false
    apart_of m a one two differ = tables_apart letters s.usable m a one two (names_differ m a differ)

    -- the same turned round
    turned_of : (m a : List ℕ) → is_identifier m ≡ true → is_identifier a ≡ true → bytes_eq a m ≡ false → is_same_name letters (stream_name m) (stream_name a) ≡ false
    turned_of m a one two differ = tables_apart letters s.usable m a one two (λ same. names_differ a m differ (sym same))

    at_rest : (n : List ℕ) → is_same_name letters n (stream_name name) ≡ false → at_name letters (objects new.content) n ≡ at_name letters (objects h.third.content) n
    at_rest n differs = ap (λ os. at_name letters os n) h.rest ∙ left_beside letters (stream_name name) n differs (objects h.third.content)

    -- at any other name
    at_others : (n : List ℕ) → is_same_name letters n (stream_name columns_name) ≡ false → is_same_name letters n (stream_name tables_name) ≡ false
        → is_same_name letters n (stream_name validation_name) ≡ false → is_same_name letters n (stream_name name) ≡ false
        → stream_at letters (objects new.content) n ≡ stream_at letters (objects old.content) n
    at_others n a b e f =
        ap (option_and_then object_bytes)
        (at_rest n f ∙ put_at_other letters validation_name vb h.second h.third h.validation n e ∙ put_at_other letters tables_name tb h.first h.second h.tables n b
        ∙ put_at_other letters columns_name cb old h.first h.columns n a)

    columns_at : stream_at letters (objects new.content) (stream_name columns_name) ≡ Some cb
    columns_at =
        ap (option_and_then object_bytes)
        (at_rest (stream_name columns_name) (turned_of columns_name name refl identifier not_columns)
        ∙ put_at_other letters validation_name vb h.second h.third h.validation (stream_name columns_name) (apart_of columns_name validation_name refl refl refl)
        ∙ put_at_other letters tables_name tb h.first h.second h.tables (stream_name columns_name) (apart_of columns_name tables_name refl refl refl))
        ∙ put_at_own letters columns_name cb old h.first h.columns (no_storage columns_name of_columns.0 of_columns.1)

    tables_at : stream_at letters (objects new.content) (stream_name tables_name) ≡ Some tb
    tables_at =
        ap (option_and_then object_bytes)
        (at_rest (stream_name tables_name) (turned_of tables_name name refl identifier not_tables)
        ∙ put_at_other letters validation_name vb h.second h.third h.validation (stream_name tables_name) (apart_of tables_name validation_name refl refl refl))
        ∙ put_at_own letters tables_name tb h.first h.second h.tables second_free

    validation_at : stream_at letters (objects new.content) (stream_name validation_name) ≡ Some vb
    validation_at =
        ap (option_and_then object_bytes) (at_rest (stream_name validation_name) (turned_of validation_name name refl identifier not_validation))
        ∙ put_at_own letters validation_name vb h.second h.third h.validation third_free

    -- ---- the streams of pool and summary stay

    pub keeps_left : KeepsParts letters old new
    keeps_left = record {
      pool = at_others (stream_name pool_name) (apart_of pool_name columns_name refl refl refl) (apart_of pool_name tables_name refl refl refl) (apart_of pool_name validation_name refl refl refl)
          (turned_of pool_name name refl identifier (false_of (bytes_eq name pool_name) free.1));
      pool_data = at_others (stream_name data_name) (apart_of data_name columns_name refl refl refl) (apart_of data_name tables_name refl refl refl) (apart_of data_name validation_name refl refl refl)
          (turned_of data_name name refl identifier (false_of (bytes_eq name data_name) free.2));
      summary = at_others summary_name (summary_apart letters s.usable columns_name refl) (summary_apart letters s.usable tables_name refl) (summary_apart letters s.usable validation_name refl)
          (summary_apart letters s.usable name identifier);
    }
      where
        free : (is_identifier name ≡ true) × (not (bytes_eq name pool_name) ≡ true) × (not (bytes_eq name data_name) ≡ true)
        free = free_parts name (free_name name x.0 is.found)

        false_of : (b : Bool) → not b ≡ true → b ≡ false
        false_of true e = absurd (cc)
        false_of false e = refl

    -- ---- the streams that belong to no table

    abbrev keep : PackageContent → Object → Bool
    keep R o = is_stream o && not (is_own letters R o)

    -- the streams of tables aren't among them
    own_dropped : (m : List ℕ) (u : Table) → table_named P.tables m ≡ Some u → (o : Object) → is_same_name letters (stream_name m) (name_of o) ≡ true → keep P o ≡ false
    own_dropped m u at o same =
        none (is_stream o) (is_own letters P o)
        (or_right (is_same_name letters summary_name (name_of o)) _
        (or_right (is_same_name letters (stream_name pool_name) (name_of o)) _
        (or_right (is_same_name letters (stream_name data_name) (name_of o)) _
        (any_listed (λ n. is_same_name letters n (name_of o)) m P.tables u at same))))
      where
        or_right : (a b : Bool) → b ≡ true → (a || b) ≡ true
        or_right true b e = refl
        or_right false b e = e

        none : (a b : Bool) → b ≡ true → (a && not b) ≡ false
        none true b e = ap not e
        none false b e = refl

    is_dropped : (m : List ℕ) (u : Table) → table_named P.tables m ≡ Some u → IsDropped letters (keep P) (stream_name m)
    is_dropped m u at = record {
      dropped = own_dropped m u at;
      new = λ content. own_dropped m u at (a_stream (stream_name m) 0 content) (same_by_key letters (stream_name m) (stream_name m) refl);
    }

    put_away : (m bytes : List ℕ) (u : Table) → table_named P.tables m ≡ Some u → (before after : Tree) → HasPut letters m bytes before after → filter (keep P) (objects after.content) ≡ filter (keep P) (objects before.content)
    put_away m bytes u at before after put = ap (filter (keep P)) put.objects ∙ put_dropped letters (stream_name m) bytes (keep P) (is_dropped m u at) (objects before.content)

    -- those that aren't of the dropped table are judged as before
    own_alike : (o : Object) → is_same_name letters (stream_name name) (name_of o) ≡ false → keep Q o ≡ keep P o
    own_alike o fails =
        ap (λ names. is_stream o && not (list_any (λ n. is_same_name letters n (name_of o)) (summary_name ∷ stream_name pool_name ∷ stream_name data_name ∷ names))) (names_in_left name c t v stream_name P.tables)
        ∙ ap (λ b. is_stream o && not (is_same_name letters summary_name (name_of o) || (is_same_name letters (stream_name pool_name) (name_of o) || (is_same_name letters (stream_name data_name) (name_of o) || b))))
        (any_left (λ n. is_same_name letters n (name_of o)) name fails P.tables)

    streams_now : P.streams ≡ filter (keep Q) (objects new.content)
    streams_now =
        s.stores.streams
        ∙ sym (put_away columns_name cb of_columns.0 of_columns.1 old h.first h.columns)
        ∙ sym (put_away tables_name tb of_tables.0 of_tables.1 h.first h.second h.tables)
        ∙ sym (put_away validation_name vb is.own is.own_is h.second h.third h.validation)
        ∙ sym (kept_left letters (stream_name name) (keep P) (keep Q) (own_dropped name x.0 is.found) own_alike (objects h.third.content))
        ∙ ap (filter (keep Q)) (sym h.rest)

    -- ---- rows

    module _ (read : AreRead P cb tb vb c t v) where
      abbrev read_by : List ℕ → List Column → Option (List Row)
      read_by m columns = rows_of P.pool.long (kinds_of columns) (unwrap_or (table_stream letters (objects new.content) m) [])

      -- the columns of the two that are fixed
      fixed : (m : List ℕ) (columns : List Column) (u : Table) → columns_in (rows_named P columns_name) (map (row_data P.pool) s.stores.validation) m ≡ Some columns → u.name ≡ m
          → columns_in (rows_named P columns_name) (map (row_data P.pool) s.stores.validation) u.name ≡ Some u.columns → u.columns ≡ columns
      fixed m columns u told same there =
          let both : Some u.columns ≡ Some columns = sym there ∙ ap (columns_in (rows_named P columns_name) (map (row_data P.pool) s.stores.validation)) same ∙ told in
          ap (λ o. unwrap_or o []) both

      own_columns_are : own_columns P ≡ is.own.columns
      own_columns_are = ap (λ o. unwrap_or (option_map (λ t. t.columns) o) []) is.own_is

      -- _Validation's columns, of any table of its name
      validation_fixed : (j : ℕ) (w : Table) → j < length P.tables → (get_or P.tables j w).name ≡ validation_name → (get_or P.tables j w).columns ≡ own_columns P
      validation_fixed j w within same =
          fixed validation_name (own_columns P) (get_or P.tables j w)
          (ap (columns_in (rows_named P columns_name) (map (row_data P.pool) s.stores.validation)) (sym (name_at validation_name is.own is.own_is))
          ∙ held (λ u. columns_in (rows_named P columns_name) (map (row_data P.pool) s.stores.validation) u.name ≡ Some u.columns) P.tables s.stores.columns validation_name is.own is.own_is
          ∙ ap (λ cs. Some cs) (sym own_columns_are))
          same (s.stores.columns j w within)

      validation_read : rows_of P.pool.long (kinds_of validation_columns) (unwrap_or (table_stream letters (objects new.content) validation_name) []) ≡ Some v
      validation_read =
          ap (λ o. rows_of P.pool.long (kinds_of validation_columns) (unwrap_or o [])) validation_at
          ∙ ap (λ ks. rows_of P.pool.long ks vb) (sym own_kinds ∙ ap kinds_of (sym own_columns_are)) ∙ read.validation

      rows_now : All (λ u. read_by u.name u.columns ≡ Some u.rows) Q.tables
      rows_now = all_left name c t v (λ u. read_by u.name u.columns ≡ Some u.rows) P.tables (λ j w within apart. each j w within apart)
        where
          each : (j : ℕ) (w : Table) → j < length P.tables → bytes_eq (get_or P.tables j w).name name ≡ false → read_by (changed name c t v (get_or P.tables j w)).name (changed name c t v (get_or P.tables j w)).columns ≡ Some (changed name c t v (get_or P.tables j w)).rows
          each j w within apart =
              let u : Table = get_or P.tables j w in
              each_changed name c t v (λ u. read_by u.name u.columns ≡ Some u.rows) u
              (λ same. ap₂ read_by same (fixed columns_name columns_columns u refl same (s.stores.columns j w within)) ∙ ap (λ o. rows_of P.pool.long (kinds_of columns_columns) (unwrap_or o [])) columns_at ∙ read.columns)
              (λ same. ap₂ read_by same (fixed tables_name tables_columns u refl same (s.stores.columns j w within)) ∙ ap (λ o. rows_of P.pool.long (kinds_of tables_columns) (unwrap_or o [])) tables_at ∙ read.tables)
              (λ same. ap₂ read_by same (validation_fixed j w within same) ∙ ap (λ o. rows_of P.pool.long (kinds_of (own_columns P)) (unwrap_or o [])) validation_at ∙ read.validation)
              (λ a b e.
              let own : is_identifier u.name ≡ true = (free_parts u.name (s.named.table_names j w within)).0 in
              ap (λ o. rows_of P.pool.long (kinds_of u.columns) (unwrap_or (cond (has_slash u.name) None o) []))
              (at_others (stream_name u.name) (apart_of u.name columns_name own refl a) (apart_of u.name tables_name own refl b) (apart_of u.name validation_name own refl e) (apart_of u.name name own identifier apart))
              ∙ s.stores.rows j w within)

      pub stores_left : StoresSoundPackage letters new Q
      stores_left = record {
        usable = s.usable;
        stores = record {
          class = ap (λ facts. facts.clsid) (h.root ∙ h.validation.root ∙ h.tables.root ∙ h.columns.root) ∙ s.stores.class;
          rising = rising_left name c t v P.tables s.stores.rising;
          names = names_after;
          rows = subst (λ long. All (λ u. rows_of long (kinds_of u.columns) (unwrap_or (table_stream letters (objects new.content) u.name) []) ≡ Some u.rows) Q.tables) (sym keeps.long) rows_now;
          validation = v;
          validation_is = ap (λ long. rows_of long (kinds_of validation_columns) (unwrap_or (table_stream letters (objects new.content) validation_name) [])) keeps.long ∙ validation_read;
          schema = schema_left;
          columns = columns_left;
          streams = streams_now;
          storages = s.stores.storages ∙ sym storages_now;
        };
        counted = counted_left;
        free = keeps.empty s.free;
        named = named_left;
      }
