-- A new table that is accepted is new: what is stored of it stands behind what was there.
use Rattle.std.proofs.Common.{◌≡◌, ◌∙◌, ℕ, suc, ◌+◌, ◌<◌, ◌≤◌, Bool, true, false, cond, List, [], ◌∷◌, ◌++◌, drop, length, map, refl, sym, ap, ap₂, subst, arith, Option, Some, None, not}
use Rattle.std.specs.Prelude.{◌&&◌, bytes_eq, find, is_none, option_map, take, nat_le, nat_lt, unwrap_or, All, IfSome, IsTrue}
use Rattle.std.specs.List.{list_all, list_any}
use Rattle.std.specs.List.Sorted.{IsPermutation}
use Rattle.std.specs.Ordering.{is_eq}
use Rattle.std.proofs.lemmas.Bool.{and_parts, or_parts}
use Rattle.std.proofs.lemmas.Bool.Decides.{nat_tests}
use Rattle.std.proofs.lemmas.Cmp.{nat_list_eq_equiv}
use Rattle.std.proofs.lemmas.List.{length-append, length-map}
use Rattle.std.proofs.lemmas.Map.Views.{list_any-from_Contains}
use Rattle.cfb_tree.specs.Names.{CaseTable}
use Rattle.cfb_tree.specs.Tree.{Tree}
use Rattle.cfb_tree.proofs.OneContent.{Some_same}
use Rattle.msi_columns.specs.Column.{Column}
use Rattle.msi_spec.specs.RoundTrips.{RowsRoundTrip}
use Rattle.msi_spec.specs.Calls.{own_columns, stored_rows, Rows3}
use Rattle.msi_spec.specs.Package.{at_name, is_table_name, rows_named, stream_name, PackageContent}
use Rattle.msi_spec.specs.Sound.{refcounts_of}
use Rattle.msi_spec.proofs.StoredBack.{come_back}
use Rattle.msi_spec.proofs.SystemRows.{table_found}
use Rattle.msi_pool.specs.Pool.{Pool}
use Rattle.msi_rewritten.proofs.Columns.{have_columns}
use Rattle.msi_rewritten.proofs.Stored.{found_at}
use Rattle.msi_schema.proofs.Numbered.{name_found}
use Rattle.msi_stored.specs.Changing.{StoresSoundPackage}
use Rattle.msi_tables.specs.Rows.{has_place, max_rows, AreRowsWritable, Row}
use Rattle.msi_tables.specs.Schema.{columns_columns, columns_in, columns_name, columns_rows, is_for, tables_columns, tables_name, validation_columns, validation_name, validation_row}
use Rattle.msi_tables.specs.Table.{has_key, key_cmp, key_values, row_data, IsStoredByKeys, Table}
use Rattle.msi_tables.proofs.Writable.{rows_move_by_keys}
use Rattle.msi_values.specs.Datum.{text, Datum}
use Rattle.msi_table_edits.specs.Created.{CanBeStoredThree, ComeBackThree}
use Rattle.msi_table_edits.proofs.Accepted.{AreMet}
use Rattle.msi_table_edits.proofs.Given.{are_given, are_shaped, counted_before, validation_wide, AreGiven, AreShaped}
use Rattle.msi_table_edits.proofs.Holding.{holding, is_there, there_has, IsThere}
use Rattle.msi_table_edits.proofs.Limits.{limited_more}
use Rattle.msi_table_edits.proofs.NewTable.{IsNewTable}

-- ---- keys of _Validation

same_flags : (cs ds : List Column) → map (λ c. c.key) cs ≡ map (λ c. c.key) ds → (vs : List Datum) → key_values cs vs ≡ key_values ds vs
same_flags [] [] e vs = refl
same_flags [] (d ∷ ds) e vs = absurd (cc)
same_flags (c ∷ cs) [] e vs = absurd (cc)
same_flags (c ∷ cs) (d ∷ ds) e [] = refl
same_flags (c ∷ cs) (d ∷ ds) e (v ∷ vs) =
    let here : c.key ≡ d.key = cc in
    let rest : map (λ c. c.key) cs ≡ map (λ c. c.key) ds = cc in
    ap₂ (λ b l. cond b (v ∷ l) l) here (same_flags cs ds rest vs)

no_more : (cs : List Column) → list_all (λ c. not c.key) cs ≡ true → (vs : List Datum) → key_values cs vs ≡ []
no_more [] e vs = refl
no_more (c ∷ cs) e [] = refl
no_more (c ∷ cs) e (v ∷ vs) =
    let parts = and_parts (not c.key) (list_all (λ c. not c.key) cs) e in
    by c.key parts.0 (no_more cs parts.1 vs)
  where
    by : (b : Bool) → not b ≡ true → key_values cs vs ≡ [] → cond b (v ∷ key_values cs vs) (key_values cs vs) ≡ []
    by true f rest = absurd (cc)
    by false f rest = rest

first_two : (vs : List Datum) → key_values validation_columns vs ≡ take 2 vs
first_two [] = refl
first_two (a ∷ []) = refl
first_two (a ∷ b ∷ vs) = ap (λ l. a ∷ b ∷ l) (no_more (drop 2 validation_columns) refl vs)

pub keys_are : (pool : Pool) (cs : List Column) → map (λ c. c.key) cs ≡ map (λ c. c.key) validation_columns → (rows : List Row)
    → map (λ row. key_values cs (row_data pool row)) rows ≡ map (take 2) (map (row_data pool) rows)
keys_are pool cs e [] = refl
keys_are pool cs e (row ∷ rows) = ap₂ (λ k ks. k ∷ ks) (same_flags cs validation_columns e (row_data pool row) ∙ first_two (row_data pool row)) (keys_are pool cs e rows)

unfound : (name n : List ℕ) (rows : List (List Datum)) → has_key (map (take 2) rows) (text name ∷ text n ∷ []) ≡ false → is_none (find (is_for name n) rows) ≡ true
unfound name n [] e = refl
unfound name n (row ∷ rows) e =
    let k : List Datum = text name ∷ text n ∷ [] in
    let parts = or_parts (is_eq (key_cmp (take 2 row) k)) (has_key (map (take 2) rows) k) e in
    ap (λ b. is_none (cond b (Some row) (find (is_for name n) rows))) (sym (name_found name n row) ∙ parts.0) ∙ unfound name n rows parts.1

unsaid_by : (name : List ℕ) (rows : List (List Datum)) (cs : List Column) → list_any (has_key (map (take 2) rows)) (map (λ c. text name ∷ text c.name ∷ []) cs) ≡ false
    → list_all (λ c. is_none (find (is_for name c.name) rows)) cs ≡ true
unsaid_by name rows [] e = refl
unsaid_by name rows (c ∷ cs) e =
    let parts = or_parts (has_key (map (take 2) rows) (text name ∷ text c.name ∷ [])) (list_any (has_key (map (take 2) rows)) (map (λ c. text name ∷ text c.name ∷ []) cs)) e in
    ap₂ (λ a b. a && b) (unfound name c.name rows parts.0) (unsaid_by name rows cs parts.1)

pub none_so : {X : Type 0} (o : Option X) → is_none o ≡ true → o ≡ None
none_so None e = refl
none_so (Some x) e = absurd (cc)

many_rows : (name : List ℕ) (n : ℕ) (cs : List Column) → length (columns_rows name n cs) ≡ length cs
many_rows name n [] = refl
many_rows name n (c ∷ cs) = ap (λ k. suc k) (many_rows name (suc n) cs)

-- ---- what is there

-- a table of fixed columns
pub record HasTable (ts : List Table) (name : List ℕ) (columns : List Column) : Type 0 where
  pub rows : List Row
  pub there : IsThere ts (holding name columns rows)

abbrev rows_in : Option Table → List Row
rows_in o = unwrap_or (option_map (λ t. t.rows) o) []

module _ (letters : CaseTable) (tree : Tree) (P : PackageContent) (sound : StoresSoundPackage letters tree P) where
  abbrev Told : Table → Type 0
  Told u = columns_in (rows_named P columns_name) (map (row_data P.pool) sound.stores.validation) u.name ≡ Some u.columns

  fixed_table : (m : List ℕ) (cs : List Column) → is_table_name P m ≡ true → columns_in (rows_named P columns_name) (map (row_data P.pool) sound.stores.validation) m ≡ Some cs → HasTable P.tables m cs
  fixed_table m cs is fixed =
      let there = list_any-from_Contains {eq = bytes_eq} nat_list_eq_equiv m (map (λ u. u.name) P.tables) ((sound.stores.names m).0 is) in
      let found = table_found Told m P.tables sound.stores.columns there in
      let columns_are : found.0.columns ≡ cs = Some_same (sym found.3 ∙ ap (columns_in (rows_named P columns_name) (map (row_data P.pool) sound.stores.validation)) found.2 ∙ fixed) in
      let same : found.0 ≡ holding m cs found.0.rows = ap₂ (λ n cs. holding n cs found.0.rows) found.2 columns_are in
      record { rows = found.0.rows; there = is_there P.tables (holding m cs found.0.rows) (found.1 ∙ ap (λ (u : Table). Some u) same) }

  pub of_columns : HasTable P.tables columns_name columns_columns
  of_columns = fixed_table columns_name columns_columns refl refl

  pub of_tables : HasTable P.tables tables_name tables_columns
  of_tables = fixed_table tables_name tables_columns refl refl

  pub stored_c : stored_rows P columns_name ≡ of_columns.rows
  stored_c = ap rows_in of_columns.there.found

  pub stored_t : stored_rows P tables_name ≡ of_tables.rows
  stored_t = ap rows_in of_tables.there.found

-- ---- the rows of _Columns and _Tables with new ones come back

as_many : (pool : Pool) (rows : List Row) (said : List (List Datum)) (n : ℕ) → map (row_data pool) rows ≡ said → length said ≡ n → length rows ≡ n
as_many pool rows said n e long = sym (length-map rows (row_data pool)) ∙ ap length e ∙ long

module _ (P : PackageContent) (name : List ℕ) (columns : List Column) (pool : Pool) (new_c new_t : List Row) where
  abbrev cs : List Row
  cs = stored_rows P columns_name ++ new_c

  abbrev ts : List Row
  ts = stored_rows P tables_name ++ new_t

  pub c_back : map (row_data pool) new_c ≡ columns_rows name 1 columns → nat_le (length (stored_rows P columns_name) + length columns) max_rows ≡ true → (c : List Row) → IsStoredByKeys pool columns_columns cs c
      → AreRowsWritable P.pool.long columns_columns cs → All (λ row. IsTrue (list_all has_place row)) cs → RowsRoundTrip P.pool.long columns_columns c
  c_back says fits c stored writable places =
      let more : length new_c ≡ length columns = as_many pool new_c (columns_rows name 1 columns) (length columns) says (many_rows name 1 columns) in
      let few : length (stored_rows P columns_name) + length columns ≤ 65536 = grind (arith, nat_tests, fits) in
      come_back P.pool.long columns_columns cs c (rows_move_by_keys pool columns_columns cs c stored)
      (record {
        columns_there = (let four : length columns_columns ≡ 4 = refl in omega (arith, four));
        few = omega (arith, length-append (stored_rows P columns_name) new_c, more, few);
        writable = writable;
        places = places;
      })

  pub t_back : map (row_data pool) new_t ≡ (text name ∷ []) ∷ [] → nat_lt (length (stored_rows P tables_name)) max_rows ≡ true → (t : List Row) → IsStoredByKeys pool tables_columns ts t
      → AreRowsWritable P.pool.long tables_columns ts → All (λ row. IsTrue (list_all has_place row)) ts → RowsRoundTrip P.pool.long tables_columns t
  t_back says fits t stored writable places =
      let more : length new_t ≡ 1 = as_many pool new_t ((text name ∷ []) ∷ []) 1 says refl in
      let few : length (stored_rows P tables_name) < 65536 = grind (arith, nat_tests, fits) in
      come_back P.pool.long tables_columns ts t (rows_move_by_keys pool tables_columns ts t stored)
      (record {
        columns_there = (let one : length tables_columns ≡ 1 = refl in omega (arith, one));
        few = omega (arith, length-append (stored_rows P tables_name) new_t, more, few);
        writable = writable;
        places = places;
      })

module _ (letters : CaseTable) (tree : Tree) (P : PackageContent) (sound : StoresSoundPackage letters tree P) (name : List ℕ) (columns : List Column) (x : Rows3 × Pool)
    (met : AreMet (is_none (at_name letters P.storages (stream_name name))) P name columns x) where
  abbrev there_c : HasTable P.tables columns_name columns_columns
  there_c = of_columns letters tree P sound

  abbrev there_t : HasTable P.tables tables_name tables_columns
  there_t = of_tables letters tree P sound

  abbrev w : Table
  w = met.validation

  pub validation_there : IsThere P.tables (holding validation_name w.columns w.rows)
  validation_there =
      let at = found_at P.tables validation_name w met.found in
      let same : w ≡ holding validation_name w.columns w.rows = ap (λ n. holding n w.columns w.rows) at.3 in
      is_there P.tables (holding validation_name w.columns w.rows) (met.found ∙ ap (λ (u : Table). Some u) same)

  stored_v : stored_rows P validation_name ≡ w.rows
  stored_v = ap rows_in validation_there.found

  own_is : own_columns P ≡ w.columns
  own_is = ap (λ (o : Option Table). unwrap_or (option_map (λ t. t.columns) o) []) met.found

  keys_flags : map (λ c. c.key) w.columns ≡ map (λ c. c.key) validation_columns
  keys_flags = subst (λ o. IfSome o (λ u. map (λ c. c.key) u.columns ≡ map (λ c. c.key) validation_columns)) met.found sound.named.validation_keys

  unsaid : list_all (λ c. is_none (find (is_for name c.name) (map (row_data P.pool) w.rows))) columns ≡ true
  unsaid = unsaid_by name (map (row_data P.pool) w.rows) columns
      (sym (ap (λ keys. list_any (has_key keys) (map (λ c. text name ∷ text c.name ∷ []) columns)) (keys_are P.pool w.columns keys_flags w.rows)) ∙ met.unsaid)

  abbrev limits : List (List Datum)
  limits = map (validation_row name) columns

  given : AreGiven P.pool (refcounts_of P.tables) name columns limits met.rows.new.v.1 met.rows.new.c.0 met.rows.new.t.0 met.rows.new.v.0
  given = are_given P.pool name columns limits met.rows.new (validation_wide name columns) (refcounts_of P.tables) (counted_before letters tree P sound.stores sound.counted (holding validation_name w.columns w.rows) validation_there)

  shaped : AreShaped P.pool name columns limits met.rows.new w.columns met.columns_fit met.name_fits met.validation_fits
  shaped = are_shaped P.pool name columns limits met.rows.new w.columns met.columns_fit met.name_fits met.validation_fits

  abbrev all : Rows3 × Pool
  all = ((stored_rows P columns_name ++ met.rows.new.c.0, stored_rows P tables_name ++ met.rows.new.t.0, stored_rows P validation_name ++ met.rows.new.v.0), met.rows.new.v.1)

  abbrev Stored : Rows3 × Pool → List Row → List Row → List Row → Type 0
  Stored y c t v = IsStoredByKeys y.1 columns_columns y.0.0 c × IsStoredByKeys y.1 tables_columns y.0.1 t × IsStoredByKeys y.1 (own_columns P) y.0.2 v

  new_by_all : (c t v : List Row) → Stored all c t v → IsNewTable letters P name columns met.rows.new.v.1 c t v
  new_by_all c t v stored = record {
    old_c = there_c.rows;
    old_t = there_t.rows;
    old_v = w.rows;
    own = w.columns;
    columns_there = there_c.there;
    tables_there = there_t.there;
    new_c = met.rows.new.c.0;
    new_t = met.rows.new.t.0;
    new_v = met.rows.new.v.0;
    c_moved = subst (λ rows. IsPermutation (rows ++ met.rows.new.c.0) c) (stored_c letters tree P sound) (rows_move_by_keys all.1 columns_columns all.0.0 c stored.0);
    t_moved = subst (λ rows. IsPermutation (rows ++ met.rows.new.t.0) t) (stored_t letters tree P sound) (rows_move_by_keys all.1 tables_columns all.0.1 t stored.1);
    limits = limits;
    limited = limited_more letters tree P sound.stores sound.named name columns met.new w.columns w.rows validation_there met.rows.new.v.1 given.stays met.rows.new.v.0 v
        (subst (λ rows. IsPermutation (rows ++ met.rows.new.v.0) v) stored_v (rows_move_by_keys all.1 (own_columns P) all.0.2 v stored.2)) given.v_says met.some met.distinct met.kept unsaid;
    given = given;
    kept = shaped.kept;
    none = met.new;
    free = ap₂ (λ a b. a && b) (ap₂ (λ a b. a && b) met.valid met.not_pool) met.not_data;
    no_storage = none_so (at_name letters P.storages (stream_name name)) met.free;
  }

  pub is_new : (c t v : List Row) → Stored x c t v → IsNewTable letters P name columns x.1 c t v
  is_new = subst (λ (y : Rows3 × Pool). (c t v : List Row) → Stored y c t v → IsNewTable letters P name columns y.1 c t v) (sym met.rows.is) new_by_all

  -- ---- the rows can be written, and come back

  v_few : length all.0.2 ≤ max_rows
  v_few =
      let more : length met.rows.new.v.0 ≡ length columns = as_many met.rows.new.v.1 met.rows.new.v.0 (map (validation_row name) columns) (length columns) given.v_says (length-map columns (validation_row name)) in
      let few : length (stored_rows P validation_name) + length columns ≤ 65536 = (let e = met.rows.v_few in grind (arith, nat_tests, e)) in
      omega (arith, length-append (stored_rows P validation_name) met.rows.new.v.0, more, few)

  own_some : 0 < length (own_columns P)
  own_some = subst (λ cs. 0 < length cs) (sym own_is)
      (have_columns (rows_named P columns_name) (map (row_data P.pool) sound.stores.validation) (holding validation_name w.columns w.rows) (there_has (Told letters tree P sound) P.tables (holding validation_name w.columns w.rows) validation_there sound.stores.columns))

  back_by_all : (c t v : List Row) → Stored all c t v → CanBeStoredThree P all.0 → ComeBackThree P c t v
  back_by_all c t v stored can = record {
    columns = c_back P name columns met.rows.new.v.1 met.rows.new.c.0 met.rows.new.t.0 given.c_says met.rows.c_few c stored.0 can.columns can.columns_places;
    tables = t_back P name columns met.rows.new.v.1 met.rows.new.c.0 met.rows.new.t.0 given.t_says met.rows.t_few t stored.1 can.tables can.tables_places;
    validation = come_back P.pool.long (own_columns P) all.0.2 v (rows_move_by_keys all.1 (own_columns P) all.0.2 v stored.2)
        (record { columns_there = own_some; few = v_few; writable = can.validation; places = can.validation_places });
  }

  pub are_back : (c t v : List Row) → Stored x c t v → CanBeStoredThree P x.0 → ComeBackThree P c t v
  are_back = subst (λ (y : Rows3 × Pool). (c t v : List Row) → Stored y c t v → CanBeStoredThree P y.0 → ComeBackThree P c t v) (sym met.rows.is) back_by_all
