-- The tests of new rows behind those that are there: which one refuses, and what follows where all are passed.
use Rattle.std.proofs.Common.{◌≡◌, ◌∙◌, ℕ, Bool, true, false, List, [], ◌∷◌, map, refl, sym, ap, ap₂, subst, Some, None, Err, not, take, length, ◌+◌}
use Rattle.std.specs.Prelude.{◌&&◌, ◌||◌, bytes_eq, is_none, Vec, Result, is_some, nat_le, nat_lt, option_map, unwrap_or, IfSome, Option}
use Rattle.std.specs.List.{list_all, list_any}
use Rattle.std.specs.declared.alloc.Global.{Global}
use Rattle.std.proofs.lemmas.Bool.{and_parts}
use Rattle.std.proofs.lemmas.List.Folds.{list_all-map}
use Rattle.std.proofs.lemmas.List.{length-map}
use Rattle.cfb_medium.specs.declared.error.Error.{Error}
use Rattle.cfb_medium.specs.declared.error.Error.TheVariants.{AlreadyExists, InvalidInput}
use Rattle.cfb_tree.specs.Names.{CaseTable}
use Rattle.cfb_tree.specs.Tree.{Tree}
use Rattle.msi_columns.specs.Column.{are_valid, Column}
use Rattle.msi_columns.specs.Held.{column_of, columns_of}
use Rattle.msi_columns.specs.declared.column.Column.{Column as HeldColumn}
use Rattle.msi_columns.proofs.Choices.{list_any_map}
use Rattle.msi_spec.specs.Calls.{described, is_kept, stored_rows, Rows3}
use Rattle.msi_spec.specs.Package.{at_name, data_name, pool_name, stream_name, PackageContent}
use Rattle.msi_spec.specs.Sound.{is_free_table_name}
use Rattle.msi_pool.specs.Pool.{Pool}
use Rattle.msi_pool.specs.declared.stringref.ValueRef.{ValueRef}
use Rattle.msi_schema.proofs.Numbered.{name_found}
use Rattle.msi_stored.specs.Changing.{StoresSoundPackage}
use Rattle.msi_tables.specs.Held.{rows_held}
use Rattle.msi_tables.specs.Rows.{max_rows}
use Rattle.msi_tables.specs.Schema.{columns_columns, columns_name, columns_rows, is_for, tables_columns, tables_name, validation_columns, validation_name, validation_row}
use Rattle.msi_tables.specs.Table.{has_key, is_valid_table_name, keys_of, row_data, table_named, Table}
use Rattle.msi_texts.specs.Results.{◌>>=◌, unless_not}
use Rattle.msi_values.specs.Datum.{data_of, text, Datum}
use Rattle.msi_values.specs.declared.value.Value.{Value}
use Rattle.msi_table_edits.specs.Describing.{counting, rows_of_values, third_test}
use Rattle.msi_table_edits.specs.Testing.{can_be_kept, has_limits}
use Rattle.msi_table_edits.proofs.Accepted.{fits_rows, fourth}
use Rattle.msi_table_edits.proofs.CreatedFrom.{keys_are}
use Rattle.msi_table_edits.proofs.NotCreated.{as_three, past_number}

-- rows in memory are tested as what they say
pub rows_tested : (held : List HeldColumn) (rows : List (Vec Value Global)) (columns : List Column) (said : List (List Datum)) → columns_of held ≡ columns → rows_of_values rows ≡ said
    → list_all (λ row. are_valid (columns_of held) (data_of row.items)) rows ≡ list_all (are_valid columns) said
rows_tested held rows columns said is says = sym (list_all-map (are_valid (columns_of held)) (λ row. data_of row.items) rows) ∙ ap₂ (λ c r. list_all (are_valid c) r) is says

pub one_of : (b : Bool) → (b && true) ≡ b
one_of true = refl
one_of false = refl

-- ---- what _Validation says of the columns

key_there : (name n : List ℕ) (rows : List (List Datum)) → has_key (map (take 2) rows) (text name ∷ text n ∷ []) ≡ list_any (is_for name n) rows
key_there name n [] = refl
key_there name n (row ∷ rows) = ap₂ (λ a b. a || b) (name_found name n row) (key_there name n rows)

any_same : {X : Type 0} (p q : X → Bool) → ((x : X) → p x ≡ q x) → (xs : List X) → list_any p xs ≡ list_any q xs
any_same p q same [] = refl
any_same p q same (x ∷ xs) = ap₂ (λ a b. a || b) (same x) (any_same p q same xs)

module _ (letters : CaseTable) (tree : Tree) (P : PackageContent) (sound : StoresSoundPackage letters tree P) (w : Table) (found : table_named P.tables validation_name ≡ Some w) where
  own_keys : map (λ c. c.key) w.columns ≡ map (λ c. c.key) validation_columns
  own_keys = subst (λ o. IfSome o (λ u. map (λ c. c.key) u.columns ≡ map (λ c. c.key) validation_columns)) found sound.named.validation_keys

  pub limits_so : (rows : List (Vec ValueRef Global)) → rows_held rows ≡ stored_rows P validation_name → (name : List ℕ) (columns : List HeldColumn)
      → list_any (λ c. has_limits P.pool rows name (column_of c).name) columns ≡ list_any (has_key (keys_of P.pool w)) (map (λ c. text name ∷ text c.name ∷ []) (columns_of columns))
  unfolding has_limits
  limits_so rows held name columns =
      any_same (λ c. has_limits P.pool rows name (column_of c).name) (λ c. has_key (keys_of P.pool w) (text name ∷ text (column_of c).name ∷ [])) (λ c. one (column_of c).name) columns
      ∙ sym (list_any_map (λ c. has_key (keys_of P.pool w) (text name ∷ text c.name ∷ [])) column_of columns)
      ∙ sym (list_any_map (has_key (keys_of P.pool w)) (λ c. text name ∷ text c.name ∷ []) (columns_of columns))
    where
      one : (n : List ℕ) → has_limits P.pool rows name n ≡ has_key (keys_of P.pool w) (text name ∷ text n ∷ [])
      one n =
          sym (list_any_map (λ row. is_for name n (row_data P.pool row)) (λ row. row.items) rows)
          ∙ ap (list_any (λ row. is_for name n (row_data P.pool row))) (held ∙ ap (λ (o : Option Table). unwrap_or (option_map (λ t. t.rows) o) []) found)
          ∙ sym (list_any_map (is_for name n) (row_data P.pool) w.rows)
          ∙ sym (key_there name n (map (row_data P.pool) w.rows))
          ∙ ap (λ keys. has_key keys (text name ∷ text n ∷ [])) (sym (keys_are P.pool w.columns own_keys w.rows))

-- ---- their number

pub as_held : (P : PackageContent) (rows : List (Vec ValueRef Global)) (name : List ℕ) → rows_held rows ≡ stored_rows P name → length rows ≡ length (stored_rows P name)
as_held P rows name is = sym (length-map rows (λ row. row.items)) ∙ ap length is

pub room_so : (P : PackageContent) (cs ts vs : List (Vec ValueRef Global)) → rows_held cs ≡ stored_rows P columns_name → rows_held ts ≡ stored_rows P tables_name → rows_held vs ≡ stored_rows P validation_name
    → (name : List ℕ) (columns : List HeldColumn) (n : ℕ) → n ≡ length columns
    → (nat_le (length cs + n) max_rows && nat_lt (length ts) max_rows && nat_le (length vs + n) max_rows) ≡ fits_rows P name (columns_of columns)
room_so P cs ts vs c t v name columns n is =
    let many : n ≡ length (columns_of columns) = is ∙ sym (length-map columns column_of) in
    λ i. nat_le (as_held P cs columns_name c i + many i) max_rows && nat_lt (as_held P ts tables_name t i) max_rows && nat_le (as_held P vs validation_name v i + many i) max_rows

-- ---- the tests in turn

module _ (letters : CaseTable) (P : PackageContent) (name : List ℕ) (columns : List Column) (w : Table) where
  abbrev Answer : Type 0
  Answer = Result (Rows3 × Pool) Error

  abbrev free : Bool
  free = is_none (at_name letters P.storages (stream_name name))

  abbrev c_fit : Bool
  c_fit = list_all (are_valid columns_columns) (columns_rows name 1 columns)

  abbrev t_fit : Bool
  t_fit = are_valid tables_columns (text name ∷ [])

  abbrev v_fit : Bool
  v_fit = list_all (are_valid w.columns) (map (validation_row name) columns)

  abbrev p_other : Bool
  p_other = not (bytes_eq name pool_name)

  abbrev d_other : Bool
  d_other = not (bytes_eq name data_name)

  abbrev k_kept : Bool
  k_kept = list_all is_kept columns

  abbrev tested : Bool → Bool → Bool → Bool → Bool → Bool → Answer
  tested c t v p d k = unless_not (c && t && v && p && d && k) InvalidInput >>= λ _. fourth free P name columns w

  pub unfit_c : c_fit ≡ false → third_test letters P name columns w ≡ Err InvalidInput
  unfit_c c = ap (λ b. tested b t_fit v_fit p_other d_other k_kept) c

  pub unfit_t : c_fit ≡ true → t_fit ≡ false → third_test letters P name columns w ≡ Err InvalidInput
  unfit_t c t = ap₂ (λ a b. tested a b v_fit p_other d_other k_kept) c t

  pub unfit_v : c_fit ≡ true → t_fit ≡ true → v_fit ≡ false → third_test letters P name columns w ≡ Err InvalidInput
  unfit_v c t v = λ i. tested (c i) (t i) (v i) p_other d_other k_kept

  pub past_fit : c_fit ≡ true → t_fit ≡ true → v_fit ≡ true → can_be_kept name columns ≡ true → third_test letters P name columns w ≡ fourth free P name columns w
  past_fit c t v kept =
      let both = and_parts (p_other && d_other) k_kept kept in
      let other = and_parts p_other d_other both.0 in
      λ i. tested (c i) (t i) (v i) (other.0 i) (other.1 i) (both.1 i)

  abbrev said : Bool
  said = list_any (has_key (keys_of P.pool w)) (map (λ c. text name ∷ text c.name ∷ []) columns)

  abbrev beside : Bool → Bool → Answer
  beside s f = unless_not (not s && f) AlreadyExists >>= λ _. described P name columns

  pub already_said : said ≡ true → fourth free P name columns w ≡ Err AlreadyExists
  already_said s = ap (λ s. beside s free) s

  pub storage_there : said ≡ false → free ≡ false → fourth free P name columns w ≡ Err AlreadyExists
  storage_there s f = ap₂ beside s f

  pub past_others : said ≡ false → free ≡ true → fourth free P name columns w ≡ described P name columns
  past_others s f = ap₂ beside s f

  pub is_counting : fits_rows P name columns ≡ true → described P name columns ≡ counting letters P name columns
  is_counting fits = past_number P name columns fits ∙ as_three P name columns

-- whether a storage is found, and whether the name is free
pub free_so : {X : Type 0} (o : Option X) (b : Bool) → b ≡ is_some o → is_none o ≡ not b
free_so None b is = ap not (sym is)
free_so (Some x) b is = ap not (sym is)

pub free_name : (name : List ℕ) (columns : List Column) → is_valid_table_name name ≡ true → can_be_kept name columns ≡ true → is_free_table_name name ≡ true
free_name name columns valid kept =
    let other = and_parts (not (bytes_eq name pool_name)) (not (bytes_eq name data_name)) (and_parts (not (bytes_eq name pool_name) && not (bytes_eq name data_name)) (list_all is_kept columns) kept).0 in
    ap₂ (λ a b. a && b) (ap₂ (λ a b. a && b) valid other.0) other.1
