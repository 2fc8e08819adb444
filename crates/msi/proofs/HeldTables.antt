-- The tables of a package that is held, as a query finds them.
use Rattle.std.proofs.Common.{◌≡◌, ◌∙◌, ◌+◌, ℕ, suc, Bool, true, false, cond, List, [], ◌∷◌, length, map, refl, sym, ap, subst, arith, Some, None}
use Rattle.std.specs.Prelude.{◌==◌, ◌&&◌, All, IfSome, Option, Vec, bytes_eq, nat_le, option_map, unwrap_or}
use Rattle.std.specs.List.{list_all}
use Rattle.std.specs.declared.alloc.Global.{Global}
use Rattle.std.proofs.lemmas.Bool.{and_parts}
use Rattle.std.proofs.lemmas.Bool.Decides.{nat_tests}
use Rattle.msi_pool.specs.declared.stringref.ValueRef.{ValueRef}
use Rattle.msi_store.proofs.Found.{option_then}
use Rattle.msi_tables.specs.Held.{rows_held}
use Rattle.std.proofs.lemmas.List.Elements.{All-head, All-tail}
use Rattle.cfb_tree.specs.Names.{CaseTable}
use Rattle.cfb_tree.specs.Tree.{Tree}
use Rattle.msi_columns.specs.declared.column.ColumnType.{ColumnType}
use Rattle.msi_columns.specs.Cell.{width_of}
use Rattle.std.proofs.lemmas.List.{length-map}
use Rattle.msi_spec.specs.Package.{objects, table_stream}
use Rattle.msi_parts.proofs.Judging.{named_heading}
use Rattle.msi_parts.specs.Judged.{heading_named}
use Rattle.msi_parts.specs.Parts.{heading}
use Rattle.msi_parts.specs.Whole.{HasFullRows, Wide}
use Rattle.msi_stored.specs.StoredPackages.{AreTablesOfTree, rows_in}
use Rattle.msi_tables.specs.Rows.{Row, kinds_of, max_rows, numbers_from, row_at, row_count, rows_of}
use Rattle.msi_tables.specs.Table.{Heading, Table, table_named}

some_value : {A : Type 0} (d : A) (o : Option A) (x y : A) → o ≡ Some x → o ≡ Some y → x ≡ y
some_value d o x y ex ey = ap (λ o. unwrap_or o d) (sym ex ∙ ey)

-- what is found has what all have
of_found : (P : Table → Type 0) (ts : List Table) (name : List ℕ) (t : Table) → All P ts → table_named ts name ≡ Some t → P t
of_found P [] name t all e = absurd (cc)
of_found P (u ∷ us) name t all e = by (bytes_eq u.name name) (of_found P us name t (All-tail P u us all)) e
  where
    by : (b : Bool) → (table_named us name ≡ Some t → P t) → cond b (Some u) (table_named us name) ≡ Some t → P t
    by true later e = let same : u ≡ t = cc in subst P same (All-head P u us all)
    by false later e = later e

module _ (letters : CaseTable) (tree : Tree) (long : Bool) (ts : List Table) (read : All (λ t. rows_in letters tree (heading long t) ≡ Some t.rows) ts) where
  own_rows : (name : List ℕ) (t : Table) (h : Heading) (rows : List Row) → table_named ts name ≡ Some t → heading_named (map (heading long) ts) name ≡ Some h
      → rows_in letters tree h ≡ Some rows → t.rows ≡ rows
  own_rows name t h rows e found is =
      let same : heading long t ≡ h = some_value h (heading_named (map (heading long) ts) name) (heading long t) h (named_heading long ts name ∙ ap (option_map (heading long)) e) found in
      some_value rows (rows_in letters tree h) t.rows rows (subst (λ k. rows_in letters tree k ≡ Some t.rows) same (of_found (λ t. rows_in letters tree (heading long t) ≡ Some t.rows) ts name t read e)) is

  pub are_tables : AreTablesOfTree letters tree (map (heading long) ts) (table_named ts)
  are_tables = record {
    names = λ name. option_then (heading long) (λ h. h.name) (table_named ts name) ∙ ap (option_map (λ h. h.name)) (sym (named_heading long ts name));
    columns = λ name. option_then (heading long) (λ h. h.columns) (table_named ts name) ∙ ap (option_map (λ h. h.columns)) (sym (named_heading long ts name));
    rows = own_rows;
  }

-- rows that were read have a cell for each column
cells : (long : Bool) (n : ℕ) (bytes : List ℕ) (before : ℕ) (ks : List ColumnType) (r : ℕ) → length (row_at long n bytes before ks r) ≡ length ks
cells long n bytes before [] r = refl
cells long n bytes before (k ∷ ks) r = ap suc (cells long n bytes (before + width_of long k) ks r)

wide_map : (n : ℕ) (f : ℕ → Row) → ((r : ℕ) → length (f r) ≡ n) → (rs : List ℕ) → Wide n (map f rs)
wide_map n f all [] = tt
wide_map n f all (r ∷ rs) = (all r, wide_map n f all rs)

pub rows_whole : (long : Bool) (ks : List ColumnType) (bytes : List ℕ) (rows : List Row) → rows_of long ks bytes ≡ Some rows → Wide (length ks) rows
rows_whole long ks bytes rows is = by (nat_le (row_count long ks bytes) max_rows) is
  where
    all : List Row
    all = map (row_at long (row_count long ks bytes) bytes 0 ks) (numbers_from 0 (row_count long ks bytes))

    wide : Wide (length ks) all
    wide = wide_map (length ks) (row_at long (row_count long ks bytes) bytes 0 ks) (cells long (row_count long ks bytes) bytes 0 ks) (numbers_from 0 (row_count long ks bytes))

    by : (b : Bool) → cond b (Some all) None ≡ Some rows → Wide (length ks) rows
    by true e = let same : all ≡ rows = cc in subst (Wide (length ks)) same wide
    by false e = absurd (cc)

pub tables_whole : (letters : CaseTable) (tree : Tree) (long : Bool) (ts : List Table) → All (λ t. rows_in letters tree (heading long t) ≡ Some t.rows) ts
    → (name : List ℕ) → IfSome (table_named ts name) HasFullRows
tables_whole letters tree long ts read name = by (table_named ts name) refl
  where
    by : (o : Option Table) → table_named ts name ≡ o → IfSome o HasFullRows
    by None e = tt
    by (Some t) e =
        subst (λ n. Wide n t.rows) (length-map t.columns (λ c. c.kind))
        (rows_whole long (kinds_of t.columns) (unwrap_or (table_stream letters (objects tree.content) t.name) []) t.rows
        (of_found (λ t. rows_in letters tree (heading long t) ≡ Some t.rows) ts name t read e))

-- each row has so many cells where a test of each says so
pub rows_are_wide : (n : ℕ) (rows : List (Vec ValueRef Global)) → list_all (λ row. length row.items == n) rows ≡ true → Wide n (rows_held rows)
rows_are_wide n [] e = tt
rows_are_wide n (row ∷ rows) e =
    let both = and_parts (length row.items == n) (list_all (λ row. length row.items == n) rows) e in
    let here : length row.items ≡ n = grind (arith, nat_tests, both.0) in
    (here, rows_are_wide n rows both.1)

pub wide_rows_pass : (n : ℕ) (rows : List (Vec ValueRef Global)) → Wide n (rows_held rows) → list_all (λ row. length row.items == n) rows ≡ true
wide_rows_pass n [] w = refl
wide_rows_pass n (row ∷ rows) w =
    let here : (length row.items == n) ≡ true = grind (arith, nat_tests, w.0) in
    ap (λ b. b && list_all (λ row. length row.items == n) rows) here ∙ wide_rows_pass n rows w.1
