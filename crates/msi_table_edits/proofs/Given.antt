-- The rows that describe a new table, as cells: what the pool counts of them, and what they say in the last pool.
use Rattle.std.proofs.Common.{◌≡◌, ◌∙◌, ℕ, suc, ◌+◌, ◌<◌, ◌≤◌, Bool, true, List, [], ◌∷◌, get_or, length, map, refl, ap, subst, arith}
use Rattle.std.specs.Prelude.{◌&&◌}
use Rattle.std.specs.List.{list_all, remove, All}
use Rattle.std.proofs.lemmas.List.Elements.{All-cons, All-map, All-nil}
use Rattle.std.proofs.lemmas.List.Sums.{sum_by-remove}
use Rattle.std.proofs.lemmas.Option.{get_or_from_slice_get, slice_get_within}
use Rattle.cfb_tree.specs.Names.{CaseTable}
use Rattle.cfb_tree.specs.Tree.{Tree}
use Rattle.msi_changes.specs.Changes.{rows_counted}
use Rattle.msi_changes.specs.Laws.{uses_in, KeepsPlaces}
use Rattle.msi_changes.proofs.CellUses.{fewer_stay, stays_then, use_of, HasUses, Stays}
use Rattle.msi_changes.proofs.RowUses.{row_stays, row_uses, rows_given, GivesRows, IsWhole}
use Rattle.msi_changes.proofs.Shapes.{kept_then}
use Rattle.msi_changes.proofs.TurnUses.{list_stays}
use Rattle.msi_changes.proofs.UsesKept.{none_in}
use Rattle.msi_columns.specs.Column.{are_valid, Column}
use Rattle.msi_spec.specs.Package.{PackageContent}
use Rattle.msi_spec.specs.Sound.{refcounts_of}
use Rattle.msi_spec.specs.Split.{TreeStoresRest}
use Rattle.msi_spec.specs.Uses.{RefcountsAreExact}
use Rattle.msi_spec.proofs.SoundUses.{rows_read}
use Rattle.msi_pool.specs.Pool.{Pool}
use Rattle.msi_rewritten.proofs.Before.{uses_before}
use Rattle.msi_rewritten.proofs.Inserted.{of_ok}
use Rattle.msi_rewritten.proofs.Texts.{rows_stay}
use Rattle.msi_tables.specs.Rows.{kinds_of, AreRowsWritable, Row}
use Rattle.msi_tables.specs.Schema.{columns_columns, columns_rows, tables_columns, validation_row}
use Rattle.msi_tables.specs.Table.{row_data, Table}
use Rattle.msi_values.specs.Datum.{text, Datum}
use Rattle.msi_table_edits.proofs.Accepted.{AreCounted}
use Rattle.msi_table_edits.proofs.Holding.{there_uses, IsThere}
use Rattle.msi_table_edits.proofs.Shaped.{rows_fit}

-- the pool counts the uses of all tables
pub counted_before : (letters : CaseTable) (tree : Tree) (P : PackageContent) (stores : TreeStoresRest letters tree P) (counted : RefcountsAreExact P.pool P.tables) (t : Table) → IsThere P.tables t → HasUses P.pool (refcounts_of P.tables)
counted_before letters tree P stores counted t there =
    let uses = uses_before letters tree P stores counted there.k t there.at in
    let within : there.k < length P.tables = slice_get_within P.tables there.k t there.at in
    record {
      counts = λ n at.
          let here = uses.counts n at in
          let split : refcounts_of (remove P.tables there.k) n + uses_in (get_or P.tables there.k t).rows n ≡ refcounts_of P.tables n = sum_by-remove (λ u. uses_in u.rows n) P.tables there.k t within in
          let same : uses_in (get_or P.tables there.k t).rows n ≡ uses_in t.rows n = ap (λ (u : Table). uses_in u.rows n) (get_or_from_slice_get P.tables there.k t t there.at) in
          omega (arith, here, split, same);
    }

-- what is read of each of them stays where the texts do that they use
pub none_used : (letters : CaseTable) (tree : Tree) (P : PackageContent) → TreeStoresRest letters tree P → refcounts_of P.tables 0 ≡ 0
none_used letters tree P stores =
    none_in (λ u. uses_in u.rows 0) P.tables (λ j d within. (rows_read P.pool.long (kinds_of (get_or P.tables j d).columns) _ (get_or P.tables j d).rows (stores.rows j d within)).1)

pub said_still : (letters : CaseTable) (tree : Tree) (P : PackageContent) → TreeStoresRest letters tree P → (pool : Pool) → Stays (refcounts_of P.tables) P.pool pool → (u : Table) → IsThere P.tables u
    → map (row_data pool) u.rows ≡ map (row_data P.pool) u.rows
said_still letters tree P stores pool stays u there =
    let none = none_used letters tree P stores in
    let least : (n : ℕ) → uses_in u.rows n ≤ refcounts_of P.tables n = there_uses P.tables u there in
    rows_stay P.pool pool u.rows (let low = least 0 in omega (arith, low, none)) (λ n at is. stays.texts n at (let low = least n in omega (arith, low, is)))

none_of : (width : ℕ) (rows : List Row) → All (IsWhole width) rows → uses_in rows 0 ≡ 0
none_of width rows fine = none_in (λ row. row_uses row 0) rows (λ k d within. none_in (λ v. use_of v 0) (get_or rows k d) (fine k d within).placed)

columns_wide : (name : List ℕ) (n : ℕ) (cs : List Column) → All (λ ds. length ds ≡ 4) (columns_rows name n cs)
columns_wide name n [] = All-nil (λ ds. length ds ≡ 4)
columns_wide name n (c ∷ cs) = All-cons (λ ds. length ds ≡ 4) _ (columns_rows name (suc n) cs) refl (columns_wide name (suc n) cs)

pub validation_wide : (name : List ℕ) (cs : List Column) → All (λ ds. length ds ≡ 10) (map (validation_row name) cs)
validation_wide name cs = All-map (λ ds. length ds ≡ 10) (validation_row name) cs (λ k d within. refl)

-- what the cells say, in the pool that counts them all beside what was there
pub record AreGiven (before : Pool) (uses : ℕ → ℕ) (name : List ℕ) (columns : List Column) (limits : List (List Datum)) (pool : Pool) (c t v : List Row) : Type 0 where
  pub c_says : map (row_data pool) c ≡ columns_rows name 1 columns
  pub t_says : map (row_data pool) t ≡ (text name ∷ []) ∷ []
  pub v_says : map (row_data pool) v ≡ limits
  pub c_none : uses_in c 0 ≡ 0
  pub t_none : uses_in t 0 ≡ 0
  pub v_none : uses_in v 0 ≡ 0
  pub counts : HasUses pool (λ n. uses_in v n + (uses_in t n + (uses_in c n + uses n)))
  pub stays : Stays uses before pool

module _ (pool : Pool) (name : List ℕ) (columns : List Column) (limits : List (List Datum)) (d : AreCounted pool name columns limits) where
  module _ (wide : All (λ ds. length ds ≡ 10) limits) (uses : ℕ → ℕ) (has : HasUses pool uses) where
    abbrev with_c : ℕ → ℕ
    with_c n = uses_in d.c.0 n + uses n

    abbrev with_t : ℕ → ℕ
    with_t n = uses_in d.t.0 n + with_c n

    c_given : GivesRows 4 uses pool (columns_rows name 1 columns) d.c
    c_given = of_ok (rows_counted pool (columns_rows name 1 columns)) (GivesRows 4 uses pool (columns_rows name 1 columns)) d.c d.c_is
        (rows_given 4 pool (columns_rows name 1 columns) uses (columns_wide name 1 columns) has)

    t_given : GivesRows 1 with_c d.c.1 ((text name ∷ []) ∷ []) d.t
    t_given = of_ok (rows_counted d.c.1 ((text name ∷ []) ∷ [])) (GivesRows 1 with_c d.c.1 ((text name ∷ []) ∷ [])) d.t d.t_is
        (rows_given 1 d.c.1 ((text name ∷ []) ∷ []) with_c (All-cons (λ ds. length ds ≡ 1) (text name ∷ []) [] refl (All-nil (λ ds. length ds ≡ 1))) c_given.counts)

    v_given : GivesRows 10 with_t d.t.1 limits d.v
    v_given = of_ok (rows_counted d.t.1 limits) (GivesRows 10 with_t d.t.1 limits) d.v d.v_is (rows_given 10 d.t.1 limits with_t wide t_given.counts)

    pub are_given : AreGiven pool uses name columns limits d.v.1 d.c.0 d.t.0 d.v.0
    are_given =
        let c_kept : Stays with_c d.c.1 d.v.1 = stays_then t_given.stays (fewer_stay (λ n at some. omega (arith, some)) v_given.stays) in
        record {
          c_says = list_stays row_data (IsWhole 4) row_uses (row_stays 4) d.c.1 d.v.1 d.c.0 uses c_given.fine c_kept ∙ c_given.reads;
          t_says = list_stays row_data (IsWhole 1) row_uses (row_stays 1) d.t.1 d.v.1 d.t.0 with_c t_given.fine v_given.stays ∙ t_given.reads;
          v_says = v_given.reads;
          c_none = none_of 4 d.c.0 c_given.fine;
          t_none = none_of 1 d.t.0 t_given.fine;
          v_none = none_of 10 d.v.0 v_given.fine;
          counts = v_given.counts;
          stays = stays_then c_given.stays (fewer_stay (λ n at some. omega (arith, some)) c_kept);
        }

  -- they can be written
  module _ (own : List Column) (c_fits : list_all (are_valid columns_columns) (columns_rows name 1 columns) ≡ true) (t_fits : are_valid tables_columns (text name ∷ []) ≡ true)
      (v_fits : list_all (are_valid own) limits ≡ true) where
    pub record AreShaped : Type 0 where
      pub c : AreRowsWritable pool.long columns_columns d.c.0
      pub t : AreRowsWritable pool.long tables_columns d.t.0
      pub v : AreRowsWritable pool.long own d.v.0
      pub kept : KeepsPlaces pool d.v.1

    pub are_shaped : AreShaped
    are_shaped =
        let c : AreRowsWritable pool.long columns_columns d.c.0 × KeepsPlaces pool d.c.1 =
        of_ok (rows_counted pool (columns_rows name 1 columns)) (λ r. AreRowsWritable pool.long columns_columns r.0 × KeepsPlaces pool r.1) d.c d.c_is (rows_fit columns_columns pool (columns_rows name 1 columns) c_fits) in
        let t : AreRowsWritable d.c.1.long tables_columns d.t.0 × KeepsPlaces d.c.1 d.t.1 =
        of_ok (rows_counted d.c.1 ((text name ∷ []) ∷ [])) (λ r. AreRowsWritable d.c.1.long tables_columns r.0 × KeepsPlaces d.c.1 r.1) d.t d.t_is (rows_fit tables_columns d.c.1 ((text name ∷ []) ∷ []) (one_fits t_fits)) in
        let v : AreRowsWritable d.t.1.long own d.v.0 × KeepsPlaces d.t.1 d.v.1 =
        of_ok (rows_counted d.t.1 limits) (λ r. AreRowsWritable d.t.1.long own r.0 × KeepsPlaces d.t.1 r.1) d.v d.v_is (rows_fit own d.t.1 limits v_fits) in
        let both = kept_then pool d.c.1 d.t.1 c.1 t.1 in
        record {
          c = c.0;
          t = subst (λ (long : Bool). AreRowsWritable long tables_columns d.t.0) c.1.long t.0;
          v = subst (λ (long : Bool). AreRowsWritable long own d.v.0) both.long v.0;
          kept = kept_then pool d.t.1 d.v.1 both v.1;
        }
      where
        one_fits : are_valid tables_columns (text name ∷ []) ≡ true → list_all (are_valid tables_columns) ((text name ∷ []) ∷ []) ≡ true
        one_fits e = ap (λ b. b && true) e
