-- A delete leaves the other rows as they were read, and distinct keys stay distinct.
use Rattle.std.proofs.Common.{◌≡◌, ◌∙◌, ℕ, ◌+◌, Bool, true, false, not, cond, List, [], ◌∷◌, map, length, filter, flat_map, refl, sym, ap, arith, Option, Result, Ok, Err}
use Rattle.std.specs.Prelude.{◌&&◌, IfOk}
use Rattle.std.specs.List.{All}
use Rattle.std.specs.Ordering.{is_eq}
use Rattle.std.proofs.lemmas.List.Elements.{All-append, All-filter, All-tail}
use Rattle.std.proofs.lemmas.List.Filters.{sum_by-filter_both}
use Rattle.std.proofs.lemmas.List.Sums.{sum_by-append, sum_by-cons}
use Rattle.cfb_medium.specs.declared.error.Error.{Error}
use Rattle.cfb_medium.specs.declared.error.Error.TheVariants.{InvalidInput}
use Rattle.msi_texts.specs.Results.{◌>>=◌, unless_not}
use Rattle.msi_values.specs.Datum.{Datum}
use Rattle.msi_pool.specs.Pool.{Pool}
use Rattle.msi_tables.specs.Rows.{Row}
use Rattle.msi_tables.specs.Table.{Table, are_distinct, has_key, key_cmp, key_values, keys_of, row_data}
use Rattle.msi_expr.specs.Formula.{Formula}
use Rattle.msi_changes.specs.Laws.{RefcountsMatchRows, KeepsUses, LeavesRows}
use Rattle.msi_changes.specs.Changes.{all_taken_back, deleted}
use Rattle.msi_expr.specs.Conditions.{knows_condition, matches}
use Rattle.msi_changes.proofs.CellUses.{HasUses, IsPlaced, Leaves, fewer_stay, same_uses, use_of}
use Rattle.msi_changes.proofs.InsertLaw.{keys_are}
use Rattle.msi_changes.proofs.DistinctKeys.{neither}
use Rattle.std.proofs.lemmas.Bool.{and_parts}
use Rattle.msi_changes.proofs.RowUses.{IsWhole, cells_left, row_stays, row_uses}
use Rattle.msi_changes.proofs.TurnUses.{All-head, list_stays, uses_all}
use Rattle.msi_changes.proofs.UsesKept.{are_whole, have_uses, uses_kept}

-- the cells of rows
abbrev cells_in : List Row → Row
cells_in rows = flat_map (λ row. row) rows

uses_joined : (rows : List Row) (n : ℕ) → row_uses (cells_in rows) n ≡ uses_all row_uses rows n
uses_joined [] n = refl
uses_joined (row ∷ rows) n = omega (arith, sum_by-append (λ v. use_of v n) row (cells_in rows), sum_by-cons (λ r. row_uses r n) row rows, uses_joined rows n)

all_placed : (width : ℕ) (rows : List Row) → All (IsWhole width) rows → All IsPlaced (cells_in rows)
all_placed width [] whole = λ k d within. absurd (omega (arith, within))
all_placed width (row ∷ rows) whole = All-append IsPlaced row (cells_in rows) (All-head (IsWhole width) row rows whole).placed (all_placed width rows (All-tail (IsWhole width) row rows whole))

-- ---- keys of fewer rows

module _ (kept : Row → Bool) (key : Row → List Datum) where
  still_new : (k : List Datum) (rows : List Row) → not (has_key (map key rows) k) ≡ true → not (has_key (map key (filter kept rows)) k) ≡ true
  still_new k [] h = refl
  still_new k (row ∷ rows) h = (let parts = neither (is_eq (key_cmp (key row) k)) (has_key (map key rows) k) h in on (kept row) parts.0 (still_new k rows parts.1))
    where
      on : (b : Bool) → is_eq (key_cmp (key row) k) ≡ false → not (has_key (map key (filter kept rows)) k) ≡ true → not (has_key (map key (cond b (row ∷ filter kept rows) (filter kept rows))) k) ≡ true
      on true here rest = rw here rest
      on false here rest = rest

  pub fewer_distinct : (rows : List Row) → are_distinct (map key rows) ≡ true → are_distinct (map key (filter kept rows)) ≡ true
  fewer_distinct [] h = refl
  fewer_distinct (row ∷ rows) h =
      let parts = and_parts (not (has_key (map key rows) (key row))) (are_distinct (map key rows)) h in
      on (kept row) (still_new (key row) rows parts.0) (fewer_distinct rows parts.1)
    where
      on : (b : Bool) → not (has_key (map key (filter kept rows)) (key row)) ≡ true → are_distinct (map key (filter kept rows)) ≡ true → are_distinct (map key (cond b (row ∷ filter kept rows) (filter kept rows))) ≡ true
      on true here rest = rw (here, rest) refl
      on false here rest = rest

-- ---- the law

module _ (may : Bool) (pool : Pool) (t : Table) (condition : Option Formula) (others : ℕ → ℕ) (uses : RefcountsMatchRows t.columns others pool t.rows) where
  abbrev gone : Row → Bool
  gone row = matches pool t.columns condition row

  abbrev left : List Row
  left = filter (λ row. not (gone row)) t.rows

  -- the uses of the rows that are left, and those of others
  abbrev left_uses : ℕ → ℕ
  left_uses n = uses_all row_uses left n + others n

  whole : All (IsWhole (length t.columns)) t.rows
  whole = are_whole t.columns others pool t.rows uses

  left_whole : All (IsWhole (length t.columns)) left
  left_whole = All-filter (λ row. not (gone row)) (IsWhole (length t.columns)) t.rows whole

  both_uses : HasUses pool (λ n. row_uses (cells_in (filter gone t.rows)) n + left_uses n)
  both_uses = same_uses (λ n at. omega (arith, uses_joined (filter gone t.rows) n, sum_by-filter_both gone (λ row. not (gone row)) (λ row. refl) (λ row. row_uses row n) t.rows)) (have_uses t.columns others pool t.rows uses)

  gone_taken : IfOk (all_taken_back pool (cells_in (filter gone t.rows))) (Leaves left_uses pool)
  gone_taken = cells_left pool (cells_in (filter gone t.rows)) left_uses (all_placed (length t.columns) (filter gone t.rows) (All-filter gone (IsWhole (length t.columns)) t.rows whole)) both_uses

  abbrev Left : List Row × Pool → Type 0
  Left r = LeavesRows pool t condition r × KeepsUses pool t.columns others r

  left_then : (p : Pool) → Leaves left_uses pool p → Left (left, p)
  left_then p is =
      let read : map (row_data p) left ≡ map (row_data pool) left = list_stays row_data (IsWhole (length t.columns)) row_uses (row_stays (length t.columns)) pool p left others left_whole is.1 in
      let keys : keys_of p (record t { rows = left }) ≡ map (λ row. key_values t.columns (row_data pool row)) left =
      keys_are t.columns p left ∙ ap (map (key_values t.columns)) read ∙ sym (keys_are t.columns pool left) in (
        record { rows = read; distinct = λ before. ap are_distinct keys ∙ fewer_distinct (λ row. not (gone row)) (λ row. key_values t.columns (row_data pool row)) t.rows before },
        uses_kept t.columns others pool p left left_whole is.0 (fewer_stay (λ n at some. omega (arith, some)) is.1),
      )

  pub leaves_rows : IfOk (deleted may pool t condition) Left
  leaves_rows = on (knows_condition t.columns condition && may) (all_taken_back pool (cells_in (filter gone t.rows))) gone_taken
    where
      on : (a : Bool) → (c : Result Pool Error) → IfOk c (Leaves left_uses pool) → IfOk (unless_not a InvalidInput >>= λ _. c >>= λ p. Ok (left, p)) Left
      on false c is = tt
      on true (Ok p) is = left_then p is
      on true (Err e) is = tt
