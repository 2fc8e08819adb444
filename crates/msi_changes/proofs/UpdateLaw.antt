-- An update sets its cells, and distinct keys stay distinct.
use Rattle.std.proofs.lemmas.Bool.{or_parts}
use Rattle.std.proofs.Common.{◌≡◌, ◌∙◌, ℕ, zero, suc, ◌<◌, Bool, true, false, not, List, [], ◌∷◌, map, length, refl, ap, subst, arith, Option, Some, None, Result, Ok, Err, if◌then◌else◌}
use Rattle.std.specs.Prelude.{◌||◌, ◌&&◌, bytes_eq, IfOk, option_to_list, slice_get, slice_set, unwrap_or}
use Rattle.std.specs.List.{All, list_all, list_any}
use Rattle.std.proofs.lemmas.List.Elements.{All-map}
use Rattle.std.proofs.lemmas.List.Sums.{sum_by-cons}
use Rattle.cfb_medium.specs.declared.error.Error.{Error}
use Rattle.cfb_medium.specs.declared.error.Error.TheVariants.{AlreadyExists, InvalidInput}
use Rattle.msi_texts.specs.Results.{◌>>=◌, unless_not}
use Rattle.msi_values.specs.Datum.{Datum}
use Rattle.msi_pool.specs.Pool.{Pool}
use Rattle.msi_columns.specs.Column.{Column, column_place, is_valid}
use Rattle.msi_tables.specs.Rows.{Row}
use Rattle.msi_tables.proofs.Searches.{place_below}
use Rattle.msi_tables.specs.Table.{Table, are_distinct, key_values, keys_of, row_data}
use Rattle.msi_expr.specs.Formula.{Formula}
use Rattle.msi_changes.specs.Laws.{RefcountsMatchRows, KeepsUses, SetsCells}
use Rattle.msi_changes.specs.Changes.{is_valid_set, keys_after, option_first, rows_set, sets_key, updated, values_after, values_set}
use Rattle.msi_expr.specs.Conditions.{knows_condition, matches}
use Rattle.msi_changes.proofs.CellUses.{Gives, same_uses}
use Rattle.msi_changes.proofs.InsertLaw.{keys_are}
use Rattle.std.proofs.lemmas.Bool.{and_parts}
use Rattle.msi_changes.proofs.RowUses.{IsWhole, row_uses, row_wanted, rows_give}
use Rattle.msi_changes.proofs.TurnUses.{uses_all}
use Rattle.msi_changes.proofs.UsesKept.{are_whole, have_uses, uses_kept}

-- ---- columns that are no keys

key_stays : (columns : List Column) (ds : List Datum) (i : ℕ) (d : Datum) → i < length columns → list_any (λ c. c.key) (option_to_list (slice_get columns i)) ≡ false
    → key_values columns (slice_set ds i d) ≡ key_values columns ds
key_stays [] ds i d within not_key = absurd (omega (arith, within))
key_stays (c ∷ cs) [] i d within not_key = refl
key_stays (c ∷ cs) (x ∷ xs) zero d within not_key = rw ((or_parts c.key false not_key).0) refl
key_stays (c ∷ cs) (x ∷ xs) (suc i) d within not_key = rw (key_stays cs xs i d (omega (arith, within)) not_key) refl

module _ (columns : List Column) where
  one_stays : (s : List ℕ × Datum) (ds : List Datum) → is_valid_set columns s ≡ true → list_any (λ c. c.key) (option_first (column_place columns s.0) columns) ≡ false
      → key_values columns (slice_set ds (unwrap_or (column_place columns s.0) 0) s.1) ≡ key_values columns ds
  one_stays s ds valid not_key = on (column_place columns s.0) refl valid not_key
    where
      on : (o : Option ℕ) → column_place columns s.0 ≡ o → list_any (λ c. bytes_eq c.name s.0 && is_valid c s.1) (option_first o columns) ≡ true
          → list_any (λ c. c.key) (option_first o columns) ≡ false → key_values columns (slice_set ds (unwrap_or o 0) s.1) ≡ key_values columns ds
      on None is valid not_key = absurd (cc valid)
      on (Some i) is valid not_key = key_stays columns ds i s.1 (place_below columns s.0 i is) not_key

  keys_stay : (sets : List (List ℕ × Datum)) (ds : List Datum) → list_all (is_valid_set columns) sets ≡ true → sets_key columns sets ≡ false → key_values columns (values_set columns ds sets) ≡ key_values columns ds
  keys_stay [] ds valid no_key = refl
  keys_stay (s ∷ ss) ds valid no_key =
      let are = and_parts (is_valid_set columns s) (list_all (is_valid_set columns) ss) valid in
      let not_keys = or_parts (list_any (λ c. c.key) (option_first (column_place columns s.0) columns)) (sets_key columns ss) no_key in
      keys_stay ss (slice_set ds (unwrap_or (column_place columns s.0) 0) s.1) are.1 not_keys.1 ∙ one_stays s ds are.0 not_keys.0

-- ---- the law

module _ (may : Bool) (pool : Pool) (t : Table) (sets : List (List ℕ × Datum)) (condition : Option Formula) (others : ℕ → ℕ) (uses : RefcountsMatchRows t.columns others pool t.rows) where
  -- a row with whether it matches
  abbrev seen : Row → Row × Bool
  seen row = (row, matches pool t.columns condition row)

  seen_uses : (rows : List Row) (n : ℕ) → uses_all (λ r. row_uses r.0) (map seen rows) n ≡ uses_all row_uses rows n
  seen_uses [] n = refl
  seen_uses (row ∷ rows) n = omega (arith, sum_by-cons (λ (r : Row × Bool). row_uses r.0 n) (seen row) (map seen rows), sum_by-cons (λ r. row_uses r n) row rows, seen_uses rows n)

  abbrev Given : List Row × Pool → Type 0
  Given r = Gives (λ q rows. map (row_data q) rows) (All (IsWhole (length t.columns))) (uses_all row_uses) others pool (map (values_after pool t.columns sets condition) t.rows) r

  module _ (valid : list_all (is_valid_set t.columns) sets ≡ true) where
    seen_wanted : (rows : List Row) → map (row_wanted t.columns sets valid pool) (map seen rows) ≡ map (values_after pool t.columns sets condition) rows
    seen_wanted [] = refl
    seen_wanted (row ∷ rows) = ap (λ rs. values_after pool t.columns sets condition row ∷ rs) (seen_wanted rows)

    rows_given : IfOk (rows_set t.columns pool sets (map seen t.rows)) Given
    rows_given =
        let P : List (List Datum) → Type 0 =
        λ wanted. IfOk (rows_set t.columns pool sets (map seen t.rows)) (λ r. Gives (λ q rows. map (row_data q) rows) (All (IsWhole (length t.columns))) (uses_all row_uses) others pool wanted r) in
        subst P (seen_wanted t.rows)
        (rows_give t.columns sets valid pool (map seen t.rows) others
        (All-map (λ r. IsWhole (length t.columns) r.0) seen t.rows (are_whole t.columns others pool t.rows uses))
        (same_uses (λ n at. (let same = seen_uses t.rows n in omega (arith, same))) (have_uses t.columns others pool t.rows uses)))

    keys_now : (r : List Row × Pool) → Given r → keys_of r.1 (record t { rows = r.0 }) ≡ keys_after pool t sets condition
    keys_now r g = keys_are t.columns r.1 r.0 ∙ ap (map (key_values t.columns)) g.reads ∙ joined t.rows
      where
        joined : (rows : List Row) → map (key_values t.columns) (map (values_after pool t.columns sets condition) rows) ≡ map (λ row. key_values t.columns (values_after pool t.columns sets condition row)) rows
        joined [] = refl
        joined (row ∷ rows) = ap (λ ks. key_values t.columns (values_after pool t.columns sets condition row) ∷ ks) (joined rows)

    keys_as_before : sets_key t.columns sets ≡ false → (rows : List Row) → map (λ row. key_values t.columns (values_after pool t.columns sets condition row)) rows ≡ map (λ row. key_values t.columns (row_data pool row)) rows
    keys_as_before no_key [] = refl
    keys_as_before no_key (row ∷ rows) = rw (on (matches pool t.columns condition row), keys_as_before no_key rows) refl
      where
        on : (b : Bool) → key_values t.columns (if b then values_set t.columns (row_data pool row) sets else row_data pool row) ≡ key_values t.columns (row_data pool row)
        on true = keys_stay t.columns sets (row_data pool row) valid no_key
        on false = refl

    distinct_now : (not (sets_key t.columns sets) || are_distinct (keys_after pool t sets condition)) ≡ true → (sets_key t.columns sets || are_distinct (keys_of pool t)) ≡ true
        → are_distinct (keys_after pool t sets condition) ≡ true
    distinct_now judged before = on (sets_key t.columns sets) refl judged before
      where
        on : (b : Bool) → sets_key t.columns sets ≡ b → (not b || are_distinct (keys_after pool t sets condition)) ≡ true → (b || are_distinct (keys_of pool t)) ≡ true
            → are_distinct (keys_after pool t sets condition) ≡ true
        on true is judged before = judged
        on false is judged before = rw (keys_as_before is t.rows) before

    answered : (not (sets_key t.columns sets) || are_distinct (keys_after pool t sets condition)) ≡ true → (c : Result (List Row × Pool) Error) → IfOk c Given
        → IfOk c (λ r. SetsCells pool t sets condition r × KeepsUses pool t.columns others r)
    answered judged (Ok r) g =
        (record { rows = g.reads; distinct = λ before. ap are_distinct (keys_now r g) ∙ distinct_now judged before }, uses_kept t.columns others pool r.1 r.0 g.fine g.counts g.stays)
    answered judged (Err e) g = tt

  pub sets_cells : IfOk (updated may pool t sets condition) (λ r. SetsCells pool t sets condition r × KeepsUses pool t.columns others r)
  sets_cells =
      on (list_all (is_valid_set t.columns) sets && knows_condition t.columns condition && may) refl (not (sets_key t.columns sets) || are_distinct (keys_after pool t sets condition)) refl
    where
      go : (v : Bool) → (v && knows_condition t.columns condition && may) ≡ true → v ≡ true
      go v is = (and_parts v (knows_condition t.columns condition) (and_parts (v && knows_condition t.columns condition) may is).0).0

      on : (a : Bool) → (list_all (is_valid_set t.columns) sets && knows_condition t.columns condition && may) ≡ a
          → (b : Bool) → (not (sets_key t.columns sets) || are_distinct (keys_after pool t sets condition)) ≡ b
          → IfOk (unless_not a InvalidInput >>= λ _. unless_not b AlreadyExists >>= λ _. rows_set t.columns pool sets (map seen t.rows)) (λ r. SetsCells pool t sets condition r × KeepsUses pool t.columns others r)
      on false is b judged = tt
      on true is false judged = tt
      on true is true judged = (let valid = go (list_all (is_valid_set t.columns) sets) is in answered valid judged (rows_set t.columns pool sets (map seen t.rows)) (rows_given valid))
