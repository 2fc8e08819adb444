-- Rows that are grouped by a value have all pairs.
use Rattle.std.proofs.Common.{◌≡◌, ◌∙◌, ℕ, suc, ◌+◌, ◌-◌, ◌<◌, ◌≤◌, Bool, true, false, cond, List, [], ◌∷◌, ◌++◌, filter, length, drop, get_or, refl, sym, ap, ap₂, Option, Some, None, Vec, arith, add-one, drop-cons, append_assoc}
use Rattle.std.specs.Prelude.{bytes_eq, option_map, if◌then◌else◌}
use Rattle.std.specs.BTreeMap.{get, is_at}
use Rattle.std.specs.Borrow.{Bor}
use Rattle.std.specs.Ordering.{is_eq, ordering_reverse}
use Rattle.std.specs.declared.alloc.Global.{Global}
use Rattle.std.specs.declared.cmp.Ordering.{Ordering}
use Rattle.std.specs.declared.cmp.Ordering.TheVariants.{Less, Equal, Greater}
use Rattle.std.proofs.lemmas.List.{get_or-append-add, get_or_append_left, length-map, map-append}
use Rattle.msi_values.specs.Datum.{Datum, null, counts_as_true, datum_cmp, truth}
use Rattle.msi_values.specs.Borrowed.{borrowed_datum}
use Rattle.msi_values.specs.declared.borrowed.BorrowedValue.{BorrowedValue}
use Rattle.msi_values.specs.contracts.borrowed.BorrowedValueOrd.TheImpl.{ghosts as order}
use Rattle.msi_values.proofs.BorrowedOrder.{derived_order}
use Rattle.msi_pool.specs.Pool.{Pool}
use Rattle.msi_pool.specs.declared.stringref.ValueRef.{ValueRef}
use Rattle.msi_pool.specs.Refs.{value_at}
use Rattle.msi_columns.specs.Column.{Column, column_place}
use Rattle.msi_tables.specs.Held.{rows_held}
use Rattle.msi_tables.specs.Row.{cell_named, named_cells}
use Rattle.msi_tables.specs.Rows.{Row}
use Rattle.msi_tables.specs.Table.{row_data}
use Rattle.msi_tables.proofs.Keys.{datum_cmp_total}
use Rattle.msi_tables.proofs.Searches.{position_cons}
use Rattle.msi_expr.specs.Formula.{Formula, literal, column, unary, two, both, either, column_name, equated_in, is_equality, or_null, pair_of, value_of_formula}
use Rattle.msi_expr.specs.Conditions.{matches}
use Rattle.msi_expr.specs.declared.operators.BinOp.{BinOp}
use Rattle.msi_expr.specs.declared.operators.BinOp.TheVariants as binary_op
use Rattle.msi_query.specs.Grouped.{AreGrouped, Groups, IsEquation, RightRowsAreGrouped, group_rows, has_value, rows_lent, rows_with, value_in}
use Rattle.msi_query.specs.Query.{pairs_with}
use Rattle.msi_values.proofs.DataOrder.{is_equal, turned_equal}

-- ---- equations

-- two values are equal from either side
either_side : (x y : Datum) → is_eq (datum_cmp x y) ≡ is_eq (datum_cmp y x)
either_side x y = ap is_eq (datum_cmp_total.antisymm x y) ∙ turned_equal (datum_cmp y x)

is_itself : (x : Datum) → is_eq (datum_cmp x x) ≡ true
is_itself x = on (datum_cmp x x) (datum_cmp_total.antisymm x x)
  where
    on : (o : Ordering) → o ≡ ordering_reverse o → is_eq o ≡ true
    on Less h = absurd (cc h)
    on Equal h = refl
    on Greater h = absurd (cc h)

counted_truth : (b : Bool) → counts_as_true (truth b) ≡ b
counted_truth true = refl
counted_truth false = refl

named : (f : Formula) (a : List ℕ) → column_name f ≡ Some a → f ≡ column a
named (column name) a is = let same : name ≡ a = cc is in ap column same
named (literal d) a is = absurd (cc is)
named (unary o x) a is = absurd (cc is)
named (two o x y) a is = absurd (cc is)
named (both x y) a is = absurd (cc is)
named (either x y) a is = absurd (cc is)

equality : (o : BinOp) → is_equality o ≡ true → o ≡ binary_op.Eq
equality binary_op.Eq is = refl
equality binary_op.Ne is = absurd (cc is)
equality binary_op.Lt is = absurd (cc is)
equality binary_op.Le is = absurd (cc is)
equality binary_op.Gt is = absurd (cc is)
equality binary_op.Ge is = absurd (cc is)
equality binary_op.Add is = absurd (cc is)
equality binary_op.Sub is = absurd (cc is)
equality binary_op.Mul is = absurd (cc is)
equality binary_op.Div is = absurd (cc is)
equality binary_op.BitAnd is = absurd (cc is)
equality binary_op.BitOr is = absurd (cc is)
equality binary_op.BitXor is = absurd (cc is)
equality binary_op.Shl is = absurd (cc is)
equality binary_op.Shr is = absurd (cc is)

equated : (on : Formula) (a b : List ℕ) → equated_in on ≡ Some (a, b) → on ≡ two binary_op.Eq (column a) (column b)
equated (two o x y) a b is = go (is_equality o) refl (column_name x) refl (column_name y) refl is
  where
    front : Option (List ℕ × List ℕ) → List ℕ
    front None = []
    front (Some p) = p.0

    back : Option (List ℕ × List ℕ) → List ℕ
    back None = []
    back (Some p) = p.1

    go : (e : Bool) → is_equality o ≡ e → (p : Option (List ℕ)) → column_name x ≡ p → (q : Option (List ℕ)) → column_name y ≡ q → (if e then pair_of p q else None) ≡ Some (a, b) → two o x y ≡ two binary_op.Eq (column a) (column b)
    go false eq p one q other h = absurd (cc h)
    go true eq None one q other h = absurd (cc h)
    go true eq (Some s) one None other h = absurd (cc h)
    go true eq (Some s) one (Some t) other h =
        let first : s ≡ a = ap front h in
        let second : t ≡ b = ap back h in
        rw (equality o eq, named x s one, named y t other, first, second) refl
equated (literal d) a b is = absurd (cc is)
equated (column name) a b is = absurd (cc is)
equated (unary o x) a b is = absurd (cc is)
equated (both x y) a b is = absurd (cc is)
equated (either x y) a b is = absurd (cc is)

-- the value of the column that stands at a place
named_at : (name : List ℕ) (columns : List Column) (ds : List Datum) (i : ℕ) → column_place columns name ≡ Some i → or_null (cell_named name (named_cells columns ds)) ≡ get_or ds i null
named_at name [] ds i is = absurd (cc is)
named_at name (c ∷ cs) [] i is = refl
named_at name (c ∷ cs) (d ∷ ds) i is = go (bytes_eq c.name name) (named_at name cs ds) i (sym (position_cons (λ c. bytes_eq c.name name) c cs) ∙ is)
  where
    later : (o : Option ℕ) (i : ℕ) → column_place cs name ≡ o → option_map (λ n. suc n) o ≡ Some i → ((j : ℕ) → column_place cs name ≡ Some j → or_null (cell_named name (named_cells cs ds)) ≡ get_or ds j null) → or_null (cell_named name (named_cells cs ds)) ≡ get_or (d ∷ ds) i null
    later None i place is ih = absurd (cc is)
    later (Some j) i place is ih = let same : suc j ≡ i = cc is in ih j place ∙ ap (λ n. get_or (d ∷ ds) n null) same

    go : (b : Bool) → ((j : ℕ) → column_place cs name ≡ Some j → or_null (cell_named name (named_cells cs ds)) ≡ get_or ds j null) → (i : ℕ) → cond b (Some 0) (option_map (λ n. suc n) (column_place cs name)) ≡ Some i
        → or_null (cond b (Some d) (cell_named name (named_cells cs ds))) ≡ get_or (d ∷ ds) i null
    go true ih i is = let same : 0 ≡ i = cc is in ap (λ n. get_or (d ∷ ds) n null) same
    go false ih i is = later (column_place cs name) i refl is ih

decided : (columns : List Column) (on : Formula) (a b : List ℕ) (i j : ℕ) → equated_in on ≡ Some (a, b) → column_place columns a ≡ Some i → column_place columns b ≡ Some j
    → (pool : Pool) (row : Row) → matches pool columns (Some on) row ≡ is_eq (datum_cmp (value_in pool row i) (value_in pool row j))
decided columns on a b i j is one other pool row =
    let cells = named_cells columns (row_data pool row) in
    ap (λ f. counts_as_true (value_of_formula cells f)) (equated on a b is)
    ∙ counted_truth (is_eq (datum_cmp (or_null (cell_named a cells)) (or_null (cell_named b cells))))
    ∙ ap₂ (λ x y. is_eq (datum_cmp x y)) (named_at a columns (row_data pool row) i one) (named_at b columns (row_data pool row) j other)

module _ (columns : List Column) (on : Formula) (a b : List ℕ) (i j width : ℕ) (is : equated_in on ≡ Some (a, b)) (one : column_place columns a ≡ Some i) (other : column_place columns b ≡ Some j) where
  pub first_is_left : i < width → width ≤ j → IsEquation columns on width i (j - width)
  first_is_left low high =
      let there : width + (j - width) ≡ j = omega (arith, high) in
      record { inside = low; decides = λ pool row. decided columns on a b i j is one other pool row ∙ ap (λ n. is_eq (datum_cmp (value_in pool row i) (value_in pool row n))) (sym there) }

  pub second_is_left : j < width → width ≤ i → IsEquation columns on width j (i - width)
  second_is_left low high =
      let there : width + (i - width) ≡ i = omega (arith, high) in
      record {
        inside = low;
        decides = λ pool row. decided columns on a b i j is one other pool row ∙ either_side (value_in pool row i) (value_in pool row j) ∙ ap (λ n. is_eq (datum_cmp (value_in pool row j) (value_in pool row n))) (sym there);
      }

-- ---- pairs

module _ (pool : Pool) (columns : List Column) (on : Formula) (width place right : ℕ) (is : IsEquation columns on width place right) (left : Row) (whole : length left ≡ width) where
  pair_decided : (r : Row) → matches pool columns (Some on) (left ++ r) ≡ has_value pool right (value_in pool left place) r
  pair_decided r =
      let size : length (row_data pool left) ≡ width = length-map left (value_at pool) ∙ whole in
      let joined : row_data pool (left ++ r) ≡ row_data pool left ++ row_data pool r = map-append (value_at pool) left r in
      let low : place < length (row_data pool left) = omega (arith, size, is.inside) in
      let first : value_in pool (left ++ r) place ≡ value_in pool left place = ap (λ ds. get_or ds place null) joined ∙ get_or_append_left (row_data pool left) (row_data pool r) null place low in
      let second : value_in pool (left ++ r) (width + right) ≡ value_in pool r right =
      ap (λ ds. get_or ds (width + right) null) joined ∙ ap (λ n. get_or (row_data pool left ++ row_data pool r) (n + right) null) (sym size) ∙ get_or-append-add (row_data pool left) (row_data pool r) right null in
      is.decides pool (left ++ r) ∙ ap₂ (λ x y. is_eq (datum_cmp x y)) first second

  same_pairs : (rows : List Row) → pairs_with pool columns on (filter (has_value pool right (value_in pool left place)) rows) left ≡ pairs_with pool columns on rows left
  same_pairs [] = refl
  same_pairs (r ∷ rs) = go (has_value pool right (value_in pool left place) r) (pair_decided r) (same_pairs rs)
    where
      go : (b : Bool) → matches pool columns (Some on) (left ++ r) ≡ b → pairs_with pool columns on (filter (has_value pool right (value_in pool left place)) rs) left ≡ pairs_with pool columns on rs left
          → pairs_with pool columns on (cond b (r ∷ filter (has_value pool right (value_in pool left place)) rs) (filter (has_value pool right (value_in pool left place)) rs)) left ≡ pairs_with pool columns on (r ∷ rs) left
      go true e rest = ap (λ ps. cond (matches pool columns (Some on) (left ++ r)) ((left ++ r) ∷ ps) ps) rest
      go false e rest = rest ∙ ap (λ b. cond b ((left ++ r) ∷ pairs_with pool columns on rs left) (pairs_with pool columns on rs left)) (sym e)

  pub found_pairs : (rows found : List Row) (groups : Groups) (value : BorrowedValue) → AreGrouped pool right rows groups → borrowed_datum value ≡ value_in pool left place → found ≡ rows_with groups value
      → pairs_with pool columns on found left ≡ pairs_with pool columns on rows left
  found_pairs rows found groups value grouped said given =
      ap (λ rs. pairs_with pool columns on rs left) (given ∙ grouped value ∙ ap (λ d. filter (has_value pool right d) rows) said) ∙ same_pairs rows

pub indexed_pairs : (pool : Pool) (columns : List Column) (on : Formula) (width place : ℕ) (left : Row) (rows found : List Row) (groups : Groups) (value : BorrowedValue) → length left ≡ width
    → borrowed_datum value ≡ value_in pool left place → found ≡ rows_with groups value → RightRowsAreGrouped pool columns on width rows (Some (place, groups)) → pairs_with pool columns on found left ≡ pairs_with pool columns on rows left
indexed_pairs pool columns on width place left rows found groups value whole said given index =
    found_pairs pool columns on width place index.0 index.1 left whole rows found groups value index.2 said given

-- ---- groups

-- the rows with a value so far, and those to come
abbrev pub AddsUp : Pool → ℕ → List (Vec ValueRef Global) → List (Vec ValueRef Global) → Groups → Type 0
AddsUp pool place rest rows groups = (value : BorrowedValue) → rows_with groups value ++ filter (has_value pool place (borrowed_datum value)) (rows_held rest) ≡ filter (has_value pool place (borrowed_datum value)) (rows_held rows)

at_equal : (x y : BorrowedValue) → is_at (order.cmp x) y ≡ is_eq (datum_cmp (borrowed_datum x) (borrowed_datum y))
at_equal x y = ap is_eq (derived_order x y)

module _ (pool : Pool) (place : ℕ) (rows : List (Vec ValueRef Global)) (i : ℕ) (row : Vec ValueRef Global) (within : i < length rows) (is : row ≡ get_or rows i row)
    (key : BorrowedValue) (said : borrowed_datum key ≡ value_in pool row.items place) where
  split : drop i rows ≡ row ∷ drop (i + 1) rows
  split = rw add-one (drop-cons rows i row within ∙ ap (λ y. y ∷ drop (suc i) rows) (sym is))

  abbrev rest : List Row
  rest = rows_held (drop (i + 1) rows)

  -- the row has the value that it is grouped by
  own : has_value pool place (borrowed_datum key) row.items ≡ true
  own = ap (λ d. is_eq (datum_cmp (borrowed_datum key) d)) (sym said) ∙ is_itself (borrowed_datum key)

  -- the rows with this value and with one that is equal are the same
  alike : (value : BorrowedValue) → is_eq (datum_cmp (borrowed_datum key) (borrowed_datum value)) ≡ true → has_value pool place (borrowed_datum value) ≡ has_value pool place (borrowed_datum key)
  alike value same = λ k r. ap is_eq (sym (datum_cmp_total.congr (borrowed_datum key) (borrowed_datum value) (value_in pool r place) (is_equal _ same))) k

  pub one_more : (old taken new : Groups) (group : Vec (Bor Row) Global) → ((q : BorrowedValue) → get order.cmp taken q ≡ cond (is_at (order.cmp key) q) None (get order.cmp old q))
      → ((q : BorrowedValue) → get order.cmp new q ≡ cond (is_at (order.cmp key) q) (Some group) (get order.cmp taken q)) → rows_lent group.items ≡ rows_with old key ++ row.items ∷ []
      → AddsUp pool place (drop i rows) rows old → AddsUp pool place (drop (i + 1) rows) rows new
  one_more old taken new group out put has sums value = go (is_at (order.cmp key) value) refl
    where
      test : Row → Bool
      test = has_value pool place (borrowed_datum value)

      go : (b : Bool) → is_at (order.cmp key) value ≡ b → rows_with new value ++ filter (has_value pool place (borrowed_datum value)) rest ≡ filter (has_value pool place (borrowed_datum value)) (rows_held rows)
      go true e =
          let same : has_value pool place (borrowed_datum value) ≡ has_value pool place (borrowed_datum key) = alike value (sym (at_equal key value) ∙ e) in
          let found : rows_with new value ≡ rows_with old key ++ row.items ∷ [] = ap group_rows (put value ∙ ap (λ b. cond b (Some group) (get order.cmp taken value)) e) ∙ has in
          let all : rows_with old key ++ filter (has_value pool place (borrowed_datum key)) (row.items ∷ rest) ≡ filter (has_value pool place (borrowed_datum key)) (rows_held rows) =
          ap (λ rs. rows_with old key ++ filter (has_value pool place (borrowed_datum key)) (rows_held rs)) (sym split) ∙ sums key in
          ap₂ (λ rs p. rs ++ filter p rest) found same
          ∙ append_assoc (rows_with old key) (row.items ∷ []) (filter (has_value pool place (borrowed_datum key)) rest)
          ∙ ap (λ b. rows_with old key ++ cond b (row.items ∷ filter (has_value pool place (borrowed_datum key)) rest) (filter (has_value pool place (borrowed_datum key)) rest)) (sym own)
          ∙ all ∙ ap (λ p. filter p (rows_held rows)) (sym same)
      go false e =
          let found : rows_with new value ≡ rows_with old value =
          ap group_rows (put value ∙ ap (λ b. cond b (Some group) (get order.cmp taken value)) e ∙ out value ∙ ap (λ b. cond b None (get order.cmp old value)) e) in
          let other : has_value pool place (borrowed_datum value) row.items ≡ false =
          ap (λ d. is_eq (datum_cmp (borrowed_datum value) d)) (sym said) ∙ either_side (borrowed_datum value) (borrowed_datum key) ∙ sym (at_equal key value) ∙ e in
          let all : rows_with old value ++ filter (has_value pool place (borrowed_datum value)) (row.items ∷ rest) ≡ filter (has_value pool place (borrowed_datum value)) (rows_held rows) =
          ap (λ rs. rows_with old value ++ filter (has_value pool place (borrowed_datum value)) (rows_held rs)) (sym split) ∙ sums value in
          ap (λ rs. rs ++ filter (has_value pool place (borrowed_datum value)) rest) found
          ∙ ap (λ b. rows_with old value ++ cond b (row.items ∷ filter (has_value pool place (borrowed_datum value)) rest) (filter (has_value pool place (borrowed_datum value)) rest)) (sym other)
          ∙ all
