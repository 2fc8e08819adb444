-- An insert of rows in two parts: that of the first part, and that of the second into the table that it leaves.
use Rattle.std.proofs.Common.{◌≡◌, ◌∙◌, ℕ, ◌+◌, ◌≤◌, Bool, true, false, not, List, [], ◌++◌, map, length, refl, sym, ap, subst, arith, append_assoc, Result, Ok, Err}
use Rattle.std.specs.Prelude.{filter, nat_le, IfOk, ◌&&◌}
use Rattle.std.specs.declared.cmp.Ordering.{Ordering}
use Rattle.std.specs.declared.cmp.Ordering.TheVariants.{Less, Equal, Greater}
use Rattle.std.specs.Cmp.Lexicographic.{lists_total}
use Rattle.std.specs.List.{list_all}
use Rattle.std.specs.List.Sorted.{IsPermutation, ties}
use Rattle.std.specs.Ordering.{is_eq, is_lt, ordering_reverse}
use Rattle.std.proofs.lemmas.Bool.{and_parts}
use Rattle.std.proofs.lemmas.Bool.Decides.{nat_tests}
use Rattle.std.proofs.lemmas.List.{length-map, length-append, map-append}
use Rattle.std.proofs.lemmas.List.Elements.{filter-append}
use Rattle.std.proofs.lemmas.List.Folds.{list_all-append}
use Rattle.std.proofs.lemmas.List.Sums.{AllPass-from_list_all, list_all-from_AllPass}
use Rattle.std.proofs.lemmas.List.Sorted.{length_permutation, All-permutation, IsPermutation-map, IsPermutation-trans}
use Rattle.cfb_medium.specs.declared.error.Error.{Error}
use Rattle.cfb_medium.specs.declared.error.Error.TheVariants.{InvalidData, InvalidInput}
use Rattle.msi_texts.specs.Results.{◌>>=◌, unless_not}
use Rattle.msi_values.specs.Datum.{Datum}
use Rattle.msi_pool.specs.Pool.{Pool}
use Rattle.msi_columns.specs.Column.{Column, are_valid}
use Rattle.msi_tables.specs.Rows.{Row, max_rows, row_cmp}
use Rattle.msi_tables.specs.Table.{IsStoredByKeys, Table, are_distinct, key_cmp, key_values, keys_of, row_data, row_key_cmp}
use Rattle.msi_tables.proofs.Arranged.{moved}
use Rattle.msi_tables.proofs.Keys.{datum_cmp_total, key_order}
use Rattle.msi_tables.proofs.Stored.{stored_order}
use Rattle.msi_changes.specs.Changes.{inserted, new_keys, row_counted, rows_counted}
use Rattle.msi_changes.specs.Laws.{RowsAreCounted}
use Rattle.msi_changes.proofs.Arrangements.{by_keys_alike}
use Rattle.msi_changes.proofs.DistinctKeys.{distinct_behind, passed}
use Rattle.msi_changes.proofs.InsertLaw.{keys_are}
use Rattle.msi_changes.proofs.InsertedRows.{Keeps, row_ok, rows_given, rows_stay}
use Rattle.msi_joined.proofs.InTurn.{parted}
use Rattle.msi_joined.proofs.KeysApart.{apart, new_to_moved, pass_first}
use Rattle.msi_joined.proofs.Passing.{pass_alike}
use Rattle.msi_joined.proofs.Sorting.{arranged}

-- what holds of an accepted result
pub of_ok : {A : Type 0} (r : Result A Error) (Has : A → Type 0) (x : A) → r ≡ Ok x → IfOk r Has → Has x
of_ok (Ok y) Has x is h = (let same : y ≡ x = grind (arith, is) in subst Has same h)
of_ok (Err e) Has x is h = absurd (cc)

-- ---- what is judged of an insert that is done

pub record Judged (may : Bool) (pool : Pool) (t : Table) (new_rows : List (List Datum)) (all : List Row × Pool) : Type 0 where
  pub valid : list_all (are_valid t.columns) new_rows ≡ true
  pub distinct : are_distinct (keys_of pool t) ≡ true
  pub fresh : new_keys (keys_of pool t) [] (map (key_values t.columns) new_rows) ≡ Ok tt
  pub allowed : may ≡ true
  pub few : nat_le (length t.rows + length new_rows) max_rows ≡ true
  pub made : List Row × Pool
  pub counted : rows_counted pool new_rows ≡ Ok made
  pub is : (t.rows ++ made.0, made.1) ≡ all

module _ (may : Bool) (pool : Pool) (t : Table) (new_rows : List (List Datum)) where
  judged_so : (all : List Row × Pool) (v d m few : Bool) (k : Result (Unit {0}) Error) (c : Result (List Row × Pool) Error) → list_all (are_valid t.columns) new_rows ≡ v → are_distinct (keys_of pool t) ≡ d
      → may ≡ m → nat_le (length t.rows + length new_rows) max_rows ≡ few → new_keys (keys_of pool t) [] (map (key_values t.columns) new_rows) ≡ k → rows_counted pool new_rows ≡ c
      → (unless_not v InvalidInput >>= λ _. unless_not d InvalidData >>= λ _. k >>= λ _. unless_not m InvalidInput >>= λ _. unless_not few InvalidInput >>= λ _. c >>= λ r. Ok (t.rows ++ r.0, r.1)) ≡ Ok all → Judged may pool t new_rows all
  judged_so all false d m few k c is_v is_d is_m is_few is_k is_c is = absurd (cc is)
  judged_so all true false m few k c is_v is_d is_m is_few is_k is_c is = absurd (cc is)
  judged_so all true true m few (Err e) c is_v is_d is_m is_few is_k is_c is = absurd (cc is)
  judged_so all true true false few (Ok u) c is_v is_d is_m is_few is_k is_c is = absurd (cc is)
  judged_so all true true true false (Ok u) c is_v is_d is_m is_few is_k is_c is = absurd (cc is)
  judged_so all true true true true (Ok u) (Err e) is_v is_d is_m is_few is_k is_c is = absurd (cc is)
  judged_so all true true true true (Ok u) (Ok r) is_v is_d is_m is_few is_k is_c is = record { valid = is_v; distinct = is_d; fresh = is_k; allowed = is_m; few = is_few; made = r; counted = is_c; is = cc is }

  pub judged : (all : List Row × Pool) → inserted may pool t new_rows ≡ Ok all → Judged may pool t new_rows all
  judged all is = judged_so all _ _ _ _ _ _ refl refl refl refl refl refl is

  pub done : (made : List Row × Pool) → list_all (are_valid t.columns) new_rows ≡ true → are_distinct (keys_of pool t) ≡ true → new_keys (keys_of pool t) [] (map (key_values t.columns) new_rows) ≡ Ok tt
      → may ≡ true → nat_le (length t.rows + length new_rows) max_rows ≡ true → rows_counted pool new_rows ≡ Ok made → inserted may pool t new_rows ≡ Ok (t.rows ++ made.0, made.1)
  done made a b c d e f = rw (a, b, c, d, e, f) refl

-- ---- keys of rows

abbrev key_of : Pool → List Column → Row → List Datum
key_of pool columns row = key_values columns (row_data pool row)

-- those of rows under a pool under which they are read alike
keys_stay : (columns : List Column) (p q : Pool) (rows : List Row) → map (row_data q) rows ≡ map (row_data p) rows → map (key_of q columns) rows ≡ map (key_of p columns) rows
keys_stay columns p q rows stay = keys_are columns q rows ∙ ap (map (key_values columns)) stay ∙ sym (keys_are columns p rows)

-- with new rows behind them
keys_behind : (columns : List Column) (p q : Pool) (rows new : List Row) (values : List (List Datum)) → map (row_data q) rows ≡ map (row_data p) rows → map (row_data q) new ≡ values
    → map (key_of q columns) (rows ++ new) ≡ map (key_of p columns) rows ++ map (key_values columns) values
keys_behind columns p q rows new values stay are =
    let front : map (key_of q columns) rows ≡ map (key_of p columns) rows = keys_stay columns p q rows stay in
    let back : map (key_of q columns) new ≡ map (key_values columns) values = keys_are columns q new ∙ ap (map (key_values columns)) are in
    map-append (key_of q columns) rows new ∙ ap (λ ks. ks ++ map (key_of q columns) new) front ∙ ap (λ ks. map (key_of p columns) rows ++ ks) back

-- what ties with one key is equal
module _ (pool : Pool) (columns : List Column) (z : Row) where
  abbrev is_tied : Row → Bool
  is_tied = ties (λ x y. is_lt (row_key_cmp pool columns x y)) z

  is_equal : (o : Ordering) → is_eq o ≡ true → o ≡ Equal
  is_equal Equal h = refl
  is_equal Less h = absurd (cc h)
  is_equal Greater h = absurd (cc h)

  tied_key : (x : Row) → is_tied x ≡ true → key_cmp (key_of pool columns z) (key_of pool columns x) ≡ Equal
  tied_key x h = on (key_cmp (key_of pool columns z) (key_of pool columns x)) (key_cmp (key_of pool columns x) (key_of pool columns z)) ((lists_total datum_cmp_total).antisymm (key_of pool columns x) (key_of pool columns z)) h
    where
      on : (o q : Ordering) → q ≡ ordering_reverse o → (not (is_lt o) && not (is_lt q)) ≡ true → o ≡ Equal
      on Equal q is h = refl
      on Less q is h = absurd (cc h)
      on Greater q is h = absurd (let e : q ≡ Less = is in let f = (rw e at h) in cc f)

  pub tied_once : (x y : Row) → is_tied x ≡ true → is_tied y ≡ true → is_eq (key_cmp (key_of pool columns y) (key_of pool columns x)) ≡ true
  tied_once x y a b = ap is_eq (sym ((lists_total datum_cmp_total).congr (key_of pool columns z) (key_of pool columns y) (key_of pool columns x) (tied_key y b)) ∙ tied_key x a)

-- rows with distinct keys are stored alike with others behind them, in whichever order they stand
arranged_alike : (pool : Pool) (columns : List Column) (rows moved_rows behind stored : List Row) → are_distinct (map (key_of pool columns) rows) ≡ true → IsPermutation rows moved_rows
    → IsStoredByKeys pool columns (rows ++ behind) stored → IsStoredByKeys pool columns (moved_rows ++ behind) stored
arranged_alike pool columns rows moved_rows behind stored distinct moves by_keys = (
  by_keys.0,
  record {
    sorted = by_keys.1.sorted;
    stable = λ z.
        let tied = is_tied pool columns z in
        by_keys.1.stable z ∙ filter-append tied rows behind
        ∙ ap (λ l. l ++ filter tied behind) (sym (pass_alike tied (key_of pool columns) (tied_once pool columns z) z rows moved_rows distinct moves))
        ∙ sym (filter-append tied moved_rows behind);
  },
  by_keys.2,
)

-- ---- the two inserts

pub record Split (may : Bool) (pool : Pool) (t : Table) (front back : List (List Datum)) (last : Pool) (stored : List Row) : Type 0 where
  pub first : List Row
  pub mid : Pool
  pub in_first : inserted may pool t front ≡ Ok (t.rows ++ first, mid)
  pub between : List Row
  pub is_between : IsStoredByKeys mid t.columns (t.rows ++ first) between
  pub counted : RowsAreCounted mid between
  pub second : List Row
  pub in_second : inserted may mid (record t { rows = between }) back ≡ Ok (between ++ second, last)
  pub at_last : IsStoredByKeys last t.columns (between ++ second) stored

module _ (may : Bool) (pool : Pool) (t : Table) (front back : List (List Datum)) (is_counted : RowsAreCounted pool t.rows) where
  abbrev values_key : List Datum → List Datum
  values_key = key_values t.columns

  split_so : (all : List Row × Pool) → Judged may pool t (front ++ back) all → (stored : List Row) → IsStoredByKeys all.1 t.columns all.0 stored → Split may pool t front back all.1 stored
  split_so all j stored by_keys =
      let K = keys_of pool t in
      let columns = t.columns in
      let parts = parted row_counted pool front back j.made j.counted in
      let rows = t.rows ++ parts.first in
      let last = j.made.1 in
      let valid = and_parts (list_all (are_valid columns) front) (list_all (are_valid columns) back) (sym (list_all-append (are_valid columns) front back) ∙ j.valid) in
      let new = passed K [] (map values_key (front ++ back)) j.fresh in
      let whole : are_distinct ((K ++ map values_key front) ++ map values_key back) ≡ true =
      ap are_distinct (append_assoc K (map values_key front) (map values_key back) ∙ ap (λ ks. K ++ ks) (sym (map-append values_key front back)))
      ∙ distinct_behind K (map values_key (front ++ back)) j.distinct new.0 new.2 in
      let one = apart (K ++ map values_key front) (map values_key back) whole in
      let two = apart K (map values_key front) one.0 in
      let sizes = length-append front back in
      let given = of_ok (rows_counted pool front) (λ r. Keeps pool r.1 × (map (row_data r.1) r.0 ≡ front) × (list_all (row_ok r.1) r.0 ≡ true)) (parts.first, parts.mid) parts.in_first (rows_given pool front) in
      let later = of_ok (rows_counted parts.mid back) (λ r. Keeps parts.mid r.1 × (map (row_data r.1) r.0 ≡ back) × (list_all (row_ok r.1) r.0 ≡ true)) (parts.second, last) parts.in_second (rows_given parts.mid back) in
      let stay = rows_stay pool parts.mid given.0 t.rows is_counted in
      let counted : list_all (row_ok parts.mid) rows ≡ true = list_all-append (row_ok parts.mid) t.rows parts.first ∙ rw (stay.1, given.2) refl in
      let stay_last = rows_stay parts.mid last later.0 rows counted in
      let keys_mid : map (key_of parts.mid columns) rows ≡ K ++ map values_key front = keys_behind columns pool parts.mid t.rows parts.first front stay.0 given.1 in
      let keys_last : map (key_of last columns) rows ≡ map (key_of parts.mid columns) rows = keys_stay columns parts.mid last rows stay_last.0 in
      let listed = arranged (row_key_cmp parts.mid columns) (key_order parts.mid columns) rows in
      let between = arranged (row_cmp columns) (stored_order columns) listed.0 in
      let by_keys_mid : IsStoredByKeys parts.mid columns rows between.0 = (listed.0, listed.1, between.1) in
      let moves : IsPermutation rows between.0 = IsPermutation-trans rows listed.0 between.0
      (moved (λ x y. is_lt (row_key_cmp parts.mid columns x y)) (key_order parts.mid columns) (length rows) rows listed.0 (omega arith) listed.1.stable)
      (moved (λ x y. is_lt (row_cmp columns x y)) (stored_order columns) (length listed.0) listed.0 between.0 (omega arith) between.1.stable) in
      let few : length t.rows + length (front ++ back) ≤ max_rows = grind (arith, nat_tests, j.few) in
      let first_few : nat_le (length t.rows + length front) max_rows ≡ true = below_max (length t.rows + length front) (omega (arith, few, sizes)) in
      let first_size : length parts.first ≡ length front = sym (length-map parts.first (row_data parts.mid)) ∙ ap length given.1 in
      let between_size : length between.0 ≡ length t.rows + length front = length_permutation rows between.0 moves ∙ length-append t.rows parts.first ∙ ap (λ n. length t.rows + n) first_size in
      let second_few : nat_le (length between.0 + length back) max_rows ≡ true = below_max (length between.0 + length back) (omega (arith, few, sizes, between_size)) in
      let distinct_mid : are_distinct (map (key_of parts.mid columns) rows) ≡ true = ap are_distinct keys_mid ∙ one.0 in
      let distinct_between : are_distinct (map (key_of parts.mid columns) between.0) ≡ true = (by_keys_alike parts.mid (record t { rows = rows }) between.0 by_keys_mid).distinct distinct_mid in
      let distinct_last : are_distinct (map (key_of last columns) rows) ≡ true = ap are_distinct keys_last ∙ distinct_mid in
      let fresh_mid = new_to_moved (map (key_of parts.mid columns) rows) (map (key_of parts.mid columns) between.0) (map values_key back) (IsPermutation-map (key_of parts.mid columns) rows between.0 moves) (rw keys_mid one.2) in
      let second : inserted may parts.mid (record t { rows = between.0 }) back ≡ Ok (between.0 ++ parts.second, last) =
      done may parts.mid (record t { rows = between.0 }) back (parts.second, last) valid.1 distinct_between (pass_first (map (key_of parts.mid columns) between.0) (map values_key back) fresh_mid one.1) j.allowed second_few parts.in_second in
      let pool_is : last ≡ all.1 = ap (λ (r : List Row × Pool). r.1) j.is in
      let rows_are : all.0 ≡ rows ++ parts.second = sym (ap (λ (r : List Row × Pool). r.0) j.is) ∙ ap (λ l. t.rows ++ l) parts.both ∙ sym (append_assoc t.rows parts.first parts.second) in
      record {
        first = parts.first;
        mid = parts.mid;
        in_first = done may pool t front (parts.first, parts.mid) valid.0 j.distinct (pass_first K (map values_key front) two.2 two.1) j.allowed first_few parts.in_first;
        between = between.0;
        is_between = by_keys_mid;
        counted = list_all-from_AllPass (row_ok parts.mid) between.0 (All-permutation (λ row. row_ok parts.mid row ≡ true) rows between.0 moves (AllPass-from_list_all (row_ok parts.mid) rows counted));
        second = parts.second;
        in_second = second ∙ ap (λ p. Ok (between.0 ++ parts.second, p)) pool_is;
        at_last = subst (λ p. IsStoredByKeys p columns (between.0 ++ parts.second) stored) pool_is
            (arranged_alike last columns rows between.0 parts.second stored distinct_last moves (subst (λ p. IsStoredByKeys p columns (rows ++ parts.second) stored) (sym pool_is) (subst (λ l. IsStoredByKeys all.1 columns l stored) rows_are by_keys)));
      }
    where
      below_max : (n : ℕ) → n ≤ max_rows → nat_le n max_rows ≡ true
      below_max n h = grind (arith, nat_tests, h)

  pub split : (all : List Row × Pool) → inserted may pool t (front ++ back) ≡ Ok all → (stored : List Row) → IsStoredByKeys all.1 t.columns all.0 stored → Split may pool t front back all.1 stored
  split all is stored by_keys = split_so all (judged may pool t (front ++ back) all is) stored by_keys
