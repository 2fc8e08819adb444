-- Tables that are found, also beside others that get rows, and the uses of texts that are theirs.
use Rattle.std.proofs.Common.{◌≡◌, ◌∙◌, ℕ, ◌+◌, ◌≤◌, Bool, true, false, cond, List, [], ◌∷◌, get_or, map, refl, sym, ap, subst, arith, Some}
use Rattle.std.specs.Prelude.{◌||◌, bytes_eq, option_map, slice_get}
use Rattle.std.specs.List.{list_any, remove, All}
use Rattle.std.specs.List.Sorted.{IsStrictlySortedBy}
use Rattle.std.specs.Ordering.{is_lt}
use Rattle.std.proofs.lemmas.List.Elements.{All-cons, All-head, All-map, All-tail}
use Rattle.std.proofs.lemmas.List.Sums.{get_or-le-sum_by, sum_by-remove}
use Rattle.std.proofs.lemmas.Option.{get_or_from_slice_get, slice_get-get_or, slice_get_within}
use Rattle.msi_changes.specs.Laws.{uses_in}
use Rattle.msi_columns.specs.Column.{Column}
use Rattle.msi_spec.specs.Calls.{rows_put, table_put, with_rows}
use Rattle.msi_spec.specs.Package.{table_name_cmp}
use Rattle.msi_spec.specs.Sound.{refcounts_of}
use Rattle.msi_spec.proofs.SystemRows.{bytes_same}
use Rattle.msi_rewritten.proofs.Stored.{found_at}
use Rattle.msi_rewritten.proofs.Tables.{columns_kept, found_after, name_kept, names_kept, one_changed, other_kept, uses_after}
use Rattle.msi_tables.specs.Rows.{Row}
use Rattle.msi_tables.specs.Table.{table_named, Table}
use Rattle.msi_table_edits.proofs.Among.{put_beside}

-- a table with rows
abbrev pub holding : List ℕ → List Column → List Row → Table
holding name columns rows = record { name = name; columns = columns; rows = rows }

-- the table stands at a place, and is the first of its name
pub record IsThere (ts : List Table) (t : Table) : Type 0 where
  pub k : ℕ
  pub at : slice_get ts k ≡ Some t
  pub found : table_named ts t.name ≡ Some t

pub is_there : (ts : List Table) (t : Table) → table_named ts t.name ≡ Some t → IsThere ts t
is_there ts t found = (let at = found_at ts t.name t found in record { k = at.0; at = slice_get-get_or ts at.0 t at.1 ∙ ap (λ (u : Table). Some u) at.2; found = found })

pub there_has : (Has : Table → Type 0) (ts : List Table) (t : Table) → IsThere ts t → All Has ts → Has t
there_has Has ts t there all = subst Has (get_or_from_slice_get ts there.k t t there.at) (all there.k t (slice_get_within ts there.k t there.at))

pub there_uses : (ts : List Table) (t : Table) → IsThere ts t → (n : ℕ) → uses_in t.rows n ≤ refcounts_of ts n
there_uses ts t there n =
    let most : uses_in (get_or ts there.k t).rows n ≤ refcounts_of ts n = get_or-le-sum_by (λ u. uses_in u.rows n) ts there.k t (slice_get_within ts there.k t there.at) in
    let same : uses_in (get_or ts there.k t).rows n ≡ uses_in t.rows n = ap (λ (u : Table). uses_in u.rows n) (get_or_from_slice_get ts there.k t t there.at) in
    omega (arith, most, same)

-- ---- beside a table that is put, and where one gets rows

pub there_put : (new : Table) (ts : List Table) (t : Table) → IsThere ts t → bytes_eq new.name t.name ≡ false → IsThere (table_put new ts) t
there_put new ts t there differs = is_there (table_put new ts) t (put_beside new t.name differs ts ∙ there.found)

module _ (name : List ℕ) (stored : List Row) (ts : List Table) (t : Table) (there : IsThere ts t) where
  pub there_beside : bytes_eq t.name name ≡ false → IsThere (rows_put name stored ts) t
  there_beside differs = is_there (rows_put name stored ts) t
      (found_after name stored t.name ts ∙ ap (option_map (with_rows name stored)) there.found ∙ ap (λ (u : Table). Some u) (other_kept name stored t differs))

  pub there_own : t.name ≡ name → IsThere (rows_put name stored ts) (holding t.name t.columns stored)
  there_own own =
      let is : bytes_eq t.name name ≡ true = subst (λ m. bytes_eq t.name m ≡ true) own (bytes_same t.name) in
      is_there (rows_put name stored ts) (holding t.name t.columns stored)
      (found_after name stored t.name ts ∙ ap (option_map (with_rows name stored)) there.found ∙ ap (λ (u : Table). Some u) (one_changed name stored t is))

  pub uses_swapped : t.name ≡ name → IsStrictlySortedBy table_name_cmp (map (λ u. u.name) ts) → (n : ℕ) → refcounts_of (rows_put name stored ts) n + uses_in t.rows n ≡ uses_in stored n + refcounts_of ts n
  uses_swapped own rising n =
      let after = uses_after name stored ts there.k t there.at own rising n in
      let split : refcounts_of (remove ts there.k) n + uses_in (get_or ts there.k t).rows n ≡ refcounts_of ts n = sum_by-remove (λ u. uses_in u.rows n) ts there.k t (slice_get_within ts there.k t there.at) in
      let same : uses_in (get_or ts there.k t).rows n ≡ uses_in t.rows n = ap (λ (u : Table). uses_in u.rows n) (get_or_from_slice_get ts there.k t t there.at) in
      omega (arith, after, split, same)

pub rises_still : (name : List ℕ) (stored : List Row) (ts : List Table) → IsStrictlySortedBy table_name_cmp (map (λ u. u.name) ts) → IsStrictlySortedBy table_name_cmp (map (λ u. u.name) (rows_put name stored ts))
rises_still name stored ts rises = subst (IsStrictlySortedBy table_name_cmp) (sym (names_kept name stored (λ n. n) ts)) rises

-- ---- what all have

-- a fact of names and columns stays where a table gets rows
pub all_with_rows : (Has : List ℕ → List Column → Type 0) (name : List ℕ) (stored : List Row) (ts : List Table) → All (λ u. Has u.name u.columns) ts → All (λ u. Has u.name u.columns) (rows_put name stored ts)
all_with_rows Has name stored ts all =
    All-map (λ u. Has u.name u.columns) (with_rows name stored) ts (λ j d within.
    let u : Table = get_or ts j d in
    subst (λ n. Has n (with_rows name stored u).columns) (sym (name_kept name stored u)) (subst (λ cs. Has u.name cs) (sym (columns_kept name stored u)) (all j d within)))

module _ (t : Table) where
  pub all_put : (Has : Table → Type 0) (ts : List Table) → Has t → All Has ts → All Has (table_put t ts)
  all_put Has [] own all = All-cons Has t [] own all
  all_put Has (u ∷ us) own all = by (is_lt (table_name_cmp t.name u.name)) (all_put Has us own (All-tail Has u us all))
    where
      by : (b : Bool) → All Has (table_put t us) → All Has (cond b (t ∷ u ∷ us) (u ∷ table_put t us))
      by true later = All-cons Has t (u ∷ us) own all
      by false later = All-cons Has u (table_put t us) (All-head Has u us all) later

  pub any_put : {X : Type 0} (f : X → Bool) (g : List ℕ → X) (ts : List Table) → list_any f (map (λ u. g u.name) (table_put t ts)) ≡ (f (g t.name) || list_any f (map (λ u. g u.name) ts))
  any_put f g [] = refl
  any_put f g (u ∷ us) = by (is_lt (table_name_cmp t.name u.name)) (any_put f g us)
    where
      swap : (a b c : Bool) → (a || (b || c)) ≡ (b || (a || c))
      swap true true c = refl
      swap true false c = refl
      swap false true c = refl
      swap false false c = refl

      by : (b : Bool) → list_any f (map (λ u. g u.name) (table_put t us)) ≡ (f (g t.name) || list_any f (map (λ u. g u.name) us))
          → list_any f (map (λ u. g u.name) (cond b (t ∷ u ∷ us) (u ∷ table_put t us))) ≡ (f (g t.name) || list_any f (map (λ u. g u.name) (u ∷ us)))
      by true later = refl
      by false later = ap (λ b. f (g u.name) || b) later ∙ swap (f (g u.name)) (f (g t.name)) (list_any f (map (λ u. g u.name) us))
