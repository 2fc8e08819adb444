-- Columns that are asked for, put into a set one after the other.
use Rattle.std.proofs.Common.{◌≡◌, ◌∙◌, ℕ, Bool, true, false, cond, List, [], ◌∷◌, ◌++◌, Option, Some, None, refl, sym, ap, ap₂, ◌<◌, ◌+◌, length, take, get_or}
use Rattle.std.specs.Prelude.{◌&&◌, ◌==◌, find}
use Rattle.std.specs.Borrow.{Bor}
use Rattle.std.specs.BTreeMap.{is_at}
use Rattle.std.specs.BTreeSet.{contains}
use Rattle.std.specs.Cmp.Lexicographic.{slice_cmp}
use Rattle.std.specs.List.{list_all, slice_split}
use Rattle.std.specs.Option.{option_map_or}
use Rattle.std.specs.Ordering.{is_eq, nat_cmp, ordering_then}
use Rattle.std.specs.declared.cmp.Ordering.{Ordering}
use Rattle.std.specs.declared.cmp.Ordering.TheVariants.{Less, Equal, Greater}
use Rattle.std.proofs.lemmas.Cmp.{nat_cmp_total, nat_list_cmp_total, tied_itself}
use Rattle.std.proofs.lemmas.List.Folds.{list_all-append, list_all_more}
use Rattle.msi_listing.specs.Content.{CellContent}
use Rattle.package_rules.specs.Asked.{AreAsked, ColumnSet, Grows, asks, asks_all}
use Rattle.package_rules.specs.Lent.{lent}
use Rattle.package_rules.specs.Said.{column_in, tables_in}
use Rattle.package_rules.specs.declared.asked.ColumnAt.{ColumnAt}
use Rattle.package_rules.specs.contracts.asked.ColumnAtOrd.TheImpl.{ghosts as columns}
use Rattle.package_rules.proofs.FirstsPut.{both}

all_kept : {A : Type 0} (p q : A → Bool) (xs : List A) → ((x : A) → p x ≡ true → q x ≡ true) → list_all p xs ≡ true → list_all q xs ≡ true
all_kept p q [] h is = refl
all_kept p q (x ∷ xs) h is = let parts = both (p x) (list_all p xs) is in ap₂ (λ a b. a && b) (h x parts.0) (all_kept p q xs h parts.1)

-- what all have, the first that is found has
pub all_found : {A : Type 0} (p q : A → Bool) (xs : List A) (x : A) → list_all q xs ≡ true → find p xs ≡ Some x → q x ≡ true
all_found p q [] x is found = absurd (cc found)
all_found p q (y ∷ ys) x is found = let parts = both (q y) (list_all q ys) is in on (p y) parts.0 (all_found p q ys x parts.1) found
  where
    on : (b : Bool) → q y ≡ true → (find p ys ≡ Some x → q x ≡ true) → cond b (Some y) (find p ys) ≡ Some x → q x ≡ true
    on true here rest e = let same : y ≡ x = cc e in ap q (sym same) ∙ here
    on false here rest e = rest e

more_asked : (old new : ColumnSet) (v : List CellContent) → Grows old new → asks_all old v ≡ true → asks_all new v ≡ true
more_asked old new v grows is = on (tables_in v) is
  where
    on : (o : Option (List ℕ)) → option_map_or (λ tables. list_all (λ table. asks old table (column_in v)) (slice_split (λ b. b == 59) tables)) o true ≡ true
        → option_map_or (λ tables. list_all (λ table. asks new table (column_in v)) (slice_split (λ b. b == 59) tables)) o true ≡ true
    on None h = refl
    on (Some tables) h = all_kept (λ table. asks old table (column_in v)) (λ table. asks new table (column_in v)) (slice_split (λ b. b == 59) tables) (λ table. grows table (column_in v)) h

-- a row more
pub put_asked : (rows : List (List CellContent)) (old new : ColumnSet) (v : List CellContent) → AreAsked rows old → Grows old new → asks_all new v ≡ true → AreAsked (rows ++ v ∷ []) new
put_asked rows old new v are grows is =
    list_all-append (asks_all new) rows (v ∷ [])
    ∙ ap₂ (λ a b. a && b) (all_kept (asks_all old) (asks_all new) rows (λ x. more_asked old new x grows) are) (ap (λ b. b && true) is)

-- ---- a column more

held : (o : Ordering) (b : Bool) → b ≡ true → cond (is_eq o) true b ≡ true
held Less b h = h
held Equal b h = refl
held Greater b h = h

module _ (old new : ColumnSet) (key : ColumnAt) (put : (q : ColumnAt) → contains columns.cmp new q ≡ cond (is_at (columns.cmp key) q) true (contains columns.cmp old q)) where
  pub put_grows : Grows old new
  put_grows table column is =
      let q : ColumnAt = record { column = column; table = lent table } in
      put q ∙ held (columns.cmp key q) (contains columns.cmp old q) is

  pub put_there : asks new key.table.now key.column ≡ true
  put_there =
      let q : ColumnAt = record { column = key.column; table = lent key.table.now } in
      put q ∙ ap (λ b. cond b true (contains columns.cmp old q)) (same_column key.column key.table.now)
    where
      same_column : (n : ℕ) (t : List ℕ) → is_eq (ordering_then (nat_cmp n n) (slice_cmp nat_cmp t t)) ≡ true
      same_column n t = ap₂ (λ a b. is_eq (ordering_then a b)) (tied_itself nat_cmp_total n) (tied_itself nat_list_cmp_total t)

pub grows_on : (a b c : ColumnSet) → Grows a b → Grows b c → Grows a c
grows_on a b c one two table column is = two table column (one table column is)

-- all of some tables, and one more
pub all_put : (old new : ColumnSet) (column : ℕ) (tables : List (Bor (List ℕ))) (i : ℕ) (d : Bor (List ℕ)) → i < length tables → Grows old new
    → list_all (λ t. asks old t.now column) (take i tables) ≡ true → asks new (get_or tables i d).now column ≡ true → list_all (λ t. asks new t.now column) (take (i + 1) tables) ≡ true
all_put old new column tables i d h grows are is =
    list_all_more (λ t. asks new t.now column) tables i d h
    ∙ ap₂ (λ a b. a && b) (all_kept (λ (t : Bor (List ℕ)). asks old t.now column) (λ t. asks new t.now column) (take i tables) (λ t. grows t.now column) are) is
