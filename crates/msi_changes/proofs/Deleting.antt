-- What is left of rows that are gone through, and the pool.
use Rattle.std.proofs.Common.{◌≡◌, ◌∙◌, Bool, true, false, not, List, [], ◌∷◌, ◌++◌, filter, flat_map, append_assoc, append-nil, refl, sym, ap, Result, Ok, Err}
use Rattle.cfb_medium.specs.declared.error.Error.{Error}
use Rattle.msi_texts.specs.Results.{◌>>=◌}
use Rattle.msi_pool.specs.Pool.{Pool}
use Rattle.std.proofs.Common.{Vec}
use Rattle.std.specs.declared.alloc.Global.{Global}
use Rattle.msi_pool.specs.declared.stringref.ValueRef.{ValueRef}
use Rattle.msi_tables.specs.Held.{rows_held}
use Rattle.msi_tables.specs.Rows.{Row}
use Rattle.msi_changes.specs.Applied.{left_of}
use Rattle.msi_changes.specs.Changes.{all_taken_back, taken_back}
use Rattle.msi_changes.proofs.Turns.{behind}

pub all_taken_back-append : (pool : Pool) (xs ys : Row) → all_taken_back pool (xs ++ ys) ≡ (all_taken_back pool xs >>= λ p. all_taken_back p ys)
all_taken_back-append pool [] ys = refl
all_taken_back-append pool (x ∷ xs) ys = on (λ p. all_taken_back-append p xs ys) (taken_back pool x)
  where
    on : ((p : Pool) → all_taken_back p (xs ++ ys) ≡ (all_taken_back p xs >>= λ q. all_taken_back q ys)) → (r : Result Pool Error)
        → (r >>= λ p. all_taken_back p (xs ++ ys)) ≡ ((r >>= λ p. all_taken_back p xs) >>= λ p. all_taken_back p ys)
    on deeper (Ok p) = deeper p
    on deeper (Err e) = refl

module _ (matching : Row → Bool) where
  moved : (front : List Row) (row : Row) (left : List Row) (r : Result Pool Error)
      → ((r >>= λ p. Ok (row ∷ left, p)) >>= behind front) ≡ ((r >>= λ p. Ok (left, p)) >>= behind (front ++ row ∷ []))
  moved front row left (Ok p) = ap (λ rows. Ok (rows, p)) (sym (append_assoc front (row ∷ []) left))
  moved front row left (Err e) = refl

  pub kept : (pool : Pool) (row : Row) (rows front : List Row) → matching row ≡ false
      → (left_of matching pool (row ∷ rows) >>= behind front) ≡ (left_of matching pool rows >>= behind (front ++ row ∷ []))
  kept pool row rows front is = rw is (moved front row (filter (λ row. not (matching row)) rows) (all_taken_back pool (flat_map (λ row. row) (filter matching rows))))

  pub taken : (pool p : Pool) (row : Row) (rows front : List Row) → matching row ≡ true → all_taken_back pool row ≡ Ok p
      → (left_of matching pool (row ∷ rows) >>= behind front) ≡ (left_of matching p rows >>= behind front)
  taken pool p row rows front is so = rw (is, all_taken_back-append pool row (flat_map (λ row. row) (filter matching rows)), so) refl

  pub unused : (pool : Pool) (row : Row) (rows front : List Row) (e : Error) → matching row ≡ true → all_taken_back pool row ≡ Err e
      → (left_of matching pool (row ∷ rows) >>= behind front) ≡ Err e
  unused pool row rows front e is so = rw (is, all_taken_back-append pool row (flat_map (λ row. row) (filter matching rows)), so) refl

  pub done : (pool : Pool) (front : List Row) → (left_of matching pool [] >>= behind front) ≡ Ok (front, pool)
  done pool front = ap (λ rows. Ok (rows, pool)) (append-nil front)

  pub at_first : (pool : Pool) (rows : List Row) → (left_of matching pool rows >>= behind []) ≡ left_of matching pool rows
  at_first pool rows = same (left_of matching pool rows)
    where
      same : (r : Result (List Row × Pool) Error) → (r >>= behind []) ≡ r
      same (Ok r) = refl
      same (Err e) = refl

  -- one row of a list as it is kept, where the matching and the pool are known
  pub taken_of : (pool p : Pool) (rows left : List (Vec ValueRef Global)) (row : Vec ValueRef Global) (front : List Row) (judged counted : Row) (is : Bool) → rows ≡ row ∷ left
      → is ≡ true → is ≡ matching judged → judged ≡ row.items → counted ≡ row.items → all_taken_back pool counted ≡ Ok p
      → (left_of matching pool (rows_held rows) >>= behind front) ≡ (left_of matching p (rows_held left) >>= behind front)
  taken_of pool p rows left row front judged counted is first so same one two back =
      ap (λ xs. left_of matching pool (rows_held xs) >>= behind front) first
      ∙ taken pool p row.items (rows_held left) front (ap matching (sym one) ∙ sym same ∙ so) (ap (all_taken_back pool) (sym two) ∙ back)

  pub unused_of : (pool : Pool) (rows left : List (Vec ValueRef Global)) (row : Vec ValueRef Global) (front : List Row) (judged counted : Row) (is : Bool) (e : Error) → rows ≡ row ∷ left
      → is ≡ true → is ≡ matching judged → judged ≡ row.items → counted ≡ row.items → all_taken_back pool counted ≡ Err e
      → (left_of matching pool (rows_held rows) >>= behind front) ≡ Err e
  unused_of pool rows left row front judged counted is e first so same one two back =
      ap (λ xs. left_of matching pool (rows_held xs) >>= behind front) first
      ∙ unused pool row.items (rows_held left) front e (ap matching (sym one) ∙ sym same ∙ so) (ap (all_taken_back pool) (sym two) ∙ back)
