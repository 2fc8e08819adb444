-- The uses of a table's rows, as what its cells make of them.
use Rattle.std.proofs.Common.{◌≡◌, ℕ, zero, suc, ◌+◌, ◌<◌, true, List, [], ◌∷◌, length, get_or, refl, arith}
use Rattle.std.specs.Prelude.{◌==◌}
use Rattle.std.specs.List.{All, list_all, sum_by}
use Rattle.std.proofs.lemmas.Bool.Decides.{nat_tests}
use Rattle.std.proofs.lemmas.List.Elements.{All-tail}
use Rattle.std.proofs.lemmas.List.Sums.{get_or-le-sum_by, sum_by-cons}
use Rattle.msi_pool.specs.Pool.{Pool, pool_entry_at}
use Rattle.msi_pool.specs.Refs.{is_counted}
use Rattle.msi_pool.specs.declared.stringref.ValueRef.{ValueRef}
use Rattle.msi_pool.specs.declared.stringref.ValueRef.TheVariants as cell
use Rattle.msi_columns.specs.Column.{Column}
use Rattle.msi_tables.specs.Rows.{Row}
use Rattle.msi_changes.specs.Laws.{RowsAreCounted, RefcountsMatchRows, KeepsUses, uses_in}
use Rattle.msi_changes.proofs.CellUses.{HasUses, IsPlaced, Stays, use_of}
use Rattle.msi_changes.proofs.RowUses.{IsWhole, row_uses}
use Rattle.msi_changes.proofs.TurnUses.{All-head, uses_all}

-- a sum of nothing
pub none_in : {X : Type 0} (f : X → ℕ) (xs : List X) → All (λ x. f x ≡ 0) xs → sum_by f xs ≡ 0
none_in f [] h = refl
none_in f (x ∷ xs) h = omega (arith, sum_by-cons f x xs, All-head (λ y. f y ≡ 0) x xs h, none_in f xs (All-tail (λ y. f y ≡ 0) x xs h))

each_none : {X : Type 0} (f : X → ℕ) (xs : List X) → sum_by f xs ≡ 0 → All (λ x. f x ≡ 0) xs
each_none f xs none = λ k d within. omega (arith, get_or-le-sum_by f xs k d within, none)

module _ (columns : List Column) (others : ℕ → ℕ) where
  abbrev IsRow : Row → Type 0
  IsRow row = IsWhole (length columns) row

  pub are_whole : (pool : Pool) (rows : List Row) → RefcountsMatchRows columns others pool rows → All IsRow rows
  are_whole pool rows uses = λ k d within. record { cells = uses.cells k d within; placed = each_none (λ v. use_of v 0) (get_or rows k d) (each_none (λ row. row_uses row 0) rows uses.none k d within) }

  pub have_uses : (pool : Pool) (rows : List Row) → RefcountsMatchRows columns others pool rows → HasUses pool (λ n. uses_all row_uses rows n + others n)
  have_uses pool rows uses = record { counts = uses.counts }

  pub uses_are : (pool : Pool) (rows : List Row) → All IsRow rows → HasUses pool (λ n. uses_all row_uses rows n + others n) → RefcountsMatchRows columns others pool rows
  uses_are pool rows whole h = record { cells = λ k d within. (whole k d within).cells; none = none_in (λ row. row_uses row 0) rows (λ k d within. none_in (λ v. use_of v 0) (get_or rows k d) (whole k d within).placed); counts = h.counts }

  pub uses_kept : (old new : Pool) (rows : List Row) → All IsRow rows → HasUses new (λ n. uses_all row_uses rows n + others n) → Stays others old new → KeepsUses old columns others (rows, new)
  uses_kept old new rows whole h stays = record { uses = uses_are new rows whole h; stays = stays.texts }

  -- a text that is used is counted
  counted_cell : (pool : Pool) (v : ValueRef) → IsPlaced v → ((n : ℕ) → 0 < n → 0 < use_of v n → 0 < (pool_entry_at pool.places n).count) → is_counted pool v ≡ true
  counted_cell pool cell.Null placed some = refl
  counted_cell pool (cell.Int z) placed some = refl
  counted_cell pool (cell.Str zero) placed some = absurd (omega (arith, placed))
  counted_cell pool (cell.Str (suc m)) placed some = (let own : (suc m == suc m) ≡ true = grind (arith, nat_tests) in let h : 0 < (pool_entry_at pool.places (suc m)).count = some (suc m) (omega arith) (rw own (omega arith)) in grind (arith, nat_tests))
  counted_cell pool cell.Binary placed some = refl

  counted_row : (pool : Pool) (row : Row) → All IsPlaced row → ((n : ℕ) → 0 < n → 0 < row_uses row n → 0 < (pool_entry_at pool.places n).count) → list_all (is_counted pool) row ≡ true
  counted_row pool [] placed some = refl
  counted_row pool (v ∷ vs) placed some =
      let here : is_counted pool v ≡ true = counted_cell pool v (All-head IsPlaced v vs placed) (λ n at is. some n at (omega (arith, sum_by-cons (λ x. use_of x n) v vs, is))) in
      let rest : list_all (is_counted pool) vs ≡ true = counted_row pool vs (All-tail IsPlaced v vs placed) (λ n at is. some n at (omega (arith, sum_by-cons (λ x. use_of x n) v vs, is))) in
      rw (here, rest) refl

  counted_rows : (pool : Pool) (rows : List Row) → All IsRow rows → ((n : ℕ) → 0 < n → 0 < uses_in rows n → 0 < (pool_entry_at pool.places n).count) → RowsAreCounted pool rows
  counted_rows pool [] whole some = refl
  counted_rows pool (row ∷ rows) whole some =
      let here : list_all (is_counted pool) row ≡ true = counted_row pool row (All-head IsRow row rows whole).placed (λ n at is. some n at (omega (arith, sum_by-cons (λ x. row_uses x n) row rows, is))) in
      let rest : RowsAreCounted pool rows = counted_rows pool rows (All-tail IsRow row rows whole) (λ n at is. some n at (omega (arith, sum_by-cons (λ x. row_uses x n) row rows, is))) in
      rw (here, rest) refl

  pub used_are_counted : (pool : Pool) (rows : List Row) → RefcountsMatchRows columns others pool rows → RowsAreCounted pool rows
  used_are_counted pool rows uses = counted_rows pool rows (are_whole pool rows uses) (λ n at is. (let h = uses.counts n at in omega (arith, h, is)))
