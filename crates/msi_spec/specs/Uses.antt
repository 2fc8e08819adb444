-- Uses of texts that are taken from those that a pool counts, place by place.
use Rattle.std.specs.Prelude.{◌≡◌, ◌<◌, ◌≤◌, ℕ, suc, ◌+◌, ◌==◌, Bool, true, false, List, map, length, count_by, slice_index_or, if◌then◌else◌, All}
use Rattle.std.specs.List.{list_all}
use Rattle.msi_pool.specs.Pool.{PoolEntry, Pool, pool_entry_at}
use Rattle.msi_pool.specs.declared.stringref.ValueRef.{ValueRef}
use Rattle.msi_changes.specs.Laws.{names_place}
use Rattle.msi_tables.specs.Rows.{Row}
use Rattle.msi_tables.specs.Table.{Table}
use Rattle.msi_spec.specs.Sound.{IsPlaceUsed, refcounts_of}

-- the use that a cell makes of a place
abbrev pub cell_uses : ValueRef → ℕ → ℕ
cell_uses v n = if names_place n v then 1 else 0

-- the uses that the cells of a row make
abbrev pub row_uses : Row → ℕ → ℕ
row_uses row n = count_by (names_place n) row

-- what is left at the place behind k others; past the last nothing
abbrev pub left_at : List ℕ → ℕ → ℕ
left_at left k = slice_index_or left k 0

-- no place has a use left
abbrev pub has_none : List ℕ → Bool
has_none left = list_all (λ n. n == 0) left

-- The uses were taken: each place had these and what is left; or a place had fewer than these.
pub record TakesUses (uses : ℕ → ℕ) (old new : List ℕ) (result : Bool) : Type 0 where
  pub taken : result ≡ true → (k : ℕ) → left_at old k ≡ uses (suc k) + left_at new k
  pub short : result ≡ false → (k : ℕ) × (left_at old k < uses (suc k))

-- what a pool counts, place by place
abbrev pub counts_of : List PoolEntry → List ℕ
counts_of places = map (λ p. p.count) places

-- the clauses of a sound package on texts: each reference has a use, and the counts are those of the cells
pub record RefcountsAreExact (pool : Pool) (ts : List Table) : Type 0 where
  pub references : All (λ t. All (All (IsPlaceUsed pool)) t.rows) ts
  pub counts : (n : ℕ) → 0 < n → n ≤ length pool.places → (pool_entry_at pool.places n).count ≡ refcounts_of ts n

-- the uses of all tables were taken from the pool's counts, and nothing is left; or a place has too few, or some are left
pub record CountsDown (pool : Pool) (ts : List Table) (result : Bool) : Type 0 where
  pub taken : result ≡ true → (k : ℕ) → left_at (counts_of pool.places) k ≡ refcounts_of ts (suc k)
  pub other : result ≡ false → (k : ℕ) × (left_at (counts_of pool.places) k ≡ refcounts_of ts (suc k) → ⊥)
