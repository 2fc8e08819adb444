-- References to places as bytes, and cells that hold them.
use Rattle.std.specs.Prelude.{ℕ, ◌^◌, Bool, true, false, not, List, nat_lt, ◌==◌, if◌then◌else◌, Option, Some, None, option_map, Result, Ok}
use Rattle.msi_pool.specs.declared.stringref.ValueRef.{ValueRef}
use Rattle.msi_pool.specs.declared.stringref.ValueRef.TheVariants as cell
use Rattle.msi_texts.specs.Results.{◌>>=◌}
use Rattle.msi_texts.specs.Reading.{number_at}
use Rattle.msi_values.specs.Datum.{Datum, null, number, text, binary}
use Rattle.msi_pool.specs.Pool.{Pool, place, used, with_refcount_down, pool_entry_at}
use Rattle.msi_pool.specs.PoolState.{PoolState, changed_to}
use Rattle.cfb_medium.specs.declared.error.Error.{Error}

-- how many bytes a reference takes
abbrev pub ref_width : Bool → ℕ
ref_width true = 3
ref_width false = 2

-- 0 stands for none
abbrev pub ref_of : ℕ → Option ℕ
ref_of n = if n == 0 then None else Some n

abbrev pub number_of : Option ℕ → ℕ
number_of None = 0
number_of (Some n) = n

-- a reference at the front of the bytes, and what is behind it
abbrev pub ref_at : Bool → List ℕ → Result (Option ℕ × List ℕ) Error
ref_at long bytes = number_at (ref_width long) bytes >>= λ n. Ok (ref_of n.0, n.1)

-- the reference can be written in so many bytes
abbrev pub fits_width : Bool → Option ℕ → Bool
fits_width true r = true
fits_width false r = nat_lt (number_of r) (2 ^ 16)

-- the cell of a value whose text is counted in the pool; none where the pool is full
abbrev pub cell_of : Pool → Datum → Option ValueRef
cell_of pool null = Some cell.Null
cell_of pool (number z) = Some (cell.Int z)
cell_of pool (text t) = option_map cell.Str (place pool t)
cell_of pool binary = Some cell.Binary

-- the pool once the value's text is counted
abbrev pub with_value : PoolState → Datum → PoolState
with_value s (text t) = changed_to s.steps (used s.pool t)
with_value s _ = s

-- the place of a cell's text has a use
abbrev pub is_counted : Pool → ValueRef → Bool
is_counted pool (cell.Str n) = not ((pool_entry_at pool.places n).count == 0)
is_counted pool _ = true

-- the pool once the use of a cell's text is taken back
abbrev pub without_value : PoolState → ValueRef → PoolState
without_value s (cell.Str n) = changed_to s.steps (record s.pool { places = with_refcount_down n s.pool.places })
without_value s _ = s

-- the value of a cell
abbrev pub value_at : Pool → ValueRef → Datum
value_at pool cell.Null = null
value_at pool (cell.Int z) = number z
value_at pool (cell.Str n) = text (pool_entry_at pool.places n).text
value_at pool cell.Binary = binary
