use Rattle.std.proofs.Common.{◌≡◌, ℕ}
use Rattle.std.specs.Prelude.{◌&&◌, ◌||◌, not}
use Rattle.std.specs.List.{list_any}
use Rattle.std.specs.BTreeMap.{is_at}
use Rattle.std.specs.Ordering.{nat_cmp}
use Rattle.msi_pool_index.specs.Places.{places_of}
use Rattle.msi_pool_index.specs.PoolIndex.{is_free, passes_at}
use Rattle.msi_pool_index.specs.PoolParts.{has_place}
use Rattle.msi_pool_index.proofs.drafts.drop_used.Given as goal

-- what was taken out and what is left to take give the whole
abbrev pub invariant-loop-index : goal.invariant-loop-index
invariant-loop-index l = (i : ℕ) → (has_place l.free i && (not (list_any (is_at (nat_cmp i)) l.index-iterator) || passes_at is_free (places_of l.list) i)) ≡ (has_place l.fn.free i && (not (has_place l.fn.given i) || passes_at is_free (places_of l.fn.list) i))
