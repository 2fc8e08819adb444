use Rattle.std.proofs.Common.{◌≡◌, ℕ, true}
use Rattle.std.specs.Prelude.{◌||◌}
use Rattle.std.specs.List.{list_any}
use Rattle.std.specs.BTreeMap.{is_at}
use Rattle.std.specs.Ordering.{nat_cmp}
use Rattle.msi_pool_index.specs.PoolParts.{has_place}
use Rattle.msi_pool_index.proofs.drafts.add_places.Given as goal

-- what is there and what is left to come are all
abbrev pub invariant-loop-index : goal.invariant-loop-index
invariant-loop-index l = record {
  all : (i : ℕ) → (has_place l.free i || list_any (is_at (nat_cmp i)) l.index-iterator) ≡ (has_place l.fn.free i || has_place l.fn.given i);
  kept : (i : ℕ) → has_place l.fn.free i ≡ true → has_place l.free i ≡ true;
}
