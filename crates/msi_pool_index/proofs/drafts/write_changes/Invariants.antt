use Rattle.std.proofs.Common.{◌≡◌, ℕ}
use Rattle.std.specs.Prelude.{◌&&◌, not}
use Rattle.std.specs.BTreeMap.{btree_map_len}
use Rattle.msi_pool_index.specs.Places.{places_of}
use Rattle.msi_pool_index.specs.PoolDraft.{below, laid, place_in, takes_place}
use Rattle.msi_pool_index.specs.PoolParts.{has_place}
use Rattle.msi_pool_index.proofs.drafts.write_changes.Given as goal

-- what is written and what is left to write give the whole
abbrev pub invariant-loop-index : goal.invariant-loop-index
invariant-loop-index l = record {
  list : laid (below l.end (place_in l.changed)) (places_of l.list.items) ≡ laid (below l.end (place_in l.fn.changed)) (places_of l.fn.list.items);
  free : (i : ℕ) → (has_place l.free i && not (takes_place (below l.end (place_in l.changed) i))) ≡ (has_place l.fn.free i && not (takes_place (below l.end (place_in l.fn.changed) i)));
}

abbrev pub decreases-loop-index : goal.decreases-loop-index
decreases-loop-index l = btree_map_len l.changed
