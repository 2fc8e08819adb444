use Rattle.std.proofs.Common.{◌≡◌, ℕ, List}
use Rattle.std.specs.Prelude.{IsSome}
use Rattle.std.specs.Option.{option_map_or}
use Rattle.std.specs.BTreeMap.{btree_map_len, get_by_text}
use Rattle.msi_pool_index.specs.PoolParts.{has_place, has_room}
use Rattle.msi_pool_index.proofs.drafts.put_rooms.Given as goal

-- what is put and what is left to put give the whole, and the texts that are left are there
abbrev pub invariant-loop-text : goal.invariant-loop-text
invariant-loop-text l = record {
  whole : (t : List ℕ) (i : ℕ) → option_map_or (λ s. has_place s i) (get_by_text l.touched t) (has_room l.room t i) ≡ option_map_or (λ s. has_place s i) (get_by_text l.fn.touched t) (has_room l.fn.room t i);
  there : (t : List ℕ) → IsSome (get_by_text l.touched t) → IsSome (get_by_text l.room t);
}

abbrev pub decreases-loop-text : goal.decreases-loop-text
decreases-loop-text l = btree_map_len l.touched
