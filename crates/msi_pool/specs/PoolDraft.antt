-- Drafts of a pool, and what they changed.
use Rattle.std.specs.Prelude.{List}
use Rattle.msi_pool_index.specs.Places.{PoolEntry}
use Rattle.msi_pool_index.specs.PoolDraft.{AreChangesOf, taken_over}
use Rattle.msi_pool.specs.PoolState.{PoolState}
use Rattle.msi_pool.specs.declared.draft.PoolChanges.{PoolChanges}

-- a pool once it took the changes over, whose places were these; its count of steps is that of the pool when the draft was made
unfoldable pub adopted : List PoolEntry → PoolChanges → PoolState
adopted places changes = record {
  pool = record { page = changes.codepage; long = changes.long_string_refs; places = taken_over places changes.places };
  modified = changes.is_modified;
  steps = changes.places.below.count;
}

-- changes that a draft of a pool with these places has made
unfoldable pub AreChangesOver : List PoolEntry → PoolChanges → Type 0
AreChangesOver places changes = AreChangesOf places changes.places
