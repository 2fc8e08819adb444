-- Places that have all memory to take over what a draft changed.
use Rattle.std.specs.Prelude.{◌≡◌, ℕ, ◌+◌, ◌<◌, ◌≤◌, ◌^◌, ◌||◌, List, length, IsSome, String, Vec, vec_len, vec_capacity}
use Rattle.std.specs.BTreeMap.{get_by_text}
use Rattle.std.specs.declared.alloc.Global.{Global}
use Rattle.std.specs.declared.collections.BTreeMap.{BTreeMap}
use Rattle.std.specs.declared.collections.BTreeSet.{BTreeSet}
use Rattle.msi_pool_index.specs.declared.draftparts.Changes.{Changes}
use Rattle.msi_pool_index.specs.Places.{PoolEntry, places_of}
use Rattle.msi_pool_index.specs.PoolDraft.{AreChangesOf}
use Rattle.msi_pool_index.specs.PoolIndex.{is_free, is_roomy, passes_at}
use Rattle.msi_pool_index.specs.PoolParts.{has_place, has_room}

-- the places as they are with the steps that were taken on them, and both once the changes are taken over
pub record Ready : Type 0 where
  pub places : List PoolEntry
  pub steps : ℕ
  pub next : List PoolEntry
  pub next_steps : ℕ

-- the set has the free places and those that become free, the map has every text that was touched, and the list has room for what is added
pub record PlacesHaveRoom (list : Vec (String Global × ℕ) Global) (free : BTreeSet ℕ Global) (room : BTreeMap (String Global) (BTreeSet ℕ Global) Global) (c : Changes) : Type 0 where
  pub few : length list.items < 2 ^ 32
  pub changes : AreChangesOf (places_of list.items) c
  pub frees : (i : ℕ) → has_place free i ≡ (passes_at is_free (places_of list.items) i || has_place c.given i)
  pub rooms : (t : List ℕ) (i : ℕ) → has_room room t i ≡ passes_at (is_roomy t) (places_of list.items) i
  pub texts : (t : List ℕ) → IsSome (get_by_text c.room t) → IsSome (get_by_text room t)
  pub space : vec_len list + vec_len c.added ≤ vec_capacity list
