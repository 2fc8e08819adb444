-- What an ordered set and an ordered map of std tell of places.
use Rattle.std.specs.Prelude.{ℕ, List, Bool, false, String}
use Rattle.std.specs.Option.{option_map_or}
use Rattle.std.specs.BTreeMap.{get_by_text}
use Rattle.std.specs.BTreeSet.{contains}
use Rattle.std.specs.Ordering.{nat_cmp}
use Rattle.std.specs.declared.alloc.Global.{Global}
use Rattle.std.specs.declared.collections.BTreeMap.{BTreeMap}
use Rattle.std.specs.declared.collections.BTreeSet.{BTreeSet}
use Rattle.msi_pool_index.specs.Places.{PoolEntry}
use Rattle.msi_pool_index.specs.PoolIndex.{PoolIndexParts, none_under}

-- the place is in the set
abbrev pub has_place : BTreeSet ℕ Global → ℕ → Bool
has_place set i = contains nat_cmp set i

-- the place is in the set of the text
abbrev pub has_room : BTreeMap (String Global) (BTreeSet ℕ Global) Global → List ℕ → ℕ → Bool
has_room map t i = option_map_or (λ s. contains nat_cmp s i) (get_by_text map t) false

-- the three parts of a pool in memory, which lie over nothing, after so many steps
abbrev pub parts_of : List PoolEntry → BTreeSet ℕ Global → BTreeMap (String Global) (BTreeSet ℕ Global) Global → ℕ → PoolIndexParts
parts_of places free room steps = record { places = places; under = none_under; free = has_place free; room = has_room room; steps = steps }
