-- Drafts of places: what changed, laid over the list that they borrow.
use Rattle.std.specs.Prelude.{ℕ, suc, ◌<◌, Bool, false, not, ◌&&◌, ◌||◌, List, [], ◌∷◌, ◌++◌, length, nat_le, nat_lt, if◌then◌else◌, Option, None, option_map, unwrap_or, IsSome, String, slice_index_or}
use Rattle.std.specs.Option.{option_map_or}
use Rattle.std.specs.BTreeMap.{get, get_by_text}
use Rattle.std.specs.Ordering.{nat_cmp}
use Rattle.std.specs.declared.alloc.Global.{Global}
use Rattle.std.specs.declared.collections.BTreeMap.{BTreeMap}
use Rattle.std.specs.declared.collections.BTreeSet.{BTreeSet}
use Rattle.msi_pool_index.specs.declared.draftparts.Changes.{Changes}
use Rattle.msi_pool_index.specs.Places.{PoolEntry, empty_pool_entry, place_of, places_of}
use Rattle.msi_pool_index.specs.PoolIndex.{PoolIndexParts, PoolIndexMatches, UnderlyingPlaces, is_free, is_roomy, passes_at}
use Rattle.msi_pool_index.specs.PoolParts.{has_place}

-- the list with what stands at some of its places now
abbrev pub laid : (ℕ → Option PoolEntry) → List PoolEntry → List PoolEntry
laid other [] = []
laid other (p ∷ ps) = unwrap_or (other 0) p ∷ laid (λ i. other (suc i)) ps

-- what stands at the places before one
abbrev pub below : ℕ → (ℕ → Option PoolEntry) → ℕ → Option PoolEntry
below end other i = if nat_lt i end then other i else None

-- what a map has at a place
abbrev pub place_in : BTreeMap ℕ (String Global × ℕ) Global → ℕ → Option PoolEntry
place_in map i = option_map place_of (get nat_cmp map i)

-- the place has room for a text: as the map tells where it has the text, else as the list does
abbrev pub room_over : BTreeMap (String Global) (BTreeSet ℕ Global) Global → List PoolEntry → List ℕ → ℕ → Bool
room_over map ps t i = option_map_or (λ s. has_place s i) (get_by_text map t) (passes_at (is_roomy t) ps i)

-- what stands at the place now has a use
abbrev pub takes_place : Option PoolEntry → Bool
takes_place o = option_map_or (λ p. not (is_free p)) o false

-- the three parts of a draft over a list
abbrev pub over : List PoolEntry → Changes → PoolIndexParts
over ps c = record {
  places = laid (place_in c.changed) ps ++ places_of c.added.items;
  under = record { places = ps; steps = 0 };
  free = λ i. has_place c.given i || (passes_at is_free ps i && nat_le c.passed i);
  room = room_over c.room ps;
  steps = 0;
}

-- the same, with the steps that were taken on the list and on the draft
abbrev pub drafted : UnderlyingPlaces → Changes → ℕ → PoolIndexParts
drafted base c steps = record (over base.places c) { under = base; steps = steps }

-- the draft holds the place, and the places of its text
pub record DraftHoldsPlace (ps : List PoolEntry) (c : Changes) (i : ℕ) : Type 0 where
  pub held : i < length ps → IsSome (get nat_cmp c.changed i)
  pub known : IsSome (get_by_text c.room (slice_index_or (over ps c).places i empty_pool_entry).text)

-- the list once the changes are taken over
unfoldable pub taken_over : List PoolEntry → Changes → List PoolEntry
taken_over ps c = (over ps c).places

-- changes that a draft over the list has made
unfoldable pub AreChangesOf : List PoolEntry → Changes → Type 0
AreChangesOf ps c = PoolIndexMatches (over ps c)
