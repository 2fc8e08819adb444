-- What stands beside the list of places: which places are free, and which have room for one more use of a text.
use Rattle.std.specs.Prelude.{◌≡◌, ℕ, zero, suc, ◌+◌, ◌<◌, ◌≤◌, ◌^◌, Bool, true, false, not, ◌&&◌, List, [], ◌∷◌, length, nat_lt, ◌==◌, if◌then◌else◌, bytes_eq, Option, IfSome, IfNone}
use Rattle.msi_pool_index.specs.Places.{PoolEntry}

-- a list, and the steps that were taken on it
pub record UnderlyingPlaces : Type 0 where
  pub places : List PoolEntry
  pub steps : ℕ

-- no list
abbrev pub none_under : UnderlyingPlaces
none_under = record { places = []; steps = 0 }

-- the list, the set and the map, each as what a look-up in it tells; the list that they lie over, which no call changes; and the steps that were taken on them
pub record PoolIndexParts : Type 0 where
  pub places : List PoolEntry
  pub under : UnderlyingPlaces
  pub free : ℕ → Bool
  pub room : List ℕ → ℕ → Bool
  pub steps : ℕ

-- a place without a use
abbrev pub is_free : PoolEntry → Bool
is_free p = p.count == 0

-- a place that holds the text and can take one more use
abbrev pub is_roomy : List ℕ → PoolEntry → Bool
is_roomy t p = not (p.count == 0) && (bytes_eq t p.text && nat_lt p.count 65535)

-- the place at an index passes the test
abbrev pub passes_at : (PoolEntry → Bool) → List PoolEntry → ℕ → Bool
passes_at test [] i = false
passes_at test (p ∷ ps) zero = test p
passes_at test (p ∷ ps) (suc i) = passes_at test ps i

-- the set has just the free places, and the map at each text just the places with room for it
pub record PoolIndexMatches (parts : PoolIndexParts) : Type 0 where
  pub few : length parts.places < 2 ^ 32
  pub frees : (i : ℕ) → parts.free i ≡ passes_at is_free parts.places i
  pub rooms : (t : List ℕ) (i : ℕ) → parts.room t i ≡ passes_at (is_roomy t) parts.places i

-- the set stays
abbrev pub KeepsFree : PoolIndexParts → PoolIndexParts → Type 0
KeepsFree old new = (i : ℕ) → new.free i ≡ old.free i

-- the map stays
abbrev pub KeepsRoom : PoolIndexParts → PoolIndexParts → Type 0
KeepsRoom old new = (t : List ℕ) (i : ℕ) → new.room t i ≡ old.room t i

-- all three stay
abbrev pub KeepsAll : PoolIndexParts → PoolIndexParts → Type 0
KeepsAll old new = (new.places ≡ old.places) × KeepsFree old new × KeepsRoom old new

-- whether one place is in the set changes to this
abbrev pub SetsFree : ℕ → Bool → PoolIndexParts → PoolIndexParts → Type 0
SetsFree n b old new = (i : ℕ) → new.free i ≡ (if i == n then b else old.free i)

-- whether one place of a text is in the map changes to this
abbrev pub SetsRoom : List ℕ → ℕ → Bool → PoolIndexParts → PoolIndexParts → Type 0
SetsRoom text n b old new = (t : List ℕ) (i : ℕ) → new.room t i ≡ (if bytes_eq t text && (i == n) then b else old.room t i)

-- at most so many steps were taken, over the same list
abbrev pub TakesAtMostSteps : ℕ → PoolIndexParts → PoolIndexParts → Type 0
TakesAtMostSteps n old new = (new.steps ≤ old.steps + n) × (new.under ≡ old.under)

-- the least that passes, or none
pub record IsLeast (passes : ℕ → Bool) (found : Option ℕ) : Type 0 where
  pub some : IfSome found (λ i. passes i ≡ true)
  pub none_below : IfSome found (λ i. (k : ℕ) → k < i → passes k ≡ false)
  pub none : IfNone found ((k : ℕ) → passes k ≡ false)

-- the list of places as contracts see it, the list that they lie over, and the steps that were taken
pub record Counted : Type 0 where
  pub places : List PoolEntry
  pub under : UnderlyingPlaces
  pub steps : ℕ

-- the parts as contracts see them
abbrev pub counted : PoolIndexParts → Counted
counted parts = record { places = parts.places; under = parts.under; steps = parts.steps }
