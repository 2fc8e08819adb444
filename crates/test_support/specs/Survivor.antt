-- What a crash may leave of a medium of the tests.
use Rattle.std.specs.Prelude.{◌≡◌, ℕ, ◌<◌, ◌≤◌, List, [], length, slice_index_or, map, Option, Some}
use Rattle.test_support.specs.declared.survivor.Survivor.{Survivor}

-- the lists of bytes that a crash might have left so far
abbrev pub lists_kept : Survivor → List (List ℕ)
lists_kept m = map (λ bytes. bytes.items) m.kept.items

-- one of them, from this place on
abbrev pub AreLeftFrom : Survivor → ℕ → Option (List ℕ) → Type 0
AreLeftFrom m first given = (k : ℕ) × (first ≤ k) × (k < length (lists_kept m)) × (given ≡ Some (slice_index_or (lists_kept m) k []))

-- these bytes are all that a crash may leave now
abbrev pub IsKeptAlone : Survivor → List ℕ → Type 0
IsKeptAlone m bytes = (given : Option (List ℕ)) → AreLeftFrom m m.first given → given ≡ Some bytes

-- nothing was added to what a crash may leave
pub record AddsNothing (old new : Survivor) : Type 0 where
  pub later : old.first ≤ new.first
  pub left : (first : ℕ) (given : Option (List ℕ)) → AreLeftFrom new first given → AreLeftFrom old first given
