-- How a reader answers what a file holds.
use Rattle.std.specs.Prelude.{◌≡◌, ◌⊎◌, Option, Some, None, Result, Ok, Err}
use Rattle.cfb_medium.specs.declared.error.Error.{Error}
use Rattle.cfb_medium.specs.declared.error.Error.TheVariants.{Memory, InvalidInput}

-- the value that is there, seen so; where none is, `InvalidInput`; only want of memory may come in its place
abbrev pub ReturnsOrInvalidInput : {X Y : Type 0} → (X → Y) → Result X Error → Option Y → Type 0
ReturnsOrInvalidInput see (Ok x) there = there ≡ Some (see x)
ReturnsOrInvalidInput see (Err e) there = (e ≡ Memory) ⊎ ((e ≡ InvalidInput) × (there ≡ None))
