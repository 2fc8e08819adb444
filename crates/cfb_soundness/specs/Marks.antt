-- Marks of the parts of a file: which of them serve a use.
use Rattle.std.specs.Prelude.{◌≡◌, ℕ, ◌+◌, ◌<◌, ◌≤◌, Bool, false, List, [], ◌∷◌, length, if◌then◌else◌, nat_eq, slice_index_or}
use Rattle.std.specs.List.{AllByRecursion}

-- how often the part stands in the list
abbrev pub times : ℕ → List ℕ → ℕ
times n [] = 0
times n (x ∷ xs) = (if nat_eq n x then 1 else 0) + times n xs

-- how many uses the marks tell of the part: one where it is marked
abbrev pub mark : List Bool → ℕ → ℕ
mark marks n = if slice_index_or marks n false then 1 else 0

-- these parts were marked, each once, and none was marked before
pub record MarksEachOnce (parts : List ℕ) (old new : List Bool) : Type 0 where
  pub size : length new ≡ length old
  pub marks : (n : ℕ) → mark new n ≡ times n parts + mark old n

-- there are marks for these parts, none of them is marked, and none stands twice among them
pub record CanTake (parts : List ℕ) (marks : List Bool) : Type 0 where
  pub there : AllByRecursion (λ n. n < length marks) parts
  pub once : (n : ℕ) → times n parts + mark marks n ≤ 1
