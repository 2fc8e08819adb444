-- What a walk over siblings has still to come.
use Rattle.std.specs.Prelude.{◌≡◌, ℕ, List, [], ◌∷◌, ◌++◌, slice_get, Some}
use Rattle.cfb_tree.specs.Directory.{Entry, Siblings}

-- the siblings that come after what hangs on the left of these: the last one and what hangs on its right, and so on up
abbrev pub Above : List Entry → List ℕ → List ℕ → Type 0
Above directory [] rest = rest ≡ []
Above directory (id ∷ lower) rest =
    (e : Entry) × (sooner : List ℕ) × (rights : List ℕ) × (slice_get directory id ≡ Some e) × Siblings directory e.right rights
    × Above directory lower sooner × (rest ≡ sooner ++ id ∷ rights)
