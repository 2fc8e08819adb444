-- The parts of a path that are still to come.
use Rattle.std.specs.Prelude.{ℕ, ◌+◌, ◌-◌, ◌==◌, List, [], ◌∷◌, Option, Some, None, if◌then◌else◌}
use Rattle.std.specs.Borrow.{Bor}
use Rattle.cfb_tree.specs.Paths.{is_back, is_dropped, parts_of}
use Rattle.cfb_entries.specs.declared.parts.Parts.{Parts}

-- the parts of a text that is left
abbrev pub parts_in : Option (Bor (List ℕ)) → List (List ℕ)
parts_in None = []
parts_in (Some text) = parts_of text.now

abbrev pub parts_left : Parts → List (List ℕ)
parts_left parts = parts_in parts.text

-- the parts behind the one that takes back a name in front of them all, of which so many names are to be taken back before: none
-- where that name stays
abbrev pub goes_back : List (List ℕ) → ℕ → Option (List (List ℕ))
goes_back [] depth = None
goes_back (part ∷ parts) depth =
    if is_dropped part then goes_back parts depth
    else if is_back part then (if depth == 0 then Some parts else goes_back parts (depth - 1))
    else goes_back parts (depth + 1)
