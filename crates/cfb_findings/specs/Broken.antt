-- Streams whose bytes aren't all there.
use Rattle.std.specs.Prelude.{◌≡◌, ◌⊎◌, ℕ, List, [], ◌∷◌}
use Rattle.cfb_soundness.specs.Uses.{EntryHas, SectorTables}

-- the entry has what it uses: a stream a chain that is long enough, whose bytes stand in the file ([MS-CFB] 2.6.3)
abbrev pub HasAllItUses : SectorTables → ℕ → Type 0
HasAllItUses t id = (sectors : List ℕ) × (minis : List ℕ) × EntryHas t id sectors minis

-- THE ENTRIES that haven't, of these, in order
abbrev pub AreBroken : SectorTables → List ℕ → List ℕ → Type 0
AreBroken t [] found = found ≡ []
AreBroken t (id ∷ ids) found =
    (HasAllItUses t id × AreBroken t ids found)
    ⊎ ((HasAllItUses t id → ⊥) × (rest : List ℕ) × (found ≡ id ∷ rest) × AreBroken t ids rest)
