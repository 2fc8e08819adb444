-- Where a query finds tables, and what it answers of them.
use Rattle.std.specs.Prelude.{◌≡◌, ◌⊎◌, ℕ, List, Option, Result, Err, Ok, MatchResult}
use Rattle.cfb_medium.specs.declared.error.Error.{Error}
use Rattle.cfb_medium.specs.declared.error.Error.TheVariants.{InvalidInput, Memory, NotFound}
use Rattle.msi_tables.specs.Table.{Table}

-- the tables by their names
abbrev pub TablesByName : Type 0
TablesByName = List ℕ → Option Table

-- a table isn't there, or a column
abbrev pub IsRefusedSelect : Error → Type 0
IsRefusedSelect e = (e ≡ NotFound) ⊎ (e ≡ InvalidInput)

-- The answer is what a definition says of the tables, whichever the source is said to have, its value seen so; a fault of the source and want of memory
-- may come in its place.
abbrev pub AnswersOf : {X : Type 0} → (TablesByName → Type 0) → (Error → Type 0) → (X → Table) → Result X Error → (TablesByName → Result Table Error) → Type 0
AnswersOf has is_fault see r expected =
    MatchResult r (λ x. (tables : TablesByName) → has tables → expected tables ≡ Ok (see x))
    (λ e. (e ≡ Memory) ⊎ is_fault e ⊎ (IsRefusedSelect e × ((tables : TablesByName) → has tables → expected tables ≡ Err e)))
