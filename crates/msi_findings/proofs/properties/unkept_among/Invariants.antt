use Rattle.std.proofs.Common.{◌≡◌, ◌++◌, ℕ, List, drop, Ok}
use Rattle.msi_props.specs.Props.{properties_at, Property}
use Rattle.msi_findings.specs.Unkept.{unkept_numbers}
use Rattle.msi_findings.proofs.properties.unkept_among.Given as goal

-- those so far, and those to come
abbrev pub invariant-loop-pair : goal.invariant-loop-pair
invariant-loop-pair l = (version : ℕ) (values : List (ℕ × Property)) → properties_at version l.section l.pairs ≡ Ok values
    → (more : List (ℕ × Property)) × (properties_at version l.section (drop l.pair-index l.pairs) ≡ Ok more)
    × (l.found.items ++ unkept_numbers l.codepage more ≡ unkept_numbers l.codepage values)
