use Rattle.std.proofs.Common.{◌≡◌, ◌++◌, drop, map}
use Rattle.std.specs.Prelude.{string_bytes, codes}
use Rattle.std.specs.List.{flat_map}
use Rattle.msi_summary.proofs.parts.push_parts.Given as goal

-- what stands so far, and what is to come
abbrev pub invariant-loop-part : goal.invariant-loop-part
invariant-loop-part l =
    string_bytes l.words ++ flat_map (λ t. codes "; " ++ t) (map string_bytes (drop l.part-index l.parts)) ≡ string_bytes l.initial.words ++ flat_map (λ t. codes "; " ++ t) (map string_bytes l.parts)
