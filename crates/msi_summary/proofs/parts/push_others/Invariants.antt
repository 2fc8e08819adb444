use Rattle.std.proofs.Common.{◌≡◌, ◌++◌, drop, map}
use Rattle.std.specs.Prelude.{string_bytes, codes}
use Rattle.std.specs.Fmt.{decimal}
use Rattle.std.specs.List.{flat_map}
use Rattle.msi_summary.proofs.parts.push_others.Given as goal

-- what stands so far, and what is to come
abbrev pub invariant-loop-language : goal.invariant-loop-language
invariant-loop-language l =
    string_bytes l.words ++ flat_map (λ t. codes "," ++ t) (map decimal (drop l.language-index l.languages)) ≡ string_bytes l.initial.words ++ flat_map (λ t. codes "," ++ t) (map decimal l.languages)
