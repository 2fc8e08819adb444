use Rattle.std.proofs.Common.{◌≡◌, ◌++◌, ◌∷◌, drop}
use Rattle.std.specs.Prelude.{string_bytes}
use Rattle.std.specs.Fmt.{decimal}
use Rattle.std.specs.List.{flat_map}
use Rattle.msi_values.proofs.value.push_others.Given as goal

-- the text so far and what is to come are the whole
abbrev pub invariant-loop-language : goal.invariant-loop-language
invariant-loop-language l =
    string_bytes l.words ++ flat_map (λ y. 44 ∷ decimal y) (drop l.language-index l.languages)
    ≡ string_bytes l.initial.words ++ flat_map (λ y. 44 ∷ decimal y) l.languages
