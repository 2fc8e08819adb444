use Rattle.std.proofs.Common.{◌≡◌, ◌++◌, ◌∷◌, string_bytes, take}
use Rattle.std.specs.List.{flat_map}
use Rattle.package_rules.specs.Parts.{said}
use Rattle.package_rules.specs.Streams.{shown}
use Rattle.package_rules.proofs.streams.push_key.Given as goal

abbrev pub invariant-loop-part : goal.invariant-loop-part
invariant-loop-part l = string_bytes l.name ≡ string_bytes l.fn.name ++ flat_map (λ p. 46 ∷ shown (said p)) (take l.part-index l.key)
