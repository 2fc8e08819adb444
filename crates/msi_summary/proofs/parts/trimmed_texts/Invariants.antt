use Rattle.std.proofs.Common.{◌≡◌, ◌++◌, drop, map}
use Rattle.std.specs.Prelude.{string_bytes}
use Rattle.std.specs.Str.{trim}
use Rattle.msi_summary.proofs.parts.trimmed_texts.Given as goal

-- the texts so far, and those to come
abbrev pub invariant-loop-text : goal.invariant-loop-text
invariant-loop-text l = map string_bytes l.parts.items ++ map trim (map (λ t. t.now) (drop l.text-index l.texts)) ≡ map trim (map (λ t. t.now) l.texts)
