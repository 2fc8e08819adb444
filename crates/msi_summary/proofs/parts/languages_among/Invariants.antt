use Rattle.std.proofs.Common.{◌≡◌, ◌++◌, drop, map}
use Rattle.std.specs.List.{filter_map}
use Rattle.msi_summary.specs.Summary.{id_read}
use Rattle.msi_summary.proofs.parts.languages_among.Given as goal

-- the languages so far, and those to come
abbrev pub invariant-loop-part : goal.invariant-loop-part
invariant-loop-part l = l.languages.items ++ filter_map id_read (map (λ p. p.now) (drop l.part-index l.parts)) ≡ filter_map id_read (map (λ p. p.now) l.parts)
