use Rattle.std.proofs.Common.{◌≡◌, ℕ, List, string_bytes, take}
use Rattle.std.specs.BTreeSet.{contains_text}
use Rattle.std.specs.List.{list_any}
use Rattle.std.specs.Prelude.{bytes_eq}
use Rattle.package_rules.proofs.streams.names_of_streams.Given as goal

-- the names so far are in the set
abbrev pub invariant-loop-stream : goal.invariant-loop-stream
invariant-loop-stream l = (q : List ℕ) → contains_text l.names q ≡ list_any (λ s. bytes_eq (string_bytes s) q) (take l.stream-index l.streams)
