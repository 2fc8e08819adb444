use Rattle.std.proofs.Common.{◌≡◌, length}
use Rattle.std.specs.List.{list_any}
use Rattle.cfb_tree.specs.Paths.{is_back}
use Rattle.cfb_entries.specs.Parts.{parts_left}
use Rattle.cfb_entries.proofs.parts.Parts.has_back.Given as goal

abbrev pub invariant-parts : goal.invariant-parts
invariant-parts l = list_any (λ part. is_back part) (parts_left l.parts) ≡ list_any (λ part. is_back part) (parts_left l.self)

abbrev pub decreases-parts : goal.decreases-parts
decreases-parts l = length (parts_left l.parts)
