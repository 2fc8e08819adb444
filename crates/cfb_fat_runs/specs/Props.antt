-- That runs are tiled is a fact.
use Rattle.std.proofs.Common.{ℕ, List, [], ◌∷◌}
use Rattle.std.proofs.Props.{props}
use Rattle.cfb_fat_runs.specs.Runs.{start_of, AreTiled, IsRight}
use Rattle.cfb_fat_runs.specs.declared.runs.Kind.{Kind}
use Rattle.cfb_fat_runs.specs.declared.runs.Kind.TheVariants.{Special, Linked}
use Rattle.cfb_fat_runs.specs.declared.runs.Run.{Run}

is_right_prop : (kind : Kind) → IsProp (IsRight kind)
is_right_prop (Special n) = hlevel props
is_right_prop (Linked n) = hlevel props

pub are_tiled_prop : (at stop : ℕ) (runs : List Run) → IsProp (AreTiled at stop runs)
are_tiled_prop at stop [] = hlevel props
are_tiled_prop at stop (run ∷ runs) = hlevel (props, is_right_prop run.kind, are_tiled_prop (start_of stop runs) stop runs)
