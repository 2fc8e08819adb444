use Rattle.std.proofs.Common.{◌++◌, ◌-◌, length, map, take}
use Rattle.std.specs.Prelude.{string_bytes}
use Rattle.msi_props.proofs.SetFits.{from_place}
use Rattle.msi_props.specs.Held.{pair_in}
use Rattle.msi.proofs.Unfit.{Taken}
use Rattle.msi.specs.Fitting.{unfit_values}
use Rattle.msi.proofs.fitting.with_unfit_values.Given as goal

-- those so far, and those to come
abbrev pub invariant-loop-value : goal.invariant-loop-value
invariant-loop-value l =
    Taken l.most (map string_bytes l.texts.items) (unfit_values l.codepage (from_place l.value-index l.values))
    (map string_bytes l.initial.texts.items ++ take (l.most - length l.initial.texts.items) (unfit_values l.codepage (map pair_in l.values)))
