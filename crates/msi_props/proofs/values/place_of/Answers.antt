use Rattle.std.proofs.Common.{arith, ◌∙◌, refl, add-one}
use Rattle.std.proofs.lemmas.Option.{slice_get_read, slice_get_within}
use Rattle.msi_props.proofs.Putting.{put_on}
use Rattle.msi_props.proofs.values.place_of.Goals as goal

pub loop-place-preserved : goal.loop-place-preserved
loop-place-preserved c = λ v.
    let at = slice_get_read c.args.values.now _ c.loop-place.place c.index-values-place.result refl (omega arith) c.index-values-place.is in
    rw add-one (c.loop-place.invariant v ∙ put_on c.args.number v c.args.values.now c.loop-place.place c.index-values-place.result at (omega arith))

pub returns-clause-found : goal.returns-clause-found
returns-clause-found c = λ e at. absurd (omega (arith, slice_get_within c.args.values.now _ e at))
