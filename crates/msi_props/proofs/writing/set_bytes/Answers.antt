use Rattle.std.proofs.Common.{arith, inr, ap, refl, length}
use Rattle.std.proofs.lemmas.List.{length-map}
use Rattle.msi_props.proofs.SetWriting.{too_many}
use Rattle.msi_props.proofs.writing.set_bytes.Goals as goal

pub returns-then-values-gt-MOST_VALUES-clause-errors : goal.returns-then-values-gt-MOST_VALUES-clause-errors
returns-then-values-gt-MOST_VALUES-clause-errors c =
    inr (refl, too_many c.args.set.now.props (let same = simp length-map at (ap length c.properties-values.ensures) in omega arith))
