use Rattle.std.proofs.Common.{sym, ◌∙◌}
use Rattle.msi_values.specs.Datum.{datum_of}
use Rattle.msi_values.proofs.DataOrder.{compared_equal, compares_equal, tested_equal, tests_equal}
use Rattle.msi_values.proofs.laws.values_compare_equal.Goals as goal

pub returns : goal.returns
returns c =
    let one = datum_of c.args.one.now in
    let other = datum_of c.args.other.now in (
      λ h. compared_equal one other (sym c.compare.ensures ∙ tested_equal c.compare.result (sym c.eq.ensures ∙ h)),
      λ e. c.eq.ensures ∙ tests_equal c.compare.result (c.compare.ensures ∙ compares_equal one other e),
    )
