use Rattle.std.proofs.Common.{◌∙◌}
use Rattle.std.proofs.lemmas.Result.{IfOk-weaker}
use Rattle.package_rules.proofs.ForeignFound.{referred_all}
use Rattle.package_rules.proofs.refers.lost_references.Goals as goal

pub returns : goal.returns
returns c =
    IfOk-weaker c.places_where.result _ _
    (λ r h. h ∙ referred_all c.args.listing.now c.in_ok-said.said c.in_ok-asked.asked c.in_ok-entries.entries c.in_ok-said.ensures c.in_ok-asked.ensures c.in_ok-entries.ensures)
    c.places_where.ensures
