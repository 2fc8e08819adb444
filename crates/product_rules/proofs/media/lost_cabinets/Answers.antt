use Rattle.std.proofs.Common.{◌∙◌, ℕ, Bool, List, ap}
use Rattle.std.specs.Prelude.{◌&&◌, bytes_eq, codes}
use Rattle.std.proofs.lemmas.Result.{IfOk-weaker}
use Rattle.package_rules.specs.Places.{places_where}
use Rattle.product_rules.specs.Media.{is_lost_cabinet, is_media}
use Rattle.product_rules.proofs.media.lost_cabinets.Goals as goal

pub returns : goal.returns
returns c =
    IfOk-weaker c.places_where.result _ _
    (λ r h. h ∙ ap (λ (has : List ℕ → Bool). places_where (λ t c. is_media t.name && bytes_eq c.name (codes "Cabinet")) (λ t c row d. is_lost_cabinet has d) c.args.listing.now)
    (λ i q. c.in_ok-names.ensures q i))
    c.places_where.ensures
