use Rattle.std.proofs.Common.{◌∙◌, Bool, List, ℤ, ap, ap₂}
use Rattle.std.specs.Prelude.{◌&&◌, bytes_eq, codes}
use Rattle.std.proofs.lemmas.Result.{IfOk-weaker}
use Rattle.package_rules.specs.Places.{places_where}
use Rattle.product_rules.specs.Media.{has_media, is_beyond_media, is_reached}
use Rattle.product_rules.proofs.media.files_beyond_media.Goals as goal

pub returns : goal.returns
returns c =
    IfOk-weaker c.places_where.result _ _
    (λ r h. h ∙ ap₂
    (λ (has : Bool) (reached : ℤ → Bool). places_where (λ t c. has && bytes_eq t.name (codes "File") && bytes_eq c.name (codes "Sequence")) (λ t c row d. is_beyond_media reached d) c.args.listing.now)
    (c.has_media.ensures ∙ ap has_media c.tables-tables.ensures)
    (λ i z. (c.last_sequence.ensures z ∙ ap (λ ts. is_reached ts z) c.tables-tables.ensures) i))
    c.places_where.ensures
