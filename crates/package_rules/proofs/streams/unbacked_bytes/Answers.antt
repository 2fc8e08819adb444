use Rattle.std.proofs.Common.{◌∙◌, ℕ, Bool, List, ap, not}
use Rattle.std.specs.Prelude.{◌&&◌}
use Rattle.std.proofs.lemmas.Result.{IfOk-weaker}
use Rattle.package_rules.specs.Cells.{is_bytes}
use Rattle.package_rules.specs.Places.{places_where}
use Rattle.package_rules.specs.Streams.{is_binary, stream_name}
use Rattle.package_rules.proofs.streams.unbacked_bytes.Goals as goal

pub returns : goal.returns
returns c =
    IfOk-weaker c.places_where.result _ _
    (λ r h. h ∙ ap (λ (has : List ℕ → Bool). places_where (λ t c. is_binary c.kind) (λ t c row d. is_bytes d && not (has (stream_name t row))) c.args.listing.now)
    (λ i q. c.in_ok-names.ensures q i))
    c.places_where.ensures
