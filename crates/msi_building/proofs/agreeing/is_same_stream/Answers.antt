use Rattle.std.proofs.Common.{◌∙◌, ap, sym}
use Rattle.std.proofs.lemmas.Bool.Decides.{Decides-eqb}
use Rattle.std.proofs.lemmas.Slice.Eq.{slice_eq-Decides}
use Rattle.std.specs.Prelude.{Ok}
use Rattle.msi_building.proofs.agreeing.is_same_stream.Goals as goal

pub returns-clause-same : goal.returns-clause-same
returns-clause-same c P Q h k same =
    let is = sym c.into_bytes-found.ensures ∙ (slice_eq-Decides Decides-eqb _ _ _ c.eq.ensures).0 same ∙ c.into_bytes-bytes.ensures in
    c.in_ok-read_stream-2.ensures.answer Q k ∙ ap Ok is ∙ sym (c.in_ok-read_stream.ensures.answer P h)
