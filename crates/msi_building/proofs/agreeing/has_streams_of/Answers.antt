use Rattle.std.proofs.Common.{◌∙◌, ap, map, sym}
use Rattle.std.specs.Prelude.{string_bytes}
use Rattle.msi_building.proofs.agreeing.has_streams_of.Goals as goal

pub returns : goal.returns
returns c P h same =
    let told = c.in_ok-found.ensures.names ∙ c.in_ok-streams.ensures.answer P h in
    sym told ∙ sym (ap (map string_bytes) c.deref.ensures.value) ∙ c.are_same_names.ensures same
