use Rattle.std.proofs.Common.{◌∙◌, ap, sym}
use Rattle.msi_building.proofs.comparing.has_properties.Goals as goal

pub returns : goal.returns
returns g c P h same = sym (ap (λ s. s.values) h.memory.summary) ∙ ap (λ s. s.props.values) (sym c.summary_info.ensures) ∙ sym c.properties.ensures ∙ c.are_same_properties.ensures same
