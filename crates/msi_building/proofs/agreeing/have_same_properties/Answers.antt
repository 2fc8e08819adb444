use Rattle.std.proofs.Common.{◌∙◌, ap, sym}
use Rattle.msi_building.proofs.agreeing.have_same_properties.Goals as goal

pub returns : goal.returns
returns c P Q h k same =
    sym (ap (λ s. s.values) k.memory.summary) ∙ ap (λ s. s.props.values) (sym c.summary_info.ensures) ∙ sym c.properties.ensures ∙ c.are_same_properties.ensures same
    ∙ c.properties-2.ensures ∙ ap (λ s. s.props.values) c.summary_info-2.ensures ∙ ap (λ s. s.values) h.memory.summary
