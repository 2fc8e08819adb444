use Rattle.std.proofs.Common.{◌∙◌, ap}
use Rattle.std.specs.Prelude.{option_and_then}
use Rattle.uuid.specs.Text.{parsed}
use Rattle.msi_summary.specs.Summary.{unbraced}
use Rattle.msi_summary.proofs.Identifiers.{read_or_none}
use Rattle.msi_summary.proofs.summary.SummaryInfo.uuid.Goals as goal

pub returns-in-Some : goal.returns-in-Some
returns-in-Some c =
    c.ok.ensures.value ∙ read_or_none c.try_parse_ascii.result _ c.try_parse_ascii.ensures.ok c.try_parse_ascii.ensures.bytes
    ∙ ap parsed c.without_braces.ensures ∙ ap (option_and_then (λ t. parsed (unbraced t))) c.in-Some.ensures
