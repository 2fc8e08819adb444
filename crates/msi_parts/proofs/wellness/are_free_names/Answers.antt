use Rattle.std.proofs.Common.{◌∙◌, sym}
use Rattle.std.proofs.lemmas.List.Folds.{list_all-map}
use Rattle.std.specs.Rc.{rc_value}
use Rattle.msi_spec.specs.Sound.{is_free_table_name}
use Rattle.msi_tables.specs.Held.{heading_of}
use Rattle.msi_parts.proofs.wellness.are_free_names.Goals as goal

pub returns : goal.returns
returns c = c.have_free_names.ensures ∙ sym (list_all-map (λ h. is_free_table_name h.name) (λ t. heading_of (rc_value t)) c.args.tables.now)
