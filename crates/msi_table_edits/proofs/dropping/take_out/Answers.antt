use Rattle.std.proofs.Common.{◌∙◌, ap, not, rules}
use Rattle.std.specs.Prelude.{bytes_eq}
use Rattle.std.specs.Rc.{rc_value}
use Rattle.std.proofs.lemmas.Fn.{filter_same}
use Rattle.msi_schema.specs.Headings.{headings_in}
use Rattle.msi_tables.specs.Held.{heading_of}
use Rattle.msi_table_edits.proofs.DropExits.{taken_out}
use Rattle.msi_table_edits.proofs.dropping.take_out.Goals as goal

pub returns : goal.returns
returns c = ap headings_in (filter_same _ (λ t. not (bytes_eq (heading_of (rc_value t)).name c.args.name.now)) _ (λ x b f' r. search rules) _ _ c.retain.ensures.filtered) ∙ taken_out c.args.name.now c.args.tables.now.items
