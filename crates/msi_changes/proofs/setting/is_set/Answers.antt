use Rattle.std.proofs.Common.{◌∙◌, sym}
use Rattle.std.specs.Prelude.{string_bytes}
use Rattle.msi_tables.specs.Held.{heading_of}
use Rattle.msi_changes.proofs.Updating.{valid_found}
use Rattle.msi_changes.proofs.setting.is_set.Goals as goal

pub returns-in-Some : goal.returns-in-Some
returns-in-Some c = c.is_valid_value.ensures ∙ sym (valid_found (heading_of c.args.table.now).columns (string_bytes c.args.set.now.0) _ _ (sym (rw c.deref.ensures at c.in-Some.ensures)))
