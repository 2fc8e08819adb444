use Rattle.std.proofs.Common.{◌∙◌, sym}
use Rattle.std.proofs.lemmas.List.{take-map}
use Rattle.msi_values.specs.Borrowed.{borrowed_datum}
use Rattle.msi_schema.proofs.index.key_of.Goals as goal

pub returns-clause-ok : goal.returns-clause-ok
returns-clause-ok c = c.in_ok-front.ensures.ok ∙ sym (take-map borrowed_datum c.args.width c.args.row.now)
