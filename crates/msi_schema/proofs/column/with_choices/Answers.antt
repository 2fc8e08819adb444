use Rattle.std.proofs.Common.{◌∙◌, ap, map}
use Rattle.msi_values.specs.Borrowed.{borrowed_datum}
use Rattle.msi_columns.specs.Held.{built}
use Rattle.msi_schema.proofs.Rows.{choices_known}
use Rattle.msi_schema.proofs.column.with_choices.Goals as goal

pub returns-clause-ok : goal.returns-clause-ok
returns-clause-ok c = λ kind.
    c.in_ok-chosen.ensures.ok kind
    ∙ choices_known (borrowed_datum c.args.choices) c.in-Some.choices.now (map (λ part. part.now) c.deref.result.now) (built c.args.builder kind) c.in-Some.ensures
    (ap (λ parts. map (λ part. part.now) parts) c.deref.ensures.value ∙ c.in_ok-values.ensures)
