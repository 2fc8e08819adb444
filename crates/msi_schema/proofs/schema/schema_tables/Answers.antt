use Rattle.std.proofs.Common.{◌∙◌, ap}
use Rattle.msi_schema.specs.Index.{rows_said}
use Rattle.msi_schema.proofs.Judged.{refused_by, told_by}
use Rattle.msi_schema.proofs.schema.schema_tables.Goals as goal

pub returns-clause-ok : goal.returns-clause-ok
returns-clause-ok c =
    told_by _ _ _ _ _ _ _ _ (ap rows_said c.deref.ensures.value ∙ c.in_ok-tables.ensures.ok) (ap rows_said c.deref-2.ensures.value ∙ c.in_ok-columns.ensures.ok)
    (ap rows_said c.deref-3.ensures.value ∙ c.in_ok-validation.ensures.ok) c.long_string_refs.ensures c.tables_of_values.result c.tables_of_values.ensures.ok

pub returns-clause-errors : goal.returns-clause-errors
returns-clause-errors c =
    refused_by _ _ _ _ _ _ (ap rows_said c.deref.ensures.value ∙ c.in_ok-tables.ensures.ok) (ap rows_said c.deref-2.ensures.value ∙ c.in_ok-columns.ensures.ok)
    (ap rows_said c.deref-3.ensures.value ∙ c.in_ok-validation.ensures.ok) c.tables_of_values.result c.tables_of_values.ensures.errors
