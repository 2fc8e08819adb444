use Rattle.std.proofs.Common.{◌∙◌}
use Rattle.cfb_medium.specs.declared.error.Error.TheVariants.{InvalidData}
use Rattle.msi_values.specs.Borrowed.{borrowed_datum}
use Rattle.msi_columns.specs.Held.{built}
use Rattle.msi_schema.proofs.Rows.{category_known, category_unknown}
use Rattle.msi_schema.proofs.column.with_category.Goals as goal

pub returns-in-Ok : goal.returns-in-Ok
returns-in-Ok c = λ kind.
    c.category.ensures kind ∙ category_known (borrowed_datum c.args.name) c.in-Some.name.now c.in-Ok.category InvalidData (built c.args.builder kind) c.in-Some.ensures c.in-Ok.ensures

pub returns-in-Err : goal.returns-in-Err
returns-in-Err c = λ kind. category_unknown (borrowed_datum c.args.name) c.in-Some.name.now InvalidData c.in-Err.field-0 (built c.args.builder kind) c.in-Some.ensures c.in-Err.ensures
