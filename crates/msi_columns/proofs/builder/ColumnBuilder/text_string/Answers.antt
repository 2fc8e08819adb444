use Rattle.std.proofs.Common.{◌∙◌}
use Rattle.msi_columns.specs.declared.column.ColumnType.TheVariants as kind
use Rattle.msi_columns.proofs.builder.ColumnBuilder.text_string.Goals as goal

pub returns : goal.returns
returns c = c.string.ensures ∙ c.category.ensures (kind.Str c.args.max_len)
