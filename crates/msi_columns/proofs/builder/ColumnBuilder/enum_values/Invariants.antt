use Rattle.std.proofs.Common.{◌≡◌, ◌++◌, map, drop}
use Rattle.std.specs.Prelude.{string_bytes}
use Rattle.msi_columns.proofs.builder.ColumnBuilder.enum_values.Given as goal

abbrev pub invariant-loop-value : goal.invariant-loop-value
invariant-loop-value l = map string_bytes l.enum_values.items ++ map (λ value. value.now) (drop l.value-index l.values) ≡ map (λ value. value.now) l.values
