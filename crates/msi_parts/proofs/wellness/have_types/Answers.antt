use Rattle.std.proofs.Common.{◌∙◌, map, ap, sym, refl, arith, get_or}
use Rattle.std.proofs.lemmas.List.{length-map, take_more_same}
use Rattle.msi_columns.specs.Held.{column_of, columns_of}
use Rattle.msi_columns.specs.declared.column.ColumnType.TheVariants as kind
use Rattle.msi_parts.proofs.Columns.{said_at}
use Rattle.msi_parts.proofs.wellness.have_types.Goals as goal

pub returns-then-not-is_type : goal.returns-then-not-is_type
returns-then-not-is_type c = (
  λ never. absurd (cc),
  λ e. c.if-not-is_type.ensures.1
      (c.coltype.ensures ∙ said_at (λ k. k.kind) c.args.columns.now c.loop-place.place c.index-columns-place.result kind.Int16 (omega (arith, c.loop-place-test.true, c.if-columns-types.false)) c.index-columns-place.is
      ∙ ap (λ ts. get_or ts c.loop-place.place kind.Int16) e),
)

pub loop-place-preserved : goal.loop-place-preserved
loop-place-preserved c =
    let columns = columns_of c.args.columns.now in
    take_more_same (map (λ k. k.kind) columns) c.args.types.now c.loop-place.place kind.Int16
    (omega (arith, c.loop-place-test.true, c.if-columns-types.false, length-map columns (λ k. k.kind), length-map c.args.columns.now column_of))
    c.loop-place-test.true c.loop-place.invariant
    (sym (said_at (λ k. k.kind) c.args.columns.now c.loop-place.place c.index-columns-place.result kind.Int16 (omega (arith, c.loop-place-test.true, c.if-columns-types.false)) c.index-columns-place.is)
    ∙ sym c.coltype.ensures ∙ c.if-not-is_type.ensures.0 refl)
