use Rattle.std.proofs.Common.{◌∙◌, ap}
use Rattle.std.proofs.lemmas.List.{length-map}
use Rattle.msi_values.specs.Borrowed.{borrowed_data, borrowed_datum}
use Rattle.msi_columns.specs.Held.{built}
use Rattle.msi_schema.specs.Columns.{text_in}
use Rattle.msi_schema.proofs.Rows.{all_parts}
use Rattle.msi_schema.proofs.column.described_column.Goals as goal

pub returns-clause-ok : goal.returns-clause-ok
returns-clause-ok c = λ kind bits.
    all_parts (borrowed_data c.args.row.now) (length-map c.args.row.now borrowed_datum ∙ c.if-row-ne10.false) c.in-Some.answer.now (c.in-Some.ensures ∙ ap text_in c.value_at.ensures) c.args.name.now kind
    (borrowed_datum c.value_at-low.result) (borrowed_datum c.value_at-high.result) (borrowed_datum c.value_at-table.result) (borrowed_datum c.value_at-number.result)
    (borrowed_datum c.value_at-category.result) (borrowed_datum c.value_at-choices.result)
    c.value_at-low.ensures c.value_at-high.ensures c.value_at-table.ensures c.value_at-number.ensures c.value_at-category.ensures c.value_at-choices.ensures
    (built c.in_ok-named.named kind) (built c.with_answer-answered.result kind) (built c.with_range-ranged.result kind) (built c.in_ok-linked.linked kind)
    (built c.with_category-sorted.result kind) (built c.in_ok-chosen.chosen kind)
    (c.in_ok-named.ensures.ok kind) (c.with_answer-answered.ensures kind) (c.with_range-ranged.ensures kind) (c.in_ok-linked.ensures.ok kind) (c.with_category-sorted.ensures kind) (c.in_ok-chosen.ensures.ok kind) bits
