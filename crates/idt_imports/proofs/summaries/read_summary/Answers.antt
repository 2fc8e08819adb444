use Rattle.std.proofs.Common.{◌∙◌, sym, ap, map}
use Rattle.idt_rows.specs.Rows.{datum_of}
use Rattle.idt_summaries.specs.Reading.{row_says}
use Rattle.msi_props.specs.Held.{pair_in}
use Rattle.idt_imports.proofs.SummaryRead.{no_row, one_row}
use Rattle.idt_tables.proofs.EachRead.{begun}
use Rattle.idt_imports.proofs.summaries.read_summary.Goals as goal

pub loop-at-init : goal.loop-at-init
loop-at-init c = begun _ _ (ap (map pair_in) c.new.ensures.items)

pub loop-at-preserved : goal.loop-at-preserved
loop-at-preserved c =
    let told = c.in_ok-push_row.ensures in
    one_row (λ row. map datum_of row.items) c.args.rows.now c.loop-at.at c.index-rows-at.result (map pair_in c.loop-at.summary.properties.items) (map pair_in c.push_row.new.summary.properties.items) told.0 _ c.loop-at-test.true
    c.index-rows-at.is (ap (λ cells. row_says (map datum_of cells)) (sym c.deref.ensures.value) ∙ told.1) told.2 c.loop-at.invariant

pub returns : goal.returns
returns c = no_row (λ row. map datum_of row.items) c.args.rows.now c.loop-at.at (map pair_in c.loop-at.summary.properties.items) _ c.loop-at-test.false c.loop-at.invariant
