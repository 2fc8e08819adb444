use Rattle.std.proofs.Common.{◌≡◌, ◌∙◌, Some, ap, sym}
use Rattle.cfb_medium.specs.declared.error.Error.TheVariants.{InvalidData}
use Rattle.msi_texts.specs.Results.{or_refused}
use Rattle.msi_schema.specs.Headings.{at_text}
use Rattle.msi_schema.proofs.Judged.{counted_schema}
use Rattle.msi_schema.proofs.Numbered.{all_answers_so}
use Rattle.msi_schema.proofs.found.columns_counted.Goals as goal

pub returns : goal.returns
returns c = λ rows others one other counted.
    let t = c.args.name.now in
    let n = c.in-Some.count in
    let found : Some n ≡ at_text c.args.counts.now t = c.in-Some.ensures ∙ c.get.ensures.value in
    all_answers_so c.columns_of_table.result _ _
    (ap (λ o. or_refused o InvalidData) (sym (counted_schema rows others t n (found ∙ counted) c.if-count-eq0.false)))
    (c.columns_of_table.ensures rows others one other)
