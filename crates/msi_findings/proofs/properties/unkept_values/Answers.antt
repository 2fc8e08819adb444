use Rattle.std.proofs.Common.{◌≡◌, ℕ, List, Ok, subst, arith}
use Rattle.std.specs.Prelude.{IfOk}
use Rattle.cfb_medium.specs.declared.error.Error.TheVariants.{Memory}
use Rattle.msi_props.specs.Props.{properties_at, Property}
use Rattle.msi_texts.specs.declared.codepage.CodePage.{CodePage}
use Rattle.msi_findings.proofs.SetParts.{section_read, unkept_so}
use Rattle.msi_findings.specs.Unkept.{unkept_numbers}
use Rattle.msi_findings.proofs.properties.unkept_values.Goals as goal

pub returns-in_err-pairs : goal.returns-in_err-pairs
returns-in_err-pairs c =
    let memory : c.in_err-pairs.field-0.0 ≡ Memory = section_read c.args.bytes.now c.section_of-section.result.now c.in_ok-set.set.props c.in_ok-set.ensures.read c.section_of-section.ensures c.in_err-pairs.field-0.0 c.in_err-pairs.ensures in
    grind (arith, memory)

pub returns : goal.returns
returns c =
    let told = rw c.deref.ensures.value at c.unkept_among.ensures.ok in
    unkept_so c.args.bytes.now c.section_of-section.result.now c.in_ok-set.set.props c.in_ok-set.ensures.read c.section_of-section.ensures c.in_ok-pairs.pairs.items c.in_ok-pairs.ensures c.unkept_among.result
    (subst (λ (p : CodePage). (version : ℕ) (values : List (ℕ × Property)) → properties_at version c.section_of-section.result.now c.in_ok-pairs.pairs.items ≡ Ok values → IfOk c.unkept_among.result (λ found. found.items ≡ unkept_numbers p values)) c.codepage.ensures told)
    c.unkept_among.ensures.errors
