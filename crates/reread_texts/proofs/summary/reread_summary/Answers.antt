use Rattle.std.proofs.Common.{◌≡◌, ◌∙◌, ◌⊎◌, ◌++◌, ap, arith}
use Rattle.cfb_medium.specs.declared.error.Error.TheVariants.{Memory}
use Rattle.msi_props.specs.Held.{SetState}
use Rattle.msi_props.specs.Props.{props_bytes}
use Rattle.reread_texts.proofs.SetsTold.{section_read, told, write_refused}
use Rattle.reread_texts.proofs.summary.reread_summary.Goals as goal

pub returns-in_err-pairs : goal.returns-in_err-pairs
returns-in_err-pairs c =
    let memory : c.in_err-pairs.field-0.0 ≡ Memory = section_read c.args.bytes.now c.section_of-section.result.now c.in_ok-set.set.props c.in_ok-set.ensures.read c.section_of-section.ensures.read c.in_err-pairs.field-0.0 c.in_err-pairs.ensures.pairs in
    grind (arith, memory)

pub returns-in_err-write : goal.returns-in_err-write
returns-in_err-write c =
    let gives = rw c.deref.ensures.value at c.in_ok-give_texts.ensures.values in
    let lacks = rw c.deref.ensures.value at c.in_ok-give_texts.ensures.lacking in
    let refused = write_refused c.args.bytes.now c.section_of-section.result.now c.in_ok-set.set.props c.in_ok-set.ensures.read c.section_of-section.ensures.read
    c.args.page c.in_ok-pairs.pairs.items c.in_ok-pairs.ensures.pairs c.remove.new.self.props c.give_texts.new.set.props c.set_codepage.new.self.props
    c.new-lacking.result.items c.give_texts.new.lacking.items c.new-lacking.ensures.items (ap (λ (s : SetState). s.props) c.remove.ensures) gives lacks (ap (λ (s : SetState). s.props) c.in_ok-set_codepage.ensures.ok)
    c.in_err-write.field-0.0 c.in_err-write.ensures.after_error.1 in
    grind (arith, refused)

pub returns : goal.returns
returns c =
    let gives = rw c.deref.ensures.value at c.in_ok-give_texts.ensures.values in
    let lacks = rw c.deref.ensures.value at c.in_ok-give_texts.ensures.lacking in
    told c.args.bytes.now c.section_of-section.result.now c.in_ok-set.set.props c.in_ok-set.ensures.read c.section_of-section.ensures.read
    c.args.page c.in_ok-pairs.pairs.items c.in_ok-pairs.ensures.pairs c.remove.new.self.props c.give_texts.new.set.props c.set_codepage.new.self.props
    c.new-lacking.result.items c.give_texts.new.lacking.items c.new-lacking.ensures.items (ap (λ (s : SetState). s.props) c.remove.ensures) gives lacks (ap (λ (s : SetState). s.props) c.in_ok-set_codepage.ensures.ok)
    c.write.new.writer.items c.num_sections-sections.result c.num_sections-sections.ensures c.in_ok-write.ensures.ok.0
    (c.in_ok-write.ensures.ok.1 ∙ ap (λ l. l ++ props_bytes c.set_codepage.new.self.props) c.new-written.ensures.items)
