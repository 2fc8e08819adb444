use Rattle.std.proofs.Common.{◌∙◌, drop, ap}
use Rattle.reread_texts.proofs.SetParts.{no_offset, same_offset}
use Rattle.reread_texts.proofs.section.section_of.Goals as goal

pub returns-in-Ok-clause-read : goal.returns-in-Ok-clause-read
returns-in-Ok-clause-read c = λ head begins.
    c.behind.ensures ∙ ap (λ n. drop n c.args.bytes.now) (same_offset c.args.bytes.now c.behind-rest.result.now c.read_u32.new.reader.now c.in-Ok.offset head begins c.behind-rest.ensures c.in-Ok.ensures.ok)

pub returns-in-Err-clause-read : goal.returns-in-Err-clause-read
returns-in-Err-clause-read c = λ head begins. absurd (no_offset c.args.bytes.now c.behind-rest.result.now c.in-Err.field-0 head begins c.behind-rest.ensures c.in-Err.ensures.errors)
