use Rattle.std.proofs.Common.{◌∙◌, sym}
use Rattle.std.specs.Str.{bytes_eq}
use Rattle.idt_imports.proofs.ColumnsRead.{any_map}
use Rattle.idt_imports.proofs.headings.is_among.Goals as goal

pub returns : goal.returns
returns c = c.contains.ensures.value ∙ sym (any_map (λ n. bytes_eq n c.args.name.now) (λ n. n.now) c.args.names.now)
