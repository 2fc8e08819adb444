use Rattle.std.proofs.Common.{◌∙◌, lit<, sym, ap}
use Rattle.std.proofs.lemmas.Str.Pattern.{strip_suffix_char}
use Rattle.std.specs.Prelude.{Some, None}
use Rattle.idt_tables.specs.Lines.{trimmed}
use Rattle.idt_tables.proofs.LinesBack.{trim_end}
use Rattle.idt_tables.proofs.LinesRead.{untrimmed}
use Rattle.idt_tables.proofs.lines.trim.Goals as goal

pub returns-in-Some : goal.returns-in-Some
returns-in-Some c = sym (ap trimmed (strip_suffix_char 13 c.args.line.now (Some c.in-Some.rest) c.in-Some.ensures.cases (lit< tt)) ∙ trim_end c.in-Some.rest.now)

pub returns-in-None : goal.returns-in-None
returns-in-None c = untrimmed c.args.line.now (strip_suffix_char 13 c.args.line.now None c.in-None.ensures.cases (lit< tt))
