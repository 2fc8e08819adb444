use Rattle.std.proofs.Common.{drop, map, string_bytes}
use Rattle.msi_props.specs.Held.{pair_in}
use Rattle.idt_summaries.proofs.Written.{Goes}
use Rattle.idt_summaries.proofs.writing.summary_text.Given as goal

-- the lines of those that are left make the file
abbrev pub invariant-loop-number : goal.invariant-loop-number
invariant-loop-number l = Goes (map pair_in l.properties) (map pair_in (drop l.number-index l.properties)) (string_bytes l.text)
