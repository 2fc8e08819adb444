use Rattle.std.proofs.Common.{ℕ, take}
use Rattle.cfb_findings.specs.Seen.{tables_seen}
use Rattle.cfb_findings.specs.Broken.{AreBroken}
use Rattle.cfb_findings.specs.Held.{TellsTables}
use Rattle.cfb_findings.proofs.streams.broken_of.Given as goal

abbrev pub invariant-loop-id : goal.invariant-loop-id
invariant-loop-id g l = (file_len : ℕ) → TellsTables (tables_seen {g = g.F.ReadMedium} l.file file_len) l.fat l.minis
    → AreBroken (tables_seen {g = g.F.ReadMedium} l.file file_len) (take l.id-index l.ids) l.found.items
