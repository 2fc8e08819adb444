-- What counting shows.
use Rattle.std.specs.Prelude.{ℕ, List}
use Rattle.cfb_findings.specs.declared.counts.Counts.{Counts}

-- the counts, by the parts' numbers
abbrev pub counts_of : Counts → List ℕ
counts_of it = it.items.items
