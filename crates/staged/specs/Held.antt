-- The pages that a medium holds in memory.
use Rattle.std.specs.Prelude.{ℕ, List, map}
use Rattle.std.specs.Global.{Box}
use Rattle.staged.specs.declared.pages.Page.{Page}
use Rattle.staged.specs.declared.pages.Pages.{Pages}

-- in rising order
abbrev pub listed : Pages → List Page
listed pages = map (λ (entry : ℕ × Box (List ℕ)). record { number = entry.0; bytes = entry.1.value }) pages.entries.entries
