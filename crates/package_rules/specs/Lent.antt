-- Texts that stand somewhere.
use Rattle.std.specs.Prelude.{ℕ, List}
use Rattle.std.specs.Borrow.{Bor}

abbrev pub lent : List ℕ → Bor (List ℕ)
lent t = record { ref_ptr = (0, 0); now = t }
