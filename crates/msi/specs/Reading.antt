-- A stream that is read.
use Rattle.std.specs.Prelude.{ℕ, List}

-- its bytes, and the position from which on they are read
pub record Reading : Type 0 where
  pub bytes : List ℕ
  pub position : ℕ
