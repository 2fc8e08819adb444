-- Lists that begin alike.
use Rattle.std.specs.Prelude.{◌≡◌, ℕ, List, length, take}

-- the second list begins with the first
pub record IsPrefixOf (front all : List ℕ) : Type 0 where
  pub same : take (length front) all ≡ front
