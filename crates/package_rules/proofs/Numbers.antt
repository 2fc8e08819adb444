-- Numbers of properties, also as plain data.
use Rattle.std.proofs.Common.{◌≡◌, ℕ, List, [], ◌∷◌, map, refl, ap}
use Rattle.std.specs.Prelude.{◌==◌, ◌||◌}
use Rattle.std.specs.List.{list_any}
use Rattle.msi_listing.specs.HeldProperty.{pair_of}
use Rattle.msi_listing.specs.declared.property.Property.{Property}

pub numbers_kept : (n : ℕ) (ps : List (ℕ × Property)) → list_any (λ p. p.0 == n) (map pair_of ps) ≡ list_any (λ p. p.0 == n) ps
numbers_kept n [] = refl
numbers_kept n (p ∷ ps) = ap (λ b. p.0 == n || b) (numbers_kept n ps)
