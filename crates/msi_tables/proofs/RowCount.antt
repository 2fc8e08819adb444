-- How many rows bytes hold.
use Rattle.std.proofs.Common.{◌≡◌, ℕ, ◌/◌, ◌<◌, cond, nat_eq, arith, None}
use Rattle.std.specs.Option.{SomeIff}
use Rattle.std.proofs.Math.Nat.{div-eq_of_lt}
use Rattle.std.proofs.lemmas.Grind.{common_steps}

-- a row that is wider than all bytes doesn't fit
pub no_row_fits : (width len : ℕ) → SomeIff None (width < 18446744073709551616) width → len < 18446744073709551616 → 0 ≡ cond (nat_eq width 0) 0 (len / width)
no_row_fits width len wide short =
    let less : len < width = omega (arith, wide, short) in
    rw (div-eq_of_lt less) (grind (arith, common_steps))
