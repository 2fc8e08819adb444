-- What a loop has noted so far.
use Rattle.std.proofs.Common.{◌≡◌, Bool, true, false, cond, refl, sym, ap, arith, ℤ, ◌<ℤ◌}
use Rattle.std.specs.Prelude.{◌&&◌, ◌||◌, int_le}
use Rattle.std.proofs.lemmas.Int.{ints}

pub or_cond : (a b : Bool) → (a || b) ≡ cond b true a
or_cond true true = refl
or_cond true false = refl
or_cond false true = refl
or_cond false false = refl

pub cond_or : (a b : Bool) → cond b true a ≡ (a || b)
cond_or true true = refl
cond_or true false = refl
cond_or false true = refl
cond_or false false = refl

pub or_none : (a b : Bool) → b ≡ false → a ≡ (a || b)
or_none true b h = refl
or_none false b h = sym h

pub or_mixed : (a b c : Bool) → ((a || b) || c) ≡ (a || (b || c))
or_mixed true b c = refl
or_mixed false b c = refl

pub or_later : (a b c : Bool) → (a || cond c true b) ≡ ((a || b) || c)
or_later true b true = refl
or_later true b false = refl
or_later false true true = refl
or_later false true false = refl
or_later false false true = refl
or_later false false false = refl

-- of the greater of two
pub greater_reached : (a b z : ℤ) → a <ℤ b → int_le z b ≡ (int_le z a || int_le z b)
greater_reached a b z h = grind (arith, ints)
