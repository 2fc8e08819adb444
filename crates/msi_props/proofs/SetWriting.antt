-- How long a written set is.
use Rattle.std.proofs.Common.{◌≡◌, ℕ, ◌+◌, ◌*◌, ◌<◌, ◌≤◌, List, [], ◌∷◌, length, false, refl, arith, length-append}
use Rattle.std.specs.Int.{w64, to_le_bytes}
use Rattle.std.proofs.Math.Nat.{div-div-eq-div-mul}
use Rattle.std.proofs.lemmas.Bool.Decides.{nat_tests}
use Rattle.msi_texts.specs.Numbers.{le_bytes}
use Rattle.msi_texts.specs.declared.codepage.CodePage.{CodePage}
use Rattle.msi_props.specs.Props.{Props, Property, is_in_size, offsets_from, property_bytes, props_bytes}
use Rattle.msi_texts.proofs.NumberBytes.{length-le_bytes}

-- a number of 64 bits in its eight bytes
pub eight_bytes : (n : ℕ) → to_le_bytes w64 n ≡ le_bytes 8 n
eight_bytes n = simp div-div-eq-div-mul

-- a number and an offset take eight bytes
pub length-offsets : (p : CodePage) (at : ℕ) (vs : List (ℕ × Property)) → length (offsets_from p at vs) ≡ 8 * length vs
length-offsets p at [] = refl
length-offsets p at (v ∷ vs) = simp (length-append, length-le_bytes) (omega (arith, length-offsets p (at + length (property_bytes p v.1)) vs))

-- so many values fit no set
pub too_many : (s : Props) → 536870912 < length s.values → is_in_size s ≡ false
too_many s many =
    let long : 8 * length s.values ≤ length (props_bytes s) = simp length-append (omega (arith, length-offsets s.page (8 + 8 * length s.values) s.values)) in
    grind (arith, nat_tests, long)
