-- What stands at the front of bytes is read.
use Rattle.std.proofs.Common.{◌≡◌, ℕ, ◌+◌, ◌-◌, ◌<◌, ◌^◌, false, List, [], ◌∷◌, ◌++◌, length, Ok, sym, subst, arith, append_assoc, length-append}
use Rattle.std.specs.Prelude.{nat_lt, replicate, ◌%◌}
use Rattle.std.specs.Int.{w8, w16, w32, cast_signed, cast_unsigned}
use Rattle.std.specs.Int.RustNames.{FitsSigned}
use Rattle.std.proofs.Math.Seq.{take-append_seam, drop-append_seam}
use Rattle.std.proofs.lemmas.Bool.Decides.{nat_tests}
use Rattle.std.proofs.lemmas.Int.{ints}
use Rattle.msi_texts.specs.Numbers.{le_bytes}
use Rattle.msi_texts.specs.Page.{encoded}
use Rattle.msi_texts.specs.Reading.{bytes_at, number_at}
use Rattle.msi_texts.specs.declared.codepage.CodePage.{CodePage}
use Rattle.msi_texts.proofs.NumberBytes.{le_back, length-le_bytes}
use Rattle.msi_props.specs.Kept.{IsKeptValue}
use Rattle.msi_props.specs.Props.{Property, property_at, property_bytes}
use Rattle.msi_props.specs.Props as property

front : (xs rest : List ℕ) → bytes_at (length xs) (xs ++ rest) ≡ Ok (xs, rest)
front xs rest =
    let long : nat_lt (length (xs ++ rest)) (length xs) ≡ false = simp length-append (grind (arith, nat_tests)) in
    rw (long, take-append_seam, drop-append_seam)

pub bytes_front : (n : ℕ) (xs rest : List ℕ) → length xs ≡ n → bytes_at n (xs ++ rest) ≡ Ok (xs, rest)
bytes_front n xs rest is = subst (λ m. bytes_at m (xs ++ rest) ≡ Ok (xs, rest)) is (front xs rest)

pub number_front : (k n : ℕ) (rest : List ℕ) → n < 256 ^ k → number_at k (le_bytes k n ++ rest) ≡ Ok (n, rest)
number_front k n rest less = rw (bytes_front k (le_bytes k n) rest (length-le_bytes k n), le_back k n less)

-- a value as its bytes hold it
abbrev pub held : CodePage → Property → Property
held p (property.text t) = property.text (encoded p t)
held p v = v

of_8 : (z : _) → FitsSigned w8 z → (cast_unsigned w8 z < 256) × (cast_signed w8 (cast_unsigned w8 z) ≡ z)
of_8 z f = (omega (arith, ints), omega (arith, ints))

of_16 : (z : _) → FitsSigned w16 z → (cast_unsigned w16 z < 65536) × (cast_signed w16 (cast_unsigned w16 z) ≡ z)
of_16 z f = (omega (arith, ints), omega (arith, ints))

of_32 : (z : _) → FitsSigned w32 z → (cast_unsigned w32 z < 4294967296) × (cast_signed w32 (cast_unsigned w32 z) ≡ z)
of_32 z f = (omega (arith, ints), omega (arith, ints))

parts : (a b text end pad rest : List ℕ) → a ++ b ++ text ++ end ++ pad ++ rest ≡ a ++ (b ++ (text ++ (end ++ (pad ++ rest))))
parts a b text end pad rest = simp append_assoc

longer : (a b text end pad : List ℕ) → 0 < length end → length text < length (a ++ b ++ text ++ end ++ pad)
longer a b text end pad some = simp length-append (omega arith)

text_front : (p : CodePage) (t rest : List ℕ) → length (property_bytes p (property.text t)) < 2 ^ 32 → property_at (property_bytes p (property.text t) ++ rest) ≡ Ok (property.text (encoded p t))
text_front p t rest short =
    let text = encoded p t in
    let len = length text in
    let pad : List ℕ = replicate ((4 - length (le_bytes 4 30 ++ le_bytes 4 (len + 1) ++ text ++ 0 ∷ []) % 4) % 4) 0 in
    let long : len < length (property_bytes p (property.text t)) = longer (le_bytes 4 30) (le_bytes 4 (len + 1)) text (0 ∷ []) pad (omega arith) in
    let few : len + 1 < 256 ^ 4 = omega (arith, short, long) in
    let less : len + 1 - 1 ≡ len = omega arith in
    let read : property_at (le_bytes 4 30 ++ (le_bytes 4 (len + 1) ++ (text ++ (le_bytes 1 0 ++ (pad ++ rest))))) ≡ Ok (property.text text) =
    rw (
      number_front 4 30 (le_bytes 4 (len + 1) ++ (text ++ (le_bytes 1 0 ++ (pad ++ rest)))) (omega arith),
      number_front 4 (len + 1) (text ++ (le_bytes 1 0 ++ (pad ++ rest))) few,
      bytes_front (len + 1 - 1) text (le_bytes 1 0 ++ (pad ++ rest)) (sym less),
      number_front 1 0 (pad ++ rest) (omega arith),
    ) in
    subst (λ bytes. property_at bytes ≡ Ok (property.text text)) (sym (parts (le_bytes 4 30) (le_bytes 4 (len + 1)) text (le_bytes 1 0) pad rest)) read

-- a value at the front of bytes is read, where its bytes are fewer than 2^32
pub value_front : (p : CodePage) (v : Property) (rest : List ℕ) → IsKeptValue p v → length (property_bytes p v) < 2 ^ 32 → property_at (property_bytes p v ++ rest) ≡ Ok (held p v)
value_front p property.empty rest kept short = rw (number_front 4 0 rest (omega arith))
value_front p property.null rest kept short = rw (number_front 4 1 rest (omega arith))
value_front p (property.i1 z) rest kept short =
    let of = of_8 z kept in
    rw (number_front 4 16 (le_bytes 1 (cast_unsigned w8 z) ++ (0 ∷ 0 ∷ 0 ∷ rest)) (omega arith), number_front 1 (cast_unsigned w8 z) (0 ∷ 0 ∷ 0 ∷ rest) of.0, of.1)
value_front p (property.i2 z) rest kept short =
    let of = of_16 z kept in
    rw (number_front 4 2 (le_bytes 2 (cast_unsigned w16 z) ++ (0 ∷ 0 ∷ rest)) (omega arith), number_front 2 (cast_unsigned w16 z) (0 ∷ 0 ∷ rest) of.0, of.1)
value_front p (property.i4 z) rest kept short =
    let of = of_32 z kept in
    rw (number_front 4 3 (le_bytes 4 (cast_unsigned w32 z) ++ rest) (omega arith), number_front 4 (cast_unsigned w32 z) rest of.0, of.1)
value_front p (property.text t) rest kept short = text_front p t rest short
value_front p (property.time n) rest kept short = rw (number_front 4 64 (le_bytes 8 n ++ rest) (omega arith), number_front 8 n rest kept)
