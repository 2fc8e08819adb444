-- Numbers are read from their bytes as they were.
use Rattle.std.proofs.Common.{◌≡◌, ℕ, zero, suc, ◌*◌, ◌/◌, ◌<◌, ◌^◌, length, refl, ap, arith}
use Rattle.std.proofs.Math.Nat.{pow-suc, div-lt_iff_lt-mul}
use Rattle.msi_texts.specs.Numbers.{le_bytes, le_number}

pub length-le_bytes : (k n : ℕ) → length (le_bytes k n) ≡ k
length-le_bytes zero n = refl
length-le_bytes (suc k) n = ap (λ m. suc m) (length-le_bytes k (n / 256))

pub le_back : (k n : ℕ) → n < 256 ^ k → le_number (le_bytes k n) ≡ n
le_back zero n below = omega (arith, below)
le_back (suc k) n below =
    let whole : n < 256 ^ k * 256 = rw (pow-suc 256 k) at below in
    let high : n / 256 < 256 ^ k = (div-lt_iff_lt-mul {k = 256} {x = n} {y = 256 ^ k} (omega arith)).1 whole in
    rw (le_back k (n / 256) high) (omega arith)
