-- What a read of eight bytes at the front of a store serves.
use Rattle.std.proofs.Common.{◌≡◌, ◌∙◌, ◌+◌, ◌-◌, ◌%◌, ◌^◌, ◌++◌, ℕ, List, length, take, replicate, ap, ap₂, sym, arith}
use Rattle.std.specs.Prelude.{min}
use Rattle.std.proofs.lemmas.List.{drop-replicate, take_min, take-append-drop}
use Rattle.std.specs.Int.{w64, from_le_bytes, to_le_bytes}
use Rattle.cfb_medium.specs.Bytes.{overwritten, Serves}
use Rattle.example_store.specs.Number.{counted_up}

pub front_is : (bytes new : List ℕ) (count : ℕ) → Serves bytes 0 (replicate 8 0) new count → new ≡ take 8 bytes ++ replicate (8 - length bytes) 0
front_is bytes new count serves =
    let smaller = serves.smaller in
    let few : count ≡ min 8 (length bytes) = omega (arith, smaller) in
    let left : 8 - count ≡ 8 - length bytes = omega (arith, few) in
    sym (take-append-drop count new)
    ∙ ap₂ (λ (a b : List ℕ). a ++ b) (serves.front ∙ ap (λ k. take k bytes) few ∙ take_min 8 bytes) (serves.rest ∙ drop-replicate count 8 0 ∙ ap (λ k. replicate k 0) left)

-- eight bytes were read, and one more was written
pub counted_so : (bytes buffer slice written : List ℕ) (count : ℕ) → Serves bytes 0 (replicate 8 0) buffer count
    → slice ≡ to_le_bytes w64 ((from_le_bytes w64 buffer + 1) % 2 ^ 64) → written ≡ overwritten bytes 0 slice → written ≡ counted_up bytes
counted_so bytes buffer slice written count serves next wrote =
    wrote ∙ ap (overwritten bytes 0) (next ∙ ap (λ b. to_le_bytes w64 ((from_le_bytes w64 b + 1) % 2 ^ 64)) (front_is bytes buffer count serves))
