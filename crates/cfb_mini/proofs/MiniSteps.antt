-- A mini chain's bytes are written piece by piece.
use Rattle.std.proofs.Common.{◌≡◌, ℕ, ◌+◌, ◌-◌, ◌*◌, ◌/◌, ◌%◌, ◌<◌, ◌≤◌, List, ◌++◌, length, take, drop, get_or, ap, sym, ◌∙◌, arith}
use Rattle.std.proofs.Math.Seq.{take-add}
use Rattle.std.proofs.lemmas.List.{length-take-le}
use Rattle.cfb_medium.specs.Bytes.{overwritten}
use Rattle.cfb_chains.specs.Changes.{AreDistinct, IsNotIn}
use Rattle.cfb_chain_io.proofs.WrittenParts.{over_then}
use Rattle.cfb_mini.specs.Minis.{mini_joined, mini_sector}
use Rattle.cfb_mini.proofs.MiniParts.{length-mini_joined, mini_beside, mini_overwritten}

module _ (s m b ids bytes piece : List ℕ) (at done count place : ℕ) (once : AreDistinct ids) (inside : at + length bytes ≤ 64 * length ids) (within : done + count ≤ length bytes) (some : 0 < count)
    (few : count ≤ 64 - (at + done) % 64) (size : length piece ≡ count) (is : piece ≡ take count (drop done bytes)) (spot : place ≡ 64 * get_or ids ((at + done) / 64) 0 + (at + done) % 64)
    (there : place + count ≤ length m) (wrote : b ≡ overwritten m place piece) where
  -- a piece more was written, in one mini sector
  pub more_over : mini_joined m ids ≡ overwritten (mini_joined s ids) at (take done bytes) → mini_joined b ids ≡ overwritten (mini_joined s ids) at (take (done + count) bytes)
  more_over was =
      let long = length-mini_joined s ids in
      let first : length (take done bytes) ≡ done = length-take-le done bytes (omega (arith, within)) in
      ap (λ l. mini_joined l ids) wrote
      ∙ mini_overwritten m ids piece (at + done) place once (omega (arith, inside, within, some)) (omega (arith, size, few)) spot (omega (arith, size, there))
      ∙ ap (λ l. overwritten l (at + done) piece) was
      ∙ over_then (mini_joined s ids) (take done bytes) piece at (at + done) (omega (arith, first)) (omega (arith, long, size, inside, within))
      ∙ ap (λ l. overwritten (mini_joined s ids) at (take done bytes ++ l)) is
      ∙ ap (overwritten (mini_joined s ids) at) (sym (take-add done count bytes))

  -- and no other
  pub others_over : (n : ℕ) → IsNotIn ids n → mini_sector m n ≡ mini_sector s n → mini_sector b n ≡ mini_sector s n
  others_over n none was =
      ap (λ l. mini_sector l n) wrote
      ∙ mini_beside m piece n (get_or ids ((at + done) / 64) 0) ((at + done) % 64) place (λ same. none ((at + done) / 64) (omega (arith, inside, within, some)) (sym same)) spot (omega (arith, size, few))
      ∙ was
