-- Parts of a file, as reads serve them and writes leave them.
use Rattle.std.proofs.Common.{◌≡◌, ℕ, ◌+◌, ◌-◌, ◌≤◌, min, List, [], ◌++◌, length, take, drop, replicate, sym, ◌∙◌, ap, arith, length-drop, ⊎_elim}
use Rattle.std.proofs.lemmas.List.{drop_all, take_all, take-append-le, take-replicate, append-nil}
use Rattle.std.proofs.lemmas.Bool.Decides.{leb_tells}
use Rattle.std.proofs.Math.Seq.{take-append-add}
use Rattle.cfb_medium.specs.Bytes.{Serves}
use Rattle.cfb_sectors.specs.Sectors.{filled_part}

-- what a read served, and zeros behind it
pub served_filled : (bytes old read zeros : List ℕ) (at count : ℕ) → Serves bytes at old read count → length read ≡ length old → zeros ≡ replicate (length old - count) 0
    → take count read ++ (zeros ++ drop (length read - count) (drop count read)) ≡ filled_part bytes at (length old)
served_filled bytes old read zeros at count served long is =
    let rest : drop (length read - count) (drop count read) ≡ [] = drop_all (length read - count) (drop count read) (simp length-drop (omega arith)) in
    ap (λ l. take count read ++ (zeros ++ l)) rest ∙ ap (λ l. take count read ++ l) (append-nil zeros ∙ is) ∙ ap (λ l. l ++ replicate (length old - count) 0) served.front
    ∙ whole (length old) (drop at bytes) count (served.smaller ∙ ap (min (length old)) (sym (length-drop at bytes)))
  where
    fits : (n : ℕ) (d : List ℕ) → n ≤ length d → take n d ++ replicate (n - n) 0 ≡ take n (d ++ replicate n 0)
    fits n d h = let none : n - n ≡ 0 = omega arith in
        ap (λ k. take n d ++ replicate k 0) none ∙ append-nil (take n d) ∙ sym (take-append-le n d (replicate n 0) h)

    lacks : (n : ℕ) (d : List ℕ) → length d ≤ n → take (length d) d ++ replicate (n - length d) 0 ≡ take n (d ++ replicate n 0)
    lacks n d h =
        let sum : n ≡ length d + (n - length d) = omega arith in
        let fewer : n - length d ≤ n = omega arith in
        ap (λ l. l ++ replicate (n - length d) 0) (take_all (length d) d (omega arith))
        ∙ sym (ap (λ k. take k (d ++ replicate n 0)) sum ∙ take-append-add d (replicate n 0) (n - length d) ∙ ap (λ l. d ++ l) (take-replicate (n - length d) n 0 fewer))

    whole : (n : ℕ) (d : List ℕ) (count : ℕ) → count ≡ min n (length d) → take count d ++ replicate (n - count) 0 ≡ take n (d ++ replicate n 0)
    whole n d count e =
        ⊎_elim (λ below. let is : count ≡ n = omega (arith, below.1) in ap (λ k. take k d ++ replicate (n - k) 0) is ∙ fits n d (omega (arith, below.1)))
        (λ above. let is : count ≡ length d = omega (arith, above.1) in ap (λ k. take k d ++ replicate (n - k) 0) is ∙ lacks n d (omega (arith, above.1)))
        (leb_tells n (length d))
