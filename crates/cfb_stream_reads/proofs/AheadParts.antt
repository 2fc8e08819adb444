-- Parts of what was read ahead.
use Rattle.std.proofs.Common.{◌≡◌, ◌∙◌, ◌++◌, ℕ, ◌+◌, ◌-◌, ◌≤◌, List, drop, length, take, ap, arith, sym, length-drop}
use Rattle.std.proofs.lemmas.List.{drop-drop, drop-take, take_at, take_rest}

-- those from a later place on are of the same stream
pub later_part : (content bytes : List ℕ) (start at : ℕ) → start ≤ at → at - start ≤ length bytes → bytes ≡ take (length bytes) (drop start content)
    → drop (at - start) bytes ≡ take (length (drop (at - start) bytes)) (drop at content)
later_part content bytes start at behind within is =
    let k = at - start in
    let n = length bytes in
    let size : k + (n - k) ≡ n = omega arith in
    let place : start + k ≡ at = omega arith in
    let left = length-drop k bytes in
    ap (drop k) (is ∙ ap (λ m. take m (drop start content)) (sym size))
    ∙ drop-take k (n - k) (drop start content)
    ∙ ap (take (n - k)) (drop-drop k start content ∙ ap (λ m. drop m content) place)
    ∙ ap (λ m. take m (drop at content)) (sym left)

-- bytes that were read over all of a list are of the stream
pub read_part : (content xs items : List ℕ) (n m start at : ℕ) → length xs ≡ length items → n ≡ length items → m ≡ length items → start ≡ at → xs ≡ take m (drop at content)
    → take n (xs ++ drop (length xs) items) ≡ take (length (take n (xs ++ drop (length xs) items))) (drop start content)
read_part content xs items n m start at same size most place is =
    let all : take n (xs ++ drop (length xs) items) ≡ xs = take_at xs (drop (length xs) items) n (same ∙ sym size) in
    all ∙ is ∙ ap (λ k. take k (drop at content)) (most ∙ sym same ∙ sym (ap length all)) ∙ ap (λ p. take (length (take n (xs ++ drop (length xs) items))) (drop p content)) (sym place)

-- as a slice of them
pub slice_part : (content bytes : List ℕ) (start at : ℕ) → start ≤ at → at - start ≤ length bytes → bytes ≡ take (length bytes) (drop start content)
    → take (length bytes - (at - start)) (drop (at - start) bytes) ≡ take (length (take (length bytes - (at - start)) (drop (at - start) bytes))) (drop at content)
slice_part content bytes start at behind within is =
    let whole = take_rest bytes (at - start) in
    whole ∙ later_part content bytes start at behind within is ∙ ap (λ xs. take (length xs) (drop at content)) (sym whole)
