-- Reading the heads of a pool one after the other.
use Rattle.std.proofs.Common.{◌≡◌, ℕ, zero, suc, ◌+◌, ◌<◌, ◌≤◌, Bool, true, false, cond, List, [], ◌∷◌, ◌++◌, length, take, drop, Result, Ok, Err, refl, ap, sym, ◌∙◌, arith, append_assoc, append-nil, length-drop}
use Rattle.std.specs.Prelude.{nat_lt, ◌==◌, ◌&&◌}
use Rattle.std.proofs.lemmas.Bool.Decides.{nat_tests}
use Rattle.cfb_medium.specs.declared.error.Error.{Error}
use Rattle.cfb_medium.specs.declared.error.Error.TheVariants.{UnexpectedEof}
use Rattle.msi_texts.specs.Numbers.{le_number}
use Rattle.msi_texts.specs.Results.{◌>>=◌}
use Rattle.msi_texts.specs.Reading.{bytes_at, number_at}
use Rattle.msi_pool.specs.PoolReading.{Heads, length_at, head_at, heads_at}

-- what two calls in a row gave
pub bind_cases : {A B : Type 0} (r : Result A Error) (f : A → Result B Error) (y : B) → (r >>= f) ≡ Ok y → (x : A) × (r ≡ Ok x) × (f x ≡ Ok y)
bind_cases (Ok x) f y h = (x, refl, h)
bind_cases (Err e) f y h = cc

-- the rest of what was read
abbrev pub rest_of : {A : Type 0} → Result (A × List ℕ) Error → List ℕ
rest_of (Ok x) = x.1
rest_of (Err e) = []

-- a number takes as many bytes
pub number_at-rest : (n m : ℕ) (bytes rest : List ℕ) → number_at n bytes ≡ Ok (m, rest) → length rest + n ≡ length bytes
number_at-rest n m bytes rest h =
    let taken = bind_cases (bytes_at n bytes) (λ b. Ok (le_number b.0, b.1)) (m, rest) h in
    let same : taken.0.1 ≡ rest = ap rest_of taken.2 in
    go (nat_lt (length bytes) n) refl taken.0 taken.1 same
  where
    front : Result (List ℕ × List ℕ) Error
    front = Ok (take n bytes, drop n bytes)

    go : (b : Bool) → nat_lt (length bytes) n ≡ b → (x : List ℕ × List ℕ) → cond b (Err UnexpectedEof) front ≡ Ok x → x.1 ≡ rest → length rest + n ≡ length bytes
    go true e x f same = cc
    go false e x f same =
        let is : drop n bytes ≡ x.1 = ap rest_of f in
        let long : n ≤ length bytes = grind (arith, nat_tests, e) in
        omega (arith, ap length (is ∙ same), length-drop n bytes)

length_at-rest : (len count n : ℕ) (bytes rest : List ℕ) → length_at len count bytes ≡ Ok (n, rest) → length rest ≤ length bytes
length_at-rest len count n bytes rest h = go (len == 0 && nat_lt 0 count) h
  where
    go : (b : Bool) → cond b (number_at 4 bytes) (Ok (len, bytes)) ≡ Ok (n, rest) → length rest ≤ length bytes
    go true h = omega (arith, number_at-rest 4 n bytes rest h)
    go false h = let is : bytes ≡ rest = ap rest_of h in omega (arith, ap length is)

-- a head takes four bytes or more
pub head_at-rest : (bytes rest : List ℕ) (head : ℕ × ℕ) → head_at bytes ≡ Ok (head, rest) → length rest + 4 ≤ length bytes
head_at-rest bytes rest head h =
    let len = bind_cases (number_at 2 bytes) (λ len. number_at 2 len.1 >>= λ count. length_at len.0 count.0 count.1 >>= λ own. Ok ((own.0, count.0), own.1)) (head, rest) h in
    let count = bind_cases (number_at 2 len.0.1) (λ count. length_at len.0.0 count.0 count.1 >>= λ own. Ok ((own.0, count.0), own.1)) (head, rest) len.2 in
    let own = bind_cases (length_at len.0.0 count.0.0 count.0.1) (λ own. Ok ((own.0, count.0.0), own.1)) (head, rest) count.2 in
    let last : own.0.1 ≡ rest = ap rest_of own.2 in
    omega (arith, number_at-rest 2 len.0.0 bytes len.0.1 len.1, number_at-rest 2 count.0.0 len.0.1 count.0.1 count.1, length_at-rest len.0.0 count.0.0 own.0.0 count.0.1 own.0.1 own.1, ap length last)

-- the heads from here on, where it is known whether bytes are left and what the first head is
abbrev turn : ℕ → Bool → Result ((ℕ × ℕ) × List ℕ) Error → Heads → Result Heads Error
turn most none r hs = cond none (Ok []) (r >>= λ head. heads_at most head.1 >>= λ heads. Ok (head.0 ∷ heads)) >>= λ more. Ok (hs ++ more)

-- where a head is read, the rest goes on behind it
pub heads_step : (most : ℕ) (bytes rest : List ℕ) (head : ℕ × ℕ) (hs : Heads) → length bytes ≤ most → 2 ≤ length bytes → head_at bytes ≡ Ok (head, rest) →
    (less : ℕ) × (length rest ≤ less) × ((heads_at most bytes >>= λ more. Ok (hs ++ more)) ≡ (heads_at less rest >>= λ more. Ok ((hs ++ head ∷ []) ++ more)))
heads_step zero bytes rest head hs few some h = absurd (omega arith)
heads_step (suc most) bytes rest head hs few some h = (
  most,
  omega (arith, head_at-rest bytes rest head h),
  let long : nat_lt (length bytes) 2 ≡ false = grind (arith, nat_tests) in
      ap (λ none. turn most none (head_at bytes) hs) long ∙ ap (λ r. turn most false r hs) h ∙ joined (heads_at most rest),
)
  where
    joined : (r : Result Heads Error) → ((r >>= λ heads. Ok (head ∷ heads)) >>= λ more. Ok (hs ++ more)) ≡ (r >>= λ more. Ok ((hs ++ head ∷ []) ++ more))
    joined (Ok x) = ap Ok (sym (append_assoc hs (head ∷ []) x))
    joined (Err e) = refl

-- a head's refusal is that of all
pub heads_refused : (most : ℕ) (bytes : List ℕ) (e : Error) (hs : Heads) → length bytes ≤ most → 2 ≤ length bytes → head_at bytes ≡ Err e → (heads_at most bytes >>= λ more. Ok (hs ++ more)) ≡ Err e
heads_refused zero bytes e hs few some h = absurd (omega arith)
heads_refused (suc most) bytes e hs few some h =
    let long : nat_lt (length bytes) 2 ≡ false = grind (arith, nat_tests) in
    ap (λ none. turn most none (head_at bytes) hs) long ∙ ap (λ r. turn most false r hs) h

-- too few bytes are no head
pub heads_end : (most : ℕ) (bytes : List ℕ) (hs : Heads) → length bytes < 2 → (heads_at most bytes >>= λ more. Ok (hs ++ more)) ≡ Ok hs
heads_end zero bytes hs few = ap Ok (append-nil hs)
heads_end (suc most) bytes hs few = let short : nat_lt (length bytes) 2 ≡ true = grind (arith, nat_tests) in ap (λ none. turn most none (head_at bytes) hs) short ∙ ap Ok (append-nil hs)
