-- Names of files, byte by byte.
use Rattle.std.proofs.Common.{rules, zero, ◌≡◌, ◌∙◌, ℕ, suc, ◌<◌, ◌/◌, ◌%◌, ◌==◌, Bool, true, false, not, ◌&&◌, ◌||◌, List, [], ◌∷◌, ◌++◌, length, take, refl, sym, ap, ap₂, arith}
use Rattle.std.specs.Prelude.{if◌then◌else◌, slice_index, slice_index_or, Ok}
use Rattle.std.specs.List.{AllPass}
use Rattle.std.proofs.lemmas.List.Elements.{All-append, All-cons, All-nil}
use Rattle.hex.specs.Hex.{decode_of, encode_upper, is_hex_digit, IsBytes}
use Rattle.hex.proofs.HexLemmas.{decode_of-encode_upper, decode_of-ok, decode_of-same}
use Rattle.msi_export.specs.FileNames.{file_name, is_plain, is_safe, written}

-- two lists of a length are told from what they begin
pub same_front : (s t xs ys : List ℕ) → length s ≡ length t → s ++ xs ≡ t ++ ys → (s ≡ t) × (xs ≡ ys)
same_front [] [] xs ys n e = (refl, e)
same_front [] (d ∷ t) xs ys n e = absurd (cc)
same_front (c ∷ s) [] xs ys n e = absurd (cc)
same_front (c ∷ s) (d ∷ t) xs ys n e =
    let rest = same_front s t xs ys (let k : suc (length s) ≡ suc (length t) = n in cc) cc in
    let head : c ≡ d = cc in
    (ap₂ (λ z zs. z ∷ zs) head rest.0, rest.1)

-- the digits of a byte
one : {b : ℕ} → b < 256 → IsBytes (b ∷ [])
one s zero = s
one s (suc i) = omega arith

digits_of_byte : (b : ℕ) → b < 256 → decode_of (encode_upper (b ∷ [])) ≡ Ok (b ∷ [])
digits_of_byte b s = decode_of-encode_upper (b ∷ []) (one s)

same_digits : (a b : ℕ) (xs ys : List ℕ) → a < 256 → b < 256 → encode_upper (a ∷ []) ++ xs ≡ encode_upper (b ∷ []) ++ ys → (a ≡ b) × (xs ≡ ys)
same_digits a b xs ys s t e =
    let first = decode_of-ok (encode_upper (a ∷ [])) (a ∷ []) (digits_of_byte a s) in
    let second = decode_of-ok (encode_upper (b ∷ [])) (b ∷ []) (digits_of_byte b t) in
    let both = same_front (encode_upper (a ∷ [])) (encode_upper (b ∷ [])) xs ys (first.2 ∙ sym second.2) e in
    let one_list = decode_of-same (encode_upper (a ∷ [])) (a ∷ []) (b ∷ []) (digits_of_byte a s) (rw both.0 (digits_of_byte b t)) in
    (cc, both.1)

abbrev tail : List ℕ → List ℕ
tail [] = []
tail (c ∷ s) = s

-- what stands for a byte, by whether it stands for itself
abbrev as_written : Bool → ℕ → List ℕ
as_written p b = if p then b ∷ [] else 37 ∷ encode_upper (b ∷ [])

-- a byte is told by what stands for it
one_byte : (p q : Bool) (a b : ℕ) (xs ys : List ℕ) → a < 256 → b < 256 → (a ≡ 37 → p ≡ false) → (b ≡ 37 → q ≡ false)
    → as_written p a ++ xs ≡ as_written q b ++ ys → (a ≡ b) × (xs ≡ ys)
one_byte true true a b xs ys s t u v e = (cc, cc)
one_byte true false a b xs ys s t u v e = absurd (let is : a ≡ 37 = cc in let no = u is in cc)
one_byte false true a b xs ys s t u v e = absurd (let is : b ≡ 37 = cc in let no = v is in cc)
one_byte false false a b xs ys s t u v e = same_digits a b xs ys s t (ap tail e)

-- `%` doesn't stand for itself
not_itself : (first : Bool) (b : ℕ) → b ≡ 37 → (is_plain b || (b == 46 && not first)) ≡ false
not_itself first b e = rw e refl

first_byte : (first : Bool) (a b : ℕ) (xs ys : List ℕ) → a < 256 → b < 256 → written first a ++ xs ≡ written first b ++ ys → (a ≡ b) × (xs ≡ ys)
first_byte first a b xs ys s t e = one_byte (is_plain a || (a == 46 && not first)) (is_plain b || (b == 46 && not first)) a b xs ys s t (not_itself first a) (not_itself first b) e

abbrev is_some_list : List ℕ → Bool
is_some_list [] = false
is_some_list (x ∷ xs) = true

nothing : (p : Bool) (b : ℕ) (xs : List ℕ) → [] ≡ as_written p b ++ xs → false ≡ true
nothing true b xs e = ap is_some_list e
nothing false b xs e = ap is_some_list e

-- a name is told by its file's
pub same_names : (first : Bool) (xs ys : List ℕ) → IsBytes xs → IsBytes ys → file_name first xs ≡ file_name first ys → xs ≡ ys
same_names first [] [] s t e = refl
same_names first [] (y ∷ ys) s t e = absurd (let no = nothing (is_plain y || (y == 46 && not first)) y (file_name false ys) e in cc)
same_names first (x ∷ xs) [] s t e = absurd (let no = nothing (is_plain x || (x == 46 && not first)) x (file_name false xs) (sym e) in cc)
same_names first (x ∷ xs) (y ∷ ys) s t e =
    let both = first_byte first x y (file_name false xs) (file_name false ys) (s 0) (t 0) e in
    ap₂ (λ z zs. z ∷ zs) both.0 (same_names false xs ys (λ i. s (suc i)) (λ i. t (suc i)) both.1)

hex_safe : (c : ℕ) → is_hex_digit c ≡ true → is_safe c ≡ true
hex_safe c d = grind (arith)

abbrev Safe : ℕ → Type 0
Safe c = is_safe c ≡ true

safe_byte : (p : Bool) (b : ℕ) (xs : List ℕ) → b < 256 → (p ≡ true → is_safe b ≡ true) → AllPass is_safe xs → AllPass is_safe (as_written p b ++ xs)
safe_byte true b xs s u e = All-cons Safe b xs (u refl) e
safe_byte false b xs s u e =
    let digits = decode_of-ok (encode_upper (b ∷ [])) (b ∷ []) (digits_of_byte b s) in
    let safe : AllPass is_safe (encode_upper (b ∷ [])) = λ k d l. hex_safe (slice_index_or (encode_upper (b ∷ [])) k d) (digits.1 k d l) in
    All-cons Safe 37 (encode_upper (b ∷ []) ++ xs) refl (All-append Safe (encode_upper (b ∷ [])) xs safe e)

itself_safe : (first p q r : Bool) → (p || (q && not first)) ≡ true → (p || q || r) ≡ true
itself_safe first true q r e = refl
itself_safe first false true r e = refl
itself_safe first false false r e = absurd (cc)

pub safe_names : (first : Bool) (xs : List ℕ) → IsBytes xs → AllPass is_safe (file_name first xs)
safe_names first [] s = All-nil Safe
safe_names first (x ∷ xs) s = safe_byte (is_plain x || (x == 46 && not first)) x (file_name false xs) (s 0) (itself_safe first (is_plain x) (x == 46) (x == 37)) (safe_names false xs (λ i. s (suc i)))

no_dot : (p : Bool) (b : ℕ) (xs : List ℕ) → (p ≡ true → (b == 46) ≡ false) → (slice_index (as_written p b ++ xs) 0 == 46) ≡ false
no_dot true b xs u = u refl
no_dot false b xs u = refl

plain_is_no_dot : (b : ℕ) → (is_plain b || (b == 46 && false)) ≡ true → (b == 46) ≡ false
plain_is_no_dot b is = grind (arith)

pub no_first_dot : (xs : List ℕ) → (slice_index (file_name true xs) 0 == 46) ≡ false
no_first_dot [] = refl
no_first_dot (x ∷ xs) = no_dot (is_plain x || (x == 46 && false)) x (file_name false xs) (plain_is_no_dot x)

-- a part of a safe name is safe
pub safe_part : (n : ℕ) (xs : List ℕ) → AllPass is_safe xs → AllPass is_safe (take n xs)
safe_part zero xs all = All-nil Safe
safe_part (suc n) [] all = All-nil Safe
safe_part (suc n) (x ∷ xs) all = All-cons Safe x (take n xs) (all 0 0 (omega arith)) (safe_part n xs (λ k d below. all (suc k) d (omega arith)))
