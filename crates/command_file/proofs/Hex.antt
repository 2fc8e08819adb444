-- Pairs of hexadecimal digits.
use Rattle.std.proofs.Common.{◌≡◌, ℕ, suc, List, [], ◌∷◌, refl, sym, arith, length, ◌+◌, ◌*◌, ◌%◌, Option, Some, None, Bool, true, false}
use Rattle.std.specs.Prelude.{Result, Ok, Err, ◌==◌, MatchResult, if◌then◌else◌}
use Rattle.std.proofs.lemmas.Bool.Decides.{nat_tests}
use Rattle.hex.specs.Hex.{◌>>=◌, decode_of, decode_pairs, digit_or_error, hex_digit_value}
use Rattle.hex.specs.declared.error.FromHexError.{FromHexError}
use Rattle.hex.specs.declared.error.FromHexError.TheVariants.{OddLength}
use Rattle.json_parts.specs.Values.{byte_before, hex_bytes}
use Rattle.command_file.proofs.Named.{none_if}

-- the bytes are those that are read, or none are
abbrev pub IsRead : Option (List ℕ) → Result (List ℕ) FromHexError → Type 0
IsRead read r = MatchResult r (λ bytes. read ≡ Some bytes) (λ e. read ≡ None)

pair_read : (a b i : ℕ) (h l : Option ℕ) (r : Result (List ℕ) FromHexError) (read : Option (List ℕ)) → IsRead read r
    → IsRead (byte_before h l read) ((digit_or_error a i h >>= λ x. digit_or_error b (i + 1) l >>= λ y. Ok (x * 16 + y)) >>= λ byte. r >>= λ bytes. Ok (byte ∷ bytes))
pair_read a b i None l r read is = refl
pair_read a b i (Some x) None r read is = refl
pair_read a b i (Some x) (Some y) (Ok bytes) read is = rw is refl
pair_read a b i (Some x) (Some y) (Err e) read is = rw is refl

pairs_read : (i : ℕ) (text : List ℕ) → IsRead (hex_bytes text) (decode_pairs i text)
unfolding decode_pairs
pairs_read i [] = refl
pairs_read i (a ∷ []) = refl
pairs_read i (a ∷ b ∷ rest) = pair_read a b i (hex_digit_value a) (hex_digit_value b) (decode_pairs (i + 2) rest) (hex_bytes rest) (pairs_read (i + 2) rest)

half_step : (h l : Option ℕ) (read : Option (List ℕ)) (n : ℕ) (bytes : List ℕ) → ((others : List ℕ) → read ≡ Some others → n ≡ 2 * length others)
    → byte_before h l read ≡ Some bytes → suc (suc n) ≡ 2 * length bytes
half_step None l read n bytes half is = absurd (cc)
half_step (Some x) None read n bytes half is = absurd (cc)
half_step (Some x) (Some y) None n bytes half is = absurd (cc)
half_step (Some x) (Some y) (Some others) n bytes half is =
    let same : (x * 16 + y) ∷ others ≡ bytes = cc in
    let few = half others refl in
    rw (sym same) (omega (arith, few))

-- two digits a byte
half : (text bytes : List ℕ) → hex_bytes text ≡ Some bytes → length text ≡ 2 * length bytes
half [] bytes is = let same : [] ≡ bytes = cc in rw (sym same) refl
half (a ∷ []) bytes is = absurd (cc)
half (a ∷ b ∷ rest) bytes is = half_step (hex_digit_value a) (hex_digit_value b) (hex_bytes rest) (length rest) bytes (half rest) is

pub hex_read : (text : List ℕ) → IsRead (hex_bytes text) (decode_of text)
hex_read text = go (length text % 2 == 1) refl
  where
    go : (odd : Bool) → (length text % 2 == 1) ≡ odd → IsRead (hex_bytes text) (if odd then Err OddLength else decode_pairs 0 text)
    go false is = pairs_read 0 text
    go true is = none_if (hex_bytes text) (λ bytes found. let even = half text bytes found in (grind (arith, nat_tests, even, is)))
