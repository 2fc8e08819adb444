-- Which names are valid, part by part.
use Rattle.std.proofs.Common.{◌≡◌, ℕ, suc, ◌<◌, Bool, true, false, not, List, [], ◌∷◌, length, refl, ap, arith}
use Rattle.std.specs.Prelude.{nat_le, ◌==◌, ◌&&◌, encode_utf8_all}
use Rattle.std.specs.Str.{IsUtf8, chars}
use Rattle.std.proofs.lemmas.Bool.Decides.{nat_tests}
use Rattle.std.proofs.lemmas.Str.{chars-nil, encodes-chars}
use Rattle.msi_texts.specs.StreamName.{spelled, unit_count, is_marked, is_valid_name}

pub empty_invalid : (table : Bool) (bs : List ℕ) → length bs ≡ 0 → is_valid_name table (chars bs) ≡ false
empty_invalid table [] h = rw chars-nil refl
empty_invalid table (b ∷ bs) h = absurd (omega arith)

-- a text of some bytes has some characters
some_chars : (bs : List ℕ) → IsUtf8 bs → 0 < length bs → (length (chars bs) == 0) ≡ false
some_chars bs utf8 some = go (chars bs) (encodes-chars bs utf8)
  where
    go : (cs : List ℕ) → encode_utf8_all cs ≡ bs → (length cs == 0) ≡ false
    go [] e = absurd (omega (arith, ap length e))
    go (c ∷ cs) e = grind (arith, nat_tests)

pub table_valid : (bs : List ℕ) → IsUtf8 bs → 0 < length bs → is_valid_name true (chars bs) ≡ nat_le (unit_count (spelled (chars bs))) 30
table_valid bs utf8 some = rw (some_chars bs utf8 some) (one_less (unit_count (spelled (chars bs))))
  where
    one_less : (n : ℕ) → nat_le (suc n) 31 ≡ nat_le n 30
    one_less n = grind (arith, nat_tests)

pub stream_valid : (bs : List ℕ) → IsUtf8 bs → 0 < length bs → is_valid_name false (chars bs) ≡ (not (is_marked (chars bs)) && nat_le (unit_count (spelled (chars bs))) 31)
stream_valid bs utf8 some = rw (some_chars bs utf8 some) refl
