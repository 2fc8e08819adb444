-- What spells a name: characters, of three bytes a unit at most.
use Rattle.std.proofs.Common.{◌≡◌, ℕ, ◌+◌, ◌*◌, ◌≤◌, Bool, true, false, List, [], ◌∷◌, ◌++◌, Option, Some, None, length, take, refl, ap, sym, ◌∙◌, arith, length-append, length-take, encode_utf8, encode_utf8_all}
use Rattle.std.specs.Prelude.{nat_le, nat_lt, ◌&&◌, ◌||◌, ◌==◌, not, cond, ◌-◌, ◌/◌, ◌%◌}
use Rattle.std.specs.List.{flat_map}
use Rattle.std.specs.Char.{len_utf8}
use Rattle.std.specs.Char.Escape.{encode_utf16}
use Rattle.std.proofs.lemmas.Bool.Decides.{nat_tests}
use Rattle.std.proofs.lemmas.Str.{length-encode}
use Rattle.std.proofs.Math.Utf8.{scalar, scalars, low_scalar}
use Rattle.msi_texts.specs.StreamName.{letter_value, lone, lone_of, pair, pair_of, joined_or, spelled, spelled_after, spelled_name, unit_count, is_valid_name, is_marked}
use Rattle.msi_texts.proofs.NamesReadBack.{letter_value-back}

lone_scalar : (c : ℕ) → scalar c ≡ true → scalar (lone c) ≡ true
lone_scalar c h = go (letter_value c) refl
  where
    go : (o : Option ℕ) → letter_value c ≡ o → scalar (lone_of o c) ≡ true
    go None e = h
    go (Some v) e = let back = letter_value-back c v e in low_scalar (0x4800 + v) (omega (arith, back.0))

pair_scalar : (c d p : ℕ) → pair c d ≡ Some p → scalar p ≡ true
pair_scalar c d p h = go (letter_value c) (letter_value d) refl refl h
  where
    go : (o q : Option ℕ) → letter_value c ≡ o → letter_value d ≡ q → pair_of o q ≡ Some p → scalar p ≡ true
    go None q e f h = cc
    go (Some v) None e f h = cc
    go (Some v) (Some w) e f h =
        let first = letter_value-back c v e in
        let second = letter_value-back d w f in
        let is : 0x3800 + 64 * w + v ≡ p = cc in
        low_scalar p (omega (arith, is, first.0, second.0))

pub both : (a b : Bool) → a && b ≡ true → (a ≡ true) × (b ≡ true)
both true b h = (refl, h)
both false b h = cc

-- characters are spelled by characters
pub scalars-spelled : (cs : List ℕ) → scalars cs ≡ true → scalars (spelled cs) ≡ true
scalars-spelled [] h = refl
scalars-spelled (c ∷ []) h = rw (lone_scalar c (both _ _ h).0) refl
scalars-spelled (c ∷ d ∷ rest) h =
    let parts = both (scalar c) (scalars (d ∷ rest)) h in
    go (pair c d) refl (lone_scalar c parts.0) (scalars-spelled rest (both (scalar d) (scalars rest) parts.1).1) (scalars-spelled (d ∷ rest) parts.1)
  where
    go : (o : Option ℕ) → pair c d ≡ o → scalar (lone c) ≡ true → scalars (spelled rest) ≡ true → scalars (spelled (d ∷ rest)) ≡ true →
        scalars (joined_or o c (spelled rest) (spelled (d ∷ rest))) ≡ true
    go None e alone joined apart = rw (alone, apart) refl
    go (Some p) e alone joined apart = rw (pair_scalar c d p e, joined) refl

pub scalars-spelled_name : (table : Bool) (cs : List ℕ) → scalars cs ≡ true → scalars (spelled_name table cs) ≡ true
scalars-spelled_name true cs h = scalars-spelled cs h
scalars-spelled_name false cs h = scalars-spelled cs h

bytes_of_char : (c : ℕ) → len_utf8 c ≤ 3 * length (encode_utf16 c)
bytes_of_char c = go (nat_lt c 65536) refl (55296 + (c - 65536) / 1024) (56320 + (c - 65536) % 1024)
  where
    go : (b : Bool) → nat_lt c 65536 ≡ b → (high low : ℕ) → len_utf8 c ≤ 3 * length (cond b (c ∷ []) (high ∷ low ∷ []))
    go true e high low = grind (arith, nat_tests)
    go false e high low = grind (arith, nat_tests)

-- a unit takes three bytes at most
bytes_of_units : (cs : List ℕ) → length (encode_utf8_all cs) ≤ 3 * unit_count cs
bytes_of_units [] = omega arith
bytes_of_units (c ∷ cs) =
    omega (arith, length-append (encode_utf8 c) (encode_utf8_all cs), length-encode c, bytes_of_char c, bytes_of_units cs, length-append (encode_utf16 c) (flat_map encode_utf16 cs))

-- so a valid name has 93 at most
pub bytes_of_valid : (table : Bool) (name : List ℕ) → is_valid_name table name ≡ true → length (encode_utf8_all (spelled_name table name)) ≤ 93
bytes_of_valid table name h =
    let few : nat_le (unit_count (spelled_name table name)) 31 ≡ true = (both (not (length name == 0) && (table || not (is_marked name))) (nat_le (unit_count (spelled_name table name)) 31) h).1 in
    let bytes = bytes_of_units (spelled_name table name) in
    grind (arith, nat_tests, few, bytes)

-- room for what is to come
pub room_left : (at : ℕ) (bytes rest whole : List ℕ) → take at bytes ++ rest ≡ whole → at ≤ length bytes → length bytes ≡ 93 → length whole ≤ 93 → at + length rest ≤ length bytes
room_left at bytes rest whole e within all few = omega (arith, ap length e, length-append (take at bytes) rest, length-take at bytes)

-- and for the character that is written next
pub room_joined : (at most first c p : ℕ) (pending found : Option ℕ) (rest : List ℕ) → pending ≡ Some first → found ≡ pair first c → found ≡ Some p →
    at + length (encode_utf8_all (spelled_after pending (c ∷ rest))) ≤ most → at + len_utf8 p ≤ most
room_joined at most first c p pending found rest waits is joined room =
    let bytes : encode_utf8_all (spelled_after pending (c ∷ rest)) ≡ encode_utf8 p ++ encode_utf8_all (spelled rest) =
    ap (λ o. encode_utf8_all (spelled_after o (c ∷ rest))) waits ∙ ap (λ o. encode_utf8_all (joined_or o first (spelled rest) (spelled (c ∷ rest)))) (sym is ∙ joined) in
    omega (arith, ap length bytes, length-append (encode_utf8 p) (encode_utf8_all (spelled rest)), length-encode p)

pub room_apart : (at most first c l : ℕ) (pending found : Option ℕ) (rest : List ℕ) → pending ≡ Some first → found ≡ pair first c → found ≡ None → l ≡ lone first →
    at + length (encode_utf8_all (spelled_after pending (c ∷ rest))) ≤ most → at + len_utf8 l ≤ most
room_apart at most first c l pending found rest waits is apart alone room =
    let bytes : encode_utf8_all (spelled_after pending (c ∷ rest)) ≡ encode_utf8 (lone first) ++ encode_utf8_all (spelled (c ∷ rest)) =
    ap (λ o. encode_utf8_all (spelled_after o (c ∷ rest))) waits ∙ ap (λ o. encode_utf8_all (joined_or o first (spelled rest) (spelled (c ∷ rest)))) (sym is ∙ apart) in
    omega (arith, ap length bytes, length-append (encode_utf8 (lone first)) (encode_utf8_all (spelled (c ∷ rest))), length-encode (lone first), ap len_utf8 alone)

pub room_last : (at most last l : ℕ) (pending : Option ℕ) → pending ≡ Some last → l ≡ lone last →
    at + length (encode_utf8_all (spelled_after pending [])) ≤ most → at + len_utf8 l ≤ most
room_last at most last l pending waits alone room =
    omega (arith, ap (λ o. length (encode_utf8_all (spelled_after o []))) waits, length-append (encode_utf8 (lone last)) [], length-encode (lone last), ap len_utf8 alone)
