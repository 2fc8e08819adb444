-- Encoded names are their own keys under each letter table that leaves their characters alone.
use Rattle.std.proofs.Common.{◌≡◌, ◌∙◌, ℕ, ◌+◌, ◌-◌, ◌*◌, ◌/◌, ◌%◌, ◌<◌, zero, suc, Bool, true, false, cond, List, [], ◌∷◌, ◌++◌, refl, sym, ap, ap₂, arith, Some, None}
use Rattle.std.specs.Prelude.{◌==◌, ◌&&◌, ◌||◌, not, nat_lt}
use Rattle.std.specs.List.{flat_map, list_all}
use Rattle.std.specs.Char.Escape.{encode_utf16}
use Rattle.std.specs.Str.{IsAscii}
use Rattle.std.proofs.lemmas.Bool.{and_parts}
use Rattle.std.proofs.lemmas.Bool.Decides.{nat_tests}
use Rattle.std.proofs.lemmas.Str.{chars-IsAscii}
use Rattle.cfb_tree.specs.Names.{CaseTable, letter, name_key}
use Rattle.msi_texts.specs.Category.{begins_name, is_identifier, is_name_byte}
use Rattle.msi_texts.specs.StreamName.{is_between, is_plain, is_plain_name, letter_value, pair, spelled, spelled_name}
use Rattle.msi_texts.proofs.NamesReadBack.{letter_value-back, spelled_names_differ}
use Rattle.msi_spec.specs.Opening.{is_encoded, keeps_encoded_names}
use Rattle.msi_spec.specs.Package.{stream_name}

-- ---- letters that are left alone

-- an encoded character counts as itself
letter_stays : (letters : CaseTable) (c : ℕ) → keeps_encoded_names letters ≡ true → is_encoded c ≡ true → letter letters c ≡ c
unfolding letter
letter_stays [] c may encoded = refl
letter_stays (pair ∷ pairs) c may encoded =
    let both = and_parts (not (is_encoded pair.0) && not (is_encoded pair.1)) (keeps_encoded_names pairs) may in
    go (c == pair.0) refl (and_parts (not (is_encoded pair.0)) (not (is_encoded pair.1)) both.0).0 (letter_stays pairs c both.1 encoded)
  where
    go : (b : Bool) → (c == pair.0) ≡ b → not (is_encoded pair.0) ≡ true → letter pairs c ≡ c → cond b pair.1 (letter pairs c) ≡ c
    go true e other later =
        let same : c ≡ pair.0 = grind (arith, nat_tests, e) in
        let never : not true ≡ true = ap not (sym encoded ∙ ap is_encoded same) ∙ other in
        absurd (cc)
    go false e other later = later

-- and no other character counts as it
letter_back : (letters : CaseTable) (c : ℕ) → keeps_encoded_names letters ≡ true → is_encoded (letter letters c) ≡ true → letter letters c ≡ c
unfolding letter
letter_back [] c may encoded = refl
letter_back (pair ∷ pairs) c may encoded =
    let both = and_parts (not (is_encoded pair.0) && not (is_encoded pair.1)) (keeps_encoded_names pairs) may in
    go (c == pair.0) refl (and_parts (not (is_encoded pair.0)) (not (is_encoded pair.1)) both.0).1 (letter_back pairs c both.1) encoded
  where
    go : (b : Bool) → (c == pair.0) ≡ b → not (is_encoded pair.1) ≡ true → (is_encoded (letter pairs c) ≡ true → letter pairs c ≡ c)
        → is_encoded (cond b pair.1 (letter pairs c)) ≡ true → cond b pair.1 (letter pairs c) ≡ c
    go true e other later encoded = let never : not true ≡ true = ap not (sym encoded) ∙ other in absurd (cc)
    go false e other later encoded = later encoded

-- ---- keys

unit_is : (c : ℕ) → is_encoded c ≡ true → encode_utf16 c ≡ c ∷ []
unit_is c e = let low : nat_lt c 0x10000 ≡ true = grind (arith, nat_tests, e) in rw low refl

key_is : (letters : CaseTable) (cs : List ℕ) → keeps_encoded_names letters ≡ true → list_all is_encoded cs ≡ true → name_key letters cs ≡ cs
unfolding name_key
key_is letters [] may all = refl
key_is letters (c ∷ cs) may all =
    let both = and_parts (is_encoded c) (list_all is_encoded cs) all in
    ap (λ units. units ++ flat_map (λ c. encode_utf16 (letter letters c)) cs) (ap encode_utf16 (letter_stays letters c may both.0) ∙ unit_is c both.0)
    ∙ ap (λ units. c ∷ units) (key_is letters cs may both.1)

-- the first unit of a character, where it is encoded, is the character
first_is : (d x : ℕ) (xs rest : List ℕ) → is_encoded x ≡ true → x ∷ xs ≡ encode_utf16 d ++ rest → (d ≡ x) × (xs ≡ rest)
first_is d x xs rest encoded e = go (nat_lt d 65536) refl e
  where
    head : List ℕ → ℕ
    head [] = 0
    head (y ∷ ys) = y

    tail : List ℕ → List ℕ
    tail [] = []
    tail (y ∷ ys) = ys

    go : (b : Bool) → nat_lt d 65536 ≡ b → x ∷ xs ≡ cond b (d ∷ []) ((0xD800 + (d - 0x10000) / 0x400) ∷ (0xDC00 + (d - 0x10000) % 0x400) ∷ []) ++ rest → (d ≡ x) × (xs ≡ rest)
    go true low e = (sym (ap head e), ap tail e)
    go false high e = let same : x ≡ 0xD800 + (d - 0x10000) / 0x400 = ap head e in absurd (grind (arith, nat_tests, encoded, same))

no_units : (d : ℕ) (rest : List ℕ) → [] ≡ encode_utf16 d ++ rest → ⊥
no_units d rest e = go (nat_lt d 65536) e
  where
    go : (b : Bool) → [] ≡ cond b (d ∷ []) ((0xD800 + (d - 0x10000) / 0x400) ∷ (0xDC00 + (d - 0x10000) % 0x400) ∷ []) ++ rest → ⊥
    go true e = cc
    go false e = cc

-- a name whose key is an encoded name is that name
unit_names : (letters : CaseTable) (one other : List ℕ) → keeps_encoded_names letters ≡ true → list_all is_encoded one ≡ true → one ≡ name_key letters other → one ≡ other
unfolding name_key
unit_names letters [] [] may all e = refl
unit_names letters [] (d ∷ ds) may all e = absurd (no_units (letter letters d) (flat_map (λ c. encode_utf16 (letter letters c)) ds) e)
unit_names letters (c ∷ cs) [] may all e = absurd (cc)
unit_names letters (c ∷ cs) (d ∷ ds) may all e =
    let both = and_parts (is_encoded c) (list_all is_encoded cs) all in
    let parts = first_is (letter letters d) c cs (flat_map (λ c. encode_utf16 (letter letters c)) ds) both.0 e in
    let back : letter letters d ≡ d = letter_back letters d may (ap is_encoded parts.0 ∙ both.0) in
    ap₂ (λ x xs. x ∷ xs) (sym parts.0 ∙ back) (unit_names letters cs ds may both.1 parts.1)

pub keys_tell : (letters : CaseTable) (one other : List ℕ) → keeps_encoded_names letters ≡ true → list_all is_encoded one ≡ true → name_key letters one ≡ name_key letters other → one ≡ other
keys_tell letters one other may all e = unit_names letters one other may all (sym (key_is letters one may all) ∙ e)

-- ---- names of tables

name_bytes : (name : List ℕ) → is_identifier name ≡ true → list_all is_name_byte name ≡ true
name_bytes [] e = absurd (cc)
name_bytes (b ∷ bs) e =
    let both = and_parts (begins_name b) (list_all is_name_byte bs) e in
    rw (both.0, both.1) refl

name_byte_ascii : (b : ℕ) → is_name_byte b ≡ true → b < 128
name_byte_ascii b e = grind (arith, nat_tests, e)

ascii_bytes : (bs : List ℕ) → list_all is_name_byte bs ≡ true → IsAscii bs
ascii_bytes [] e = λ i. omega arith
ascii_bytes (b ∷ bs) e =
    let both = and_parts (is_name_byte b) (list_all is_name_byte bs) e in
    below (name_byte_ascii b both.0) (ascii_bytes bs both.1)
  where
    below : b < 128 → IsAscii bs → IsAscii (b ∷ bs)
    below first later zero = first
    below first later (suc i) = later i

plain_bytes : (bs : List ℕ) → list_all is_name_byte bs ≡ true → is_plain_name bs ≡ true
plain_bytes [] e = refl
plain_bytes (b ∷ bs) e =
    let both = and_parts (is_name_byte b) (list_all is_name_byte bs) e in
    let ascii = name_byte_ascii b both.0 in
    let one : is_plain b ≡ true = grind (arith, nat_tests, ascii) in
    rw (one, plain_bytes bs both.1) refl

-- each byte of a name has a value
has_value : (b : ℕ) → is_name_byte b ≡ true → (v : ℕ) × (letter_value b ≡ Some v)
has_value b e =
    letters (is_between 48 57 b) (is_between 65 90 b) (is_between 97 122 b) (b == 46) (b == 95) refl refl refl refl refl
  where
    letters : (digit upper lower point line : Bool) → is_between 48 57 b ≡ digit → is_between 65 90 b ≡ upper → is_between 97 122 b ≡ lower → (b == 46) ≡ point → (b == 95) ≡ line
        → (v : ℕ) × (cond digit (Some (b - 48)) (cond upper (Some (b - 65 + 10)) (cond lower (Some (b - 97 + 36)) (cond point (Some 62) (cond line (Some 63) None)))) ≡ Some v)
    letters true upper lower point line ed eu el ep en = (b - 48, refl)
    letters false true lower point line ed eu el ep en = (b - 65 + 10, refl)
    letters false false true point line ed eu el ep en = (b - 97 + 36, refl)
    letters false false false true line ed eu el ep en = (62, refl)
    letters false false false false true ed eu el ep en = (63, refl)
    letters false false false false false ed eu el ep en = absurd (let h : (((false || false) || false) || false || false) ≡ true = (rw (eu, el, en, ed, ep) at e) in cc)

letters_encoded : (cs : List ℕ) → list_all is_name_byte cs ≡ true → list_all is_encoded (spelled cs) ≡ true
letters_encoded [] e = refl
letters_encoded (c ∷ []) e =
    let v = has_value c (and_parts (is_name_byte c) true e).0 in
    let small = (letter_value-back c v.0 v.1).0 in
    let one : is_encoded (0x4800 + v.0) ≡ true = grind (arith, nat_tests, small) in
    rw (v.1, one) refl
letters_encoded (c ∷ d ∷ rest) e =
    let first = and_parts (is_name_byte c) (list_all is_name_byte (d ∷ rest)) e in
    let second = and_parts (is_name_byte d) (list_all is_name_byte rest) first.1 in
    let v = has_value c first.0 in
    let w = has_value d second.0 in
    let low = (letter_value-back c v.0 v.1).0 in
    let high = (letter_value-back d w.0 w.1).0 in
    let one : is_encoded (0x3800 + 64 * w.0 + v.0) ≡ true = grind (arith, nat_tests, low, high) in
    rw (v.1, w.1, one) (letters_encoded rest second.1)

pub name_encoded : (name : List ℕ) → is_identifier name ≡ true → list_all is_encoded (stream_name name) ≡ true
name_encoded name e =
    ap (λ cs. list_all is_encoded (spelled_name true cs)) (chars-IsAscii name (ascii_bytes name (name_bytes name e))) ∙ letters_encoded name (name_bytes name e)

abbrev behind : List ℕ → List ℕ
behind [] = []
behind (c ∷ cs) = cs

pub one_table : (one other : List ℕ) → is_identifier one ≡ true → is_identifier other ≡ true → stream_name one ≡ stream_name other → one ≡ other
one_table one other e f same =
    let bytes = name_bytes one e in
    let others = name_bytes other f in
    spelled_names_differ one other (plain_bytes one bytes) (plain_bytes other others)
    (ap spelled (sym (chars-IsAscii one (ascii_bytes one bytes))) ∙ ap behind same ∙ ap spelled (chars-IsAscii other (ascii_bytes other others)))
