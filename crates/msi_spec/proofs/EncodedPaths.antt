-- The text of an encoded name is a path of that one name.
use Rattle.std.proofs.Common.{◌≡◌, ◌∙◌, ℕ, ◌+◌, ◌*◌, ◌<◌, ◌≤◌, Bool, true, false, cond, List, [], ◌∷◌, length, map, refl, sym, ap, arith, Option, Some, None, encode_utf8, encode_utf8_all}
use Rattle.std.specs.Prelude.{◌==◌, ◌&&◌, ◌/◌, ◌%◌, not, nat_lt, option_map, All}
use Rattle.std.specs.List.{list_all}
use Rattle.std.specs.Str.{IsUtf8, chars}
use Rattle.std.proofs.lemmas.Bool.{and_parts}
use Rattle.std.proofs.lemmas.Bool.Decides.{nat_tests}
use Rattle.std.proofs.lemmas.List.Folds.{list_all-append}
use Rattle.std.proofs.lemmas.Str.{encode_ascii, encodes-chars, scalars-chars, chars-encodes, length-le-encodes}
use Rattle.std.proofs.lemmas.List.Elements.{All-cons, All-nil}
use Rattle.std.proofs.Math.Utf8.{encode}
use Rattle.cfb_tree.specs.Paths.{is_back, is_dropped, led_from, longer, parts_of, path_names}
use Rattle.msi_texts.specs.StreamName.{letter_value, lone, lone_of, pair, pair_of, joined_or, spelled, spelled_name}
use Rattle.msi_spec.specs.Package.{summary_name}
use Rattle.msi_spec.specs.Streams.{document_summary_name, signature_ex_name, signature_name, special_names}
use Rattle.msi_texts.proofs.NamesReadBack.{letter_value-back}
use Rattle.msi_texts.proofs.SpelledNames.{scalars-spelled_name}

-- neither a point nor a slash
abbrev is_fit : ℕ → Bool
is_fit c = not (c == 46) && not (c == 47)

abbrev is_no_slash : ℕ → Bool
is_no_slash c = not (c == 47)

-- ---- paths

one_part : (text : List ℕ) → list_all is_fit text ≡ true → parts_of text ≡ text ∷ []
one_part [] e = refl
one_part (c ∷ cs) e =
    let both = and_parts (is_fit c) (list_all is_fit cs) e in
    go (c == 47) (and_parts (not (c == 46)) (not (c == 47)) both.0).1 (one_part cs both.1)
  where
    go : (b : Bool) → not b ≡ true → parts_of cs ≡ cs ∷ [] → cond b ([] ∷ parts_of cs) (longer c (parts_of cs)) ≡ (c ∷ cs) ∷ []
    go true h later = absurd (cc)
    go false h later = ap (longer c) later

no_point : (c : ℕ) → is_fit c ≡ true → (c == 46) ≡ false
no_point c e = go (c == 46) (and_parts (not (c == 46)) (not (c == 47)) e).0
  where
    go : (b : Bool) → not b ≡ true → b ≡ false
    go true h = absurd (cc)
    go false h = refl

kept : (c : ℕ) (cs : List ℕ) → list_all is_fit (c ∷ cs) ≡ true → (is_dropped (c ∷ cs) ≡ false) × (is_back (c ∷ cs) ≡ false)
kept c [] e = (no_point c (and_parts (is_fit c) true e).0, refl)
kept c (d ∷ []) e = (refl, ap (λ b. b && (d == 46)) (no_point c (and_parts (is_fit c) (list_all is_fit (d ∷ [])) e).0))
kept c (d ∷ f ∷ cs) e = (refl, refl)

one_name : (text : List ℕ) → 0 < length text → list_all is_fit text ≡ true → path_names text ≡ Some (text ∷ [])
one_name [] some e = absurd (omega (arith, some))
one_name (c ∷ cs) some e =
    ap (led_from (Some [])) (one_part (c ∷ cs) e) ∙ rw ((kept c cs e).0, (kept c cs e).1) refl

-- ---- the characters that spell a name

lone_fit : (c : ℕ) → is_no_slash c ≡ true → is_fit (lone c) ≡ true
lone_fit c h = go (letter_value c) refl
  where
    go : (o : Option ℕ) → letter_value c ≡ o → is_fit (lone_of o c) ≡ true
    go None e = grind (arith, nat_tests, h)
    go (Some v) e = let back = letter_value-back c v e in grind (arith, nat_tests, back.0)

pair_fit : (c d p : ℕ) → pair c d ≡ Some p → is_fit p ≡ true
pair_fit c d p h = go (letter_value c) (letter_value d) refl refl h
  where
    go : (o q : Option ℕ) → letter_value c ≡ o → letter_value d ≡ q → pair_of o q ≡ Some p → is_fit p ≡ true
    go None q e f h = absurd (cc)
    go (Some v) None e f h = absurd (cc)
    go (Some v) (Some w) e f h =
        let first = letter_value-back c v e in
        let second = letter_value-back d w f in
        let is : 0x3800 + 64 * w + v ≡ p = cc in
        grind (arith, nat_tests, is, first.0, second.0)

spelled_fit : (cs : List ℕ) → list_all is_no_slash cs ≡ true → list_all is_fit (spelled cs) ≡ true
spelled_fit [] h = refl
spelled_fit (c ∷ []) h = rw (lone_fit c (and_parts (is_no_slash c) true h).0) refl
spelled_fit (c ∷ d ∷ rest) h =
    let parts = and_parts (is_no_slash c) (list_all is_no_slash (d ∷ rest)) h in
    go (pair c d) refl (lone_fit c parts.0) (spelled_fit rest (and_parts (is_no_slash d) (list_all is_no_slash rest) parts.1).1) (spelled_fit (d ∷ rest) parts.1)
  where
    go : (o : Option ℕ) → pair c d ≡ o → is_fit (lone c) ≡ true → list_all is_fit (spelled rest) ≡ true → list_all is_fit (spelled (d ∷ rest)) ≡ true →
        list_all is_fit (joined_or o c (spelled rest) (spelled (d ∷ rest))) ≡ true
    go None e alone joined apart = rw (alone, apart) refl
    go (Some p) e alone joined apart = rw (pair_fit c d p e, joined) refl

-- ---- as bytes

-- bytes of characters past ASCII are past it
abbrev is_past : ℕ → Bool
is_past b = nat_lt 127 b

past_bytes : (c : ℕ) → 128 ≤ c → list_all is_past (encode_utf8 c) ≡ true
unfolding encode
past_bytes c past = go (nat_lt c 128) (grind (arith, nat_tests)) (nat_lt c 2048) (nat_lt c 65536)
  where
    high : (k n : ℕ) → 128 ≤ k → nat_lt 127 (k + n) ≡ true
    high k n h = grind (arith, nat_tests)

    go : (a : Bool) → a ≡ false → (b d : Bool)
        → list_all is_past (cond a (c ∷ []) (cond b ((192 + c / 64) ∷ (128 + c % 64) ∷ [])
        (cond d ((224 + c / 4096) ∷ (128 + c / 64 % 64) ∷ (128 + c % 64) ∷ []) ((240 + c / 262144) ∷ (128 + c / 4096 % 64) ∷ (128 + c / 64 % 64) ∷ (128 + c % 64) ∷ [])))) ≡ true
    go true e b d = absurd (cc)
    go false e true d = rw (high 192 (c / 64) (omega arith), high 128 (c % 64) (omega arith)) refl
    go false e false true = rw (high 224 (c / 4096) (omega arith), high 128 (c / 64 % 64) (omega arith), high 128 (c % 64) (omega arith)) refl
    go false e false false = rw (high 240 (c / 262144) (omega arith), high 128 (c / 4096 % 64) (omega arith), high 128 (c / 64 % 64) (omega arith), high 128 (c % 64) (omega arith)) refl

fit_from_past : (bs : List ℕ) → list_all is_past bs ≡ true → list_all is_fit bs ≡ true
fit_from_past [] e = refl
fit_from_past (b ∷ bs) e =
    let both = and_parts (is_past b) (list_all is_past bs) e in
    let one : is_fit b ≡ true = grind (arith, nat_tests, both.0) in
    rw (one, fit_from_past bs both.1) refl

bytes_fit : (cs : List ℕ) → list_all is_fit cs ≡ true → list_all is_fit (encode_utf8_all cs) ≡ true
bytes_fit [] e = refl
bytes_fit (c ∷ cs) e =
    let both = and_parts (is_fit c) (list_all is_fit cs) e in
    let first : list_all is_fit (encode_utf8 c) ≡ true = go (nat_lt c 128) refl both.0 in
    list_all-append is_fit (encode_utf8 c) (encode_utf8_all cs) ∙ rw (first, bytes_fit cs both.1) refl
  where
    go : (b : Bool) → nat_lt c 128 ≡ b → is_fit c ≡ true → list_all is_fit (encode_utf8 c) ≡ true
    go true ascii fit = rw (encode_ascii c (grind (arith, nat_tests, ascii)), fit) refl
    go false past fit = fit_from_past (encode_utf8 c) (past_bytes c (grind (arith, nat_tests, past)))

chars_fit : (cs : List ℕ) → list_all is_no_slash (encode_utf8_all cs) ≡ true → list_all is_no_slash cs ≡ true
chars_fit [] e = refl
chars_fit (c ∷ cs) e =
    let both = and_parts (list_all is_no_slash (encode_utf8 c)) (list_all is_no_slash (encode_utf8_all cs)) (sym (list_all-append is_no_slash (encode_utf8 c) (encode_utf8_all cs)) ∙ e) in
    let first : is_no_slash c ≡ true = go (nat_lt c 128) refl both.0 in
    rw (first, chars_fit cs both.1) refl
  where
    go : (b : Bool) → nat_lt c 128 ≡ b → list_all is_no_slash (encode_utf8 c) ≡ true → is_no_slash c ≡ true
    go true ascii fit =
        let one : list_all is_no_slash (c ∷ []) ≡ true = ap (list_all is_no_slash) (sym (encode_ascii c (grind (arith, nat_tests, ascii)))) ∙ fit in
        (and_parts (is_no_slash c) true one).0
    go false past fit = grind (arith, nat_tests, past)

-- a name of some characters is spelled by some
pub spelled_some : (cs : List ℕ) → 0 < length cs → 0 < length (spelled cs)
spelled_some [] some = absurd (omega (arith, some))
spelled_some (c ∷ []) some = omega arith
spelled_some (c ∷ d ∷ rest) some = go (pair c d)
  where
    go : (o : Option ℕ) → 0 < length (joined_or o c (spelled rest) (spelled (d ∷ rest)))
    go None = omega arith
    go (Some p) = omega arith

some_chars : (cs : List ℕ) → 0 < length (encode_utf8_all cs) → 0 < length cs
some_chars [] some = absurd (omega (arith, some))
some_chars (c ∷ cs) some = omega arith

spelled_name_fit : (table : Bool) (cs : List ℕ) → list_all is_no_slash cs ≡ true → list_all is_fit (spelled_name table cs) ≡ true
spelled_name_fit true cs h = spelled_fit cs h
spelled_name_fit false cs h = spelled_fit cs h

spelled_name_some : (table : Bool) (cs : List ℕ) → 0 < length cs → 0 < length (spelled_name table cs)
spelled_name_some true cs some = omega arith
spelled_name_some false cs some = spelled_some cs some

pub path_filled : (table : Bool) (name : List ℕ) → IsUtf8 name → 0 < length (spelled_name table (chars name)) → list_all is_no_slash name ≡ true
    → option_map (map chars) (path_names (encode_utf8_all (spelled_name table (chars name)))) ≡ Some (spelled_name table (chars name) ∷ [])
path_filled table name utf8 some no_slash =
    let cs = chars name in
    let fit : list_all is_no_slash cs ≡ true = chars_fit cs (ap (list_all is_no_slash) (encodes-chars name utf8) ∙ no_slash) in
    let text = encode_utf8_all (spelled_name table cs) in
    let long : 0 < length text = omega (arith, some, length-le-encodes (spelled_name table cs)) in
    ap (option_map (map chars)) (one_name text long (bytes_fit (spelled_name table cs) (spelled_name_fit table cs fit)))
    ∙ ap (λ (cs : List ℕ). Some (cs ∷ [])) (chars-encodes (spelled_name table cs) (scalars-spelled_name table cs (scalars-chars name utf8)))

pub path_is : (table : Bool) (name : List ℕ) → IsUtf8 name → 0 < length name → list_all is_no_slash name ≡ true
    → option_map (map chars) (path_names (encode_utf8_all (spelled_name table (chars name)))) ≡ Some (spelled_name table (chars name) ∷ [])
path_is table name utf8 some no_slash =
    let cs = chars name in
    path_filled table name utf8 (spelled_name_some table cs (some_chars cs (omega (arith, some, ap length (encodes-chars name utf8))))) no_slash

abbrev IsPath : List ℕ → Type 0
IsPath name = option_map (map chars) (path_names name) ≡ Some (name ∷ [])

-- the special names stand as they are
pub special_paths : All (λ name. option_map (map chars) (path_names name) ≡ Some (name ∷ [])) special_names
unfolding chars
special_paths =
    All-cons IsPath document_summary_name (summary_name ∷ signature_name ∷ signature_ex_name ∷ []) refl
    (All-cons IsPath summary_name (signature_name ∷ signature_ex_name ∷ []) refl
    (All-cons IsPath signature_name (signature_ex_name ∷ []) refl
    (All-cons IsPath signature_ex_name [] refl (All-nil IsPath))))
