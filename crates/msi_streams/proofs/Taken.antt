-- What a name that calls take is: that of no table and no special stream, a path of one name, and a name that a new stream can have.
use Rattle.std.proofs.Common.{◌≡◌, ◌∙◌, ℕ, ◌+◌, ◌-◌, ◌*◌, ◌/◌, ◌%◌, ◌<◌, ◌≤◌, Bool, true, false, cond, List, [], ◌∷◌, ◌++◌, Option, Some, None, length, map, refl, sym, ap, arith, length-append, encode_utf8, encode_utf8_all}
use Rattle.std.specs.Prelude.{◌&&◌, ◌||◌, ◌==◌, nat_le, nat_lt, Ok, IsUtf8, not, option_map}
use Rattle.std.specs.Char.Escape.{encode_utf16}
use Rattle.std.specs.List.{flat_map, list_all, list_any}
use Rattle.std.proofs.lemmas.Bool.{and_parts}
use Rattle.std.proofs.lemmas.Bool.Decides.{nat_tests}
use Rattle.std.proofs.lemmas.List.Folds.{list_all-append}
use Rattle.std.proofs.lemmas.Str.{encode_ascii, encodes-chars}
use Rattle.std.specs.Str.{chars}
use Rattle.cfb_medium.specs.declared.error.Error.{Error}
use Rattle.cfb_medium.specs.declared.error.Error.TheVariants.{InvalidInput}
use Rattle.cfb_tree.specs.Names.{CaseTable, is_forbidden, is_name}
use Rattle.cfb_tree.specs.Objects.{is_same_name}
use Rattle.cfb_tree.specs.Paths.{path_names}
use Rattle.msi_spec.proofs.EncodedPaths.{path_is, spelled_some}
use Rattle.msi_spec.specs.Package.{summary_name}
use Rattle.msi_spec.specs.Streams.{document_summary_name, is_separator, is_special, may_name, plain_stream_name, signature_ex_name, signature_name}
use Rattle.msi_texts.specs.Results.{unless_not}
use Rattle.msi_texts.specs.StreamName.{is_marked, is_valid_name, joined_or, letter_value, lone, lone_of, pair, pair_of, spelled, spelled_name}
use Rattle.msi_texts.proofs.NamesReadBack.{first_unmarked}
use Rattle.msi_streams.proofs.Marks.{key_of_same, same_of_key}

is_false : (b : Bool) → not b ≡ true → b ≡ false
is_false true e = absurd (cc)
is_false false e = refl

tested : (b : Bool) (e : Error) → unless_not b e ≡ Ok tt → b ≡ true
tested true e is = refl
tested false e is = absurd (cc)

some_name : (name : List ℕ) → not (length (chars name) == 0) ≡ true → 0 < length name
unfolding chars
some_name [] e = absurd (cc)
some_name (b ∷ bs) e = omega arith

some_chars : (cs : List ℕ) → not (length cs == 0) ≡ true → 0 < length cs
some_chars [] e = absurd (cc)
some_chars (c ∷ cs) e = omega arith

none_slash : (name : List ℕ) → list_any is_separator name ≡ false → list_all (λ b. not (b == 47)) name ≡ true
none_slash [] e = refl
none_slash (b ∷ bs) e = by (b == 47) (b == 92) (b == 58) (b == 33) (list_any is_separator bs) e (none_slash bs)
  where
    by : (u v w x later : Bool) → (u || v || w || x) || later ≡ false → (later ≡ false → list_all (λ b. not (b == 47)) bs ≡ true) → not u && list_all (λ b. not (b == 47)) bs ≡ true
    by false false false false later e on = on e
    by true v w x later e on = absurd (cc)
    by false true w x later e on = absurd (cc)
    by false false true x later e on = absurd (cc)
    by false false false true later e on = absurd (cc)

-- ---- characters that new names have

abbrev is_fit : ℕ → Bool
is_fit c = not (is_forbidden c)

fit_far : (c : ℕ) → 128 ≤ c → is_fit c ≡ true
fit_far c far = grind (arith, nat_tests)

fit_byte : (b : ℕ) → is_separator b ≡ false → is_fit b ≡ true
fit_byte b e = grind (arith, nat_tests, e)

lone_fit : (c : ℕ) → is_fit c ≡ true → is_fit (lone c) ≡ true
lone_fit c h = go (letter_value c)
  where
    go : (o : Option ℕ) → is_fit (lone_of o c) ≡ true
    go None = h
    go (Some v) = fit_far (0x4800 + v) (omega arith)

pair_fit : (c d p : ℕ) → pair c d ≡ Some p → is_fit p ≡ true
pair_fit c d p h = go (letter_value c) (letter_value d) h
  where
    go : (o q : Option ℕ) → pair_of o q ≡ Some p → is_fit p ≡ true
    go None q h = absurd (cc)
    go (Some v) None h = absurd (cc)
    go (Some v) (Some w) h =
        let is : 0x3800 + 64 * w + v ≡ p = cc in
        fit_far p (omega (arith, is))

spelled_fit : (cs : List ℕ) → list_all is_fit cs ≡ true → list_all is_fit (spelled cs) ≡ true
spelled_fit [] h = refl
spelled_fit (c ∷ []) h = ap (λ b. b && true) (lone_fit c (and_parts (is_fit c) true h).0)
spelled_fit (c ∷ d ∷ rest) h =
    let parts = and_parts (is_fit c) (list_all is_fit (d ∷ rest)) h in
    go (pair c d) refl (lone_fit c parts.0) (spelled_fit rest (and_parts (is_fit d) (list_all is_fit rest) parts.1).1) (spelled_fit (d ∷ rest) parts.1)
  where
    go : (o : Option ℕ) → pair c d ≡ o → is_fit (lone c) ≡ true → list_all is_fit (spelled rest) ≡ true → list_all is_fit (spelled (d ∷ rest)) ≡ true
        → list_all is_fit (joined_or o c (spelled rest) (spelled (d ∷ rest))) ≡ true
    go None e alone joined apart = ap (λ b. b && list_all is_fit (spelled (d ∷ rest))) alone ∙ apart
    go (Some p) e alone joined apart = ap (λ b. b && list_all is_fit (spelled rest)) (pair_fit c d p e) ∙ joined

bytes_fit : (bs : List ℕ) → list_any is_separator bs ≡ false → list_all is_fit bs ≡ true
bytes_fit [] e = refl
bytes_fit (b ∷ bs) e = by (is_separator b) refl (list_any is_separator bs) e (bytes_fit bs)
  where
    by : (here : Bool) → is_separator b ≡ here → (later : Bool) → here || later ≡ false → (later ≡ false → list_all is_fit bs ≡ true) → is_fit b && list_all is_fit bs ≡ true
    by true is later e on = absurd (cc)
    by false is later e on = ap (λ x. x && list_all is_fit bs) (fit_byte b is) ∙ on e

chars_fit : (cs : List ℕ) → list_all is_fit (encode_utf8_all cs) ≡ true → list_all is_fit cs ≡ true
chars_fit [] e = refl
chars_fit (c ∷ cs) e =
    let both = and_parts (list_all is_fit (encode_utf8 c)) (list_all is_fit (encode_utf8_all cs)) (sym (list_all-append is_fit (encode_utf8 c) (encode_utf8_all cs)) ∙ e) in
    ap (λ b. b && list_all is_fit cs) (go (nat_lt c 128) refl both.0) ∙ chars_fit cs both.1
  where
    go : (b : Bool) → nat_lt c 128 ≡ b → list_all is_fit (encode_utf8 c) ≡ true → is_fit c ≡ true
    go true ascii fit =
        let one : list_all is_fit (c ∷ []) ≡ true = ap (list_all is_fit) (sym (encode_ascii c (grind (arith, nat_tests, ascii)))) ∙ fit in
        (and_parts (is_fit c) true one).0
    go false past fit = fit_far c (grind (arith, nat_tests, past))

one_unit : (c : ℕ) → 0 < length (encode_utf16 c)
one_unit c = go (nat_lt c 0x10000)
  where
    go : (b : Bool) → 0 < length (cond b (c ∷ []) ((0xD800 + (c - 0x10000) / 0x400) ∷ (0xDC00 + (c - 0x10000) % 0x400) ∷ []))
    go true = omega arith
    go false = omega arith

some_units : (cs : List ℕ) → 0 < length cs → nat_le 1 (length (flat_map encode_utf16 cs)) ≡ true
some_units [] some = absurd (omega (arith, some))
some_units (c ∷ cs) some =
    let first = one_unit c in
    let whole : 1 ≤ length (encode_utf16 c ++ flat_map encode_utf16 cs) = omega (arith, first, length-append (encode_utf16 c) (flat_map encode_utf16 cs)) in
    grind (arith, nat_tests, whole)

module _ (letters : CaseTable) (name : List ℕ) (may : may_name letters name ≡ Ok tt) where
  parts : ((is_valid_name false (chars name) && not (list_any is_separator name)) ≡ true) × (not (is_special letters (plain_stream_name name)) ≡ true)
  parts = and_parts (is_valid_name false (chars name) && not (list_any is_separator name)) (not (is_special letters (plain_stream_name name))) (tested _ InvalidInput may)

  front : (is_valid_name false (chars name) ≡ true) × (not (list_any is_separator name) ≡ true)
  front = and_parts (is_valid_name false (chars name)) (not (list_any is_separator name)) parts.0

  -- it is no special one
  pub taken_special : is_special letters (plain_stream_name name) ≡ false
  taken_special = is_false (is_special letters (plain_stream_name name)) parts.1

  -- so it isn't the summary's
  pub taken_other : is_same_name letters summary_name (plain_stream_name name) ≡ false
  taken_other = by (is_same_name letters summary_name (plain_stream_name name)) refl
    where
      plain : List ℕ
      plain = plain_stream_name name

      second : (a b c : Bool) → b ≡ true → a || (b || c) ≡ true
      second true b c e = refl
      second false true c e = refl
      second false false c e = absurd (cc)

      by : (b : Bool) → is_same_name letters summary_name (plain_stream_name name) ≡ b → b ≡ false
      by false e = refl
      by true e =
          let turned : is_same_name letters plain summary_name ≡ true = same_of_key letters plain summary_name (sym (key_of_same letters summary_name plain e)) in
          let special : is_special letters plain ≡ true =
          second (is_same_name letters plain document_summary_name) (is_same_name letters plain summary_name) (is_same_name letters plain signature_name || (is_same_name letters plain signature_ex_name || false)) turned in
          let never : true ≡ false = sym special ∙ taken_special in absurd (cc)

  valid : ((not (length (chars name) == 0) && (false || not (is_marked (chars name)))) ≡ true) × (nat_le (length (flat_map encode_utf16 (spelled_name false (chars name)))) 31 ≡ true)
  valid = and_parts (not (length (chars name) == 0) && (false || not (is_marked (chars name)))) (nat_le (length (flat_map encode_utf16 (spelled_name false (chars name)))) 31) front.0

  first : (not (length (chars name) == 0) ≡ true) × (not (is_marked (chars name)) ≡ true)
  first = let both = and_parts (not (length (chars name) == 0)) (false || not (is_marked (chars name))) valid.0 in (both.0, both.1)

  -- nor is it marked
  pub taken_unmarked : is_marked (plain_stream_name name) ≡ false
  taken_unmarked = first_unmarked (chars name) (is_false (is_marked (chars name)) first.1)

  -- encoded it is a path of one name
  pub taken_path : IsUtf8 name → option_map (map chars) (path_names (encode_utf8_all (plain_stream_name name))) ≡ Some (plain_stream_name name ∷ [])
  taken_path text = path_is false name text (some_name name first.0) (none_slash name (is_false (list_any is_separator name) front.1))

  -- and the name of a new stream
  pub taken_name : IsUtf8 name → is_name (plain_stream_name name) ≡ true
  taken_name text =
      let some = some_units (spelled (chars name)) (spelled_some (chars name) (some_chars (chars name) first.0)) in
      let fit : list_all is_fit (chars name) ≡ true = chars_fit (chars name) (ap (list_all is_fit) (encodes-chars name text) ∙ bytes_fit name (is_false (list_any is_separator name) front.1)) in
      ap (λ b. (b && nat_le (length (flat_map encode_utf16 (spelled (chars name)))) 31) && list_all is_fit (spelled (chars name))) some
      ∙ ap (λ b. b && list_all is_fit (spelled (chars name))) valid.1
      ∙ spelled_fit (chars name) fit
