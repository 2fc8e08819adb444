-- A text that fits a page comes back from its bytes.
use Rattle.std.proofs.Common.{◌≡◌, ℕ, ◌+◌, ◌-◌, ◌≤◌, Bool, true, false, cond, List, [], ◌∷◌, map, get_or, Option, Some, None, unwrap_or, is_some, refl, ap, ap₂, ◌∙◌, arith}
use Rattle.std.specs.Prelude.{nat_lt, ◌==◌, ◌&&◌, chars, encode_utf8_all}
use Rattle.std.specs.Str.{IsUtf8}
use Rattle.std.specs.List.{list_all}
use Rattle.std.proofs.lemmas.Bool.Decides.{nat_tests}
use Rattle.std.proofs.lemmas.Str.{utf8_lossy-IsUtf8, encodes-chars}
use Rattle.msi_texts.specs.declared.codepage.CodePage.{CodePage}
use Rattle.msi_texts.specs.Page.{is_utf8_page, high_half, char_of, byte_of, number_in, encoded, decoded, fits}

-- the number of a character is where it stands
number_in-place : (c n : ℕ) (ds : List ℕ) (m : ℕ) → number_in c n ds ≡ Some m → (n ≤ m) × (get_or ds (m - n) 0xFFFD ≡ c)
number_in-place c n [] m h = cc
number_in-place c n (d ∷ ds) m h = go (d == c) refl (number_in-place c (n + 1) ds m) h
  where
    go : (b : Bool) → (d == c) ≡ b → (number_in c (n + 1) ds ≡ Some m → (n + 1 ≤ m) × (get_or ds (m - (n + 1)) 0xFFFD ≡ c)) →
        cond b (Some n) (number_in c (n + 1) ds) ≡ Some m → (n ≤ m) × (get_or (d ∷ ds) (m - n) 0xFFFD ≡ c)
    go true e ih h =
        let same : n ≡ m = cc in
        let zero_off : m - n ≡ 0 = omega arith in
        (omega arith, rw zero_off (grind (arith, nat_tests, e)))
    go false e ih h =
        let further = ih h in
        let off : m - n ≡ m - (n + 1) + 1 = omega (arith, further.0) in
        (omega (arith, further.0), grind (arith, off, further.1))

-- a character that the page has is that of its byte
char_of-byte_of : (p : CodePage) (c : ℕ) → is_some (byte_of p c) ≡ true → char_of p (unwrap_or (byte_of p c) 63) ≡ c
char_of-byte_of p c h = go (nat_lt c 128) refl h
  where
    found : (o : Option ℕ) → number_in c 128 (high_half p) ≡ o → is_some o ≡ true → char_of p (unwrap_or o 63) ≡ c
    found None e h = cc
    found (Some m) e h =
        let at = number_in-place c 128 (high_half p) m e in
        grind (arith, nat_tests, at.0, at.1)

    go : (b : Bool) → nat_lt c 128 ≡ b → is_some (cond b (Some c) (number_in c 128 (high_half p))) ≡ true → char_of p (unwrap_or (cond b (Some c) (number_in c 128 (high_half p))) 63) ≡ c
    go true e h = rw e refl
    go false e h = found (number_in c 128 (high_half p)) refl h

-- so are all of a text
chars_kept : (p : CodePage) (cs : List ℕ) → list_all (λ c. is_some (byte_of p c)) cs ≡ true → map (char_of p) (map (λ c. unwrap_or (byte_of p c) 63) cs) ≡ cs
chars_kept p [] h = refl
chars_kept p (c ∷ cs) h = go (is_some (byte_of p c)) refl (chars_kept p cs) h
  where
    go : (b : Bool) → is_some (byte_of p c) ≡ b →
        (list_all (λ c. is_some (byte_of p c)) cs ≡ true → map (char_of p) (map (λ c. unwrap_or (byte_of p c) 63) cs) ≡ cs) →
        b && list_all (λ c. is_some (byte_of p c)) cs ≡ true → map (char_of p) (map (λ c. unwrap_or (byte_of p c) 63) (c ∷ cs)) ≡ c ∷ cs
    go true e ih h = ap₂ (λ x xs. x ∷ xs) (char_of-byte_of p c e) (ih h)
    go false e ih h = cc

pub fitting_text_comes_back : (p : CodePage) (text : List ℕ) → IsUtf8 text → fits p text ≡ true → decoded p (encoded p text) ≡ text
fitting_text_comes_back p text utf8 h = go (is_utf8_page p) h
  where
    go : (b : Bool) → cond b true (list_all (λ c. is_some (byte_of p c)) (chars text)) ≡ true →
        cond b (Rattle.std.specs.Str.Lossy.utf8_lossy (cond b text (map (λ c. unwrap_or (byte_of p c) 63) (chars text)))) (encode_utf8_all (map (char_of p) (cond b text (map (λ c. unwrap_or (byte_of p c) 63) (chars text))))) ≡ text
    go true h = utf8_lossy-IsUtf8 text utf8
    go false h = ap encode_utf8_all (chars_kept p (chars text) h) ∙ encodes-chars text utf8
