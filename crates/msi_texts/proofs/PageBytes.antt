-- Bytes that have characters come back from their text.
use Rattle.std.proofs.Common.{◌≡◌, ◌≢◌, ℕ, zero, suc, ◌+◌, ◌-◌, ◌<◌, ◌≤◌, Bool, true, false, cond, not, List, [], ◌∷◌, map, length, get_or, Option, Some, None, is_some, unwrap_or, refl, ap, ap₂, ◌∙◌, arith}
use Rattle.std.specs.Prelude.{nat_lt, nat_le, ◌==◌, ◌&&◌, encode_utf8_all}
use Rattle.std.specs.Str.{is_utf8, chars}
use Rattle.std.specs.Str.Lossy.{utf8_lossy}
use Rattle.std.specs.List.{list_all, list_any}
use Rattle.std.proofs.Math.Utf8.{scalar, scalars, low_scalar}
use Rattle.std.proofs.lemmas.Bool.Decides.{nat_tests}
use Rattle.std.proofs.lemmas.List.{get_or_past}
use Rattle.std.proofs.lemmas.List.Folds.{list_any_at}
use Rattle.std.proofs.lemmas.Str.{utf8_lossy-IsUtf8, IsUtf8-from_is_utf8, chars-encodes}
use Rattle.msi_texts.specs.declared.codepage.CodePage.{CodePage}
use Rattle.msi_texts.specs.declared.codepage.CodePage.TheVariants as page
use Rattle.msi_texts.specs.Page.{is_utf8_page, high_half, char_of, byte_of, number_in, encoded, decoded, fits, has_characters}
use Rattle.std.proofs.lemmas.Bool.{and_parts}

-- none stands twice
abbrev is_distinct : List ℕ → Bool
is_distinct [] = true
is_distinct (d ∷ ds) = not (list_any (λ x. x == d) ds) && is_distinct ds

-- the rule of a page's table, computed once over each
abbrev is_table : List ℕ → Bool
is_table ds = list_all (λ d. nat_le 128 d) ds && is_distinct ds

tables : (p : CodePage) → is_table (high_half p) ≡ true
tables page.Windows1252 = refl
tables page.Iso88591 = refl
tables page.MacintoshRoman = refl
tables _ = refl

not_first : (x : ℕ) (xs : List ℕ) (i d : ℕ) → not (list_any (λ y. y == x) xs) ≡ true → i < length xs → (x == get_or xs i d) ≡ false
not_first x xs i d h l = go (x == get_or xs i d) refl
  where
    go : (b : Bool) → (x == get_or xs i d) ≡ b → b ≡ false
    go true e =
        let same : (get_or xs i d == x) ≡ true = grind (arith, nat_tests, e) in
        let any = list_any_at (λ y. y == x) xs i d l same in
        absurd (cc (ap not any, h))
    go false e = refl

-- the number of what stands at a place is that place's
own_number : (ds : List ℕ) (n i d : ℕ) → is_distinct ds ≡ true → i < length ds → number_in (get_or ds i d) n ds ≡ Some (n + i)
own_number [] n i d h l = absurd (omega arith)
own_number (x ∷ xs) n zero d h l =
    let same : (x == x) ≡ true = grind (arith, nat_tests) in
    ap (λ b. cond b (Some n) (number_in x (n + 1) xs)) same ∙ ap Some (omega arith)
own_number (x ∷ xs) n (suc i) d h l =
    let apart = (and_parts (not (list_any (λ y. y == x) xs)) (is_distinct xs) h).0 in
    let inside : i < length xs = omega arith in
    let other : (x == get_or xs i d) ≡ false = not_first x xs i d apart inside in
    ap (λ b. cond b (Some n) (number_in (get_or xs i d) (n + 1) xs)) other
    ∙ own_number xs (n + 1) i d (and_parts (not (list_any (λ y. y == x) xs)) (is_distinct xs) h).1 inside
    ∙ ap Some (omega arith)

at_least : (ds : List ℕ) (i d : ℕ) → list_all (λ d. nat_le 128 d) ds ≡ true → i < length ds → 128 ≤ get_or ds i d
at_least [] i d h l = absurd (omega arith)
at_least (x ∷ xs) zero d h l = let low = (and_parts (nat_le 128 x) (list_all (λ d. nat_le 128 d) xs) h).0 in grind (arith, nat_tests, low)
at_least (x ∷ xs) (suc i) d h l = at_least xs i d (and_parts (nat_le 128 x) (list_all (λ d. nat_le 128 d) xs) h).1 (omega arith)

high_test : (c : ℕ) → 128 ≤ c → nat_lt c 128 ≡ false
high_test c h = grind (arith, nat_tests)

byte_back : (p : CodePage) (b : ℕ) → char_of p b ≢ 0xFFFD → byte_of p (char_of p b) ≡ Some b
byte_back p b h = go (nat_lt b 128) refl h
  where
    go : (low : Bool) → nat_lt b 128 ≡ low → cond low b (get_or (high_half p) (b - 128) 0xFFFD) ≢ 0xFFFD → byte_of p (cond low b (get_or (high_half p) (b - 128) 0xFFFD)) ≡ Some b
    go true e k = ap (λ z. cond z (Some b) (number_in b 128 (high_half p))) e
    go false e k = within (nat_lt (b - 128) (length (high_half p))) refl
      where
        within : (i : Bool) → nat_lt (b - 128) (length (high_half p)) ≡ i → byte_of p (get_or (high_half p) (b - 128) 0xFFFD) ≡ Some b
        within true f =
            let ds = high_half p in
            let inside : b - 128 < length ds = grind (arith, nat_tests, f) in
            let all = (and_parts (list_all (λ d. nat_le 128 d) ds) (is_distinct ds) (tables p)).0 in
            let apart = (and_parts (list_all (λ d. nat_le 128 d) ds) (is_distinct ds) (tables p)).1 in
            let high : nat_lt (get_or ds (b - 128) 0xFFFD) 128 ≡ false = high_test _ (at_least ds (b - 128) 0xFFFD all inside) in
            let above : 128 ≤ b = grind (arith, nat_tests, e) in
            ap (λ z. cond z (Some (get_or ds (b - 128) 0xFFFD)) (number_in (get_or ds (b - 128) 0xFFFD) 128 ds)) high
            ∙ own_number ds 128 (b - 128) 0xFFFD apart inside ∙ ap Some (omega arith)
        within false f = absurd (k (get_or_past (high_half p) (b - 128) 0xFFFD (grind (arith, nat_tests, f))))

bytes_back : (p : CodePage) (bs : List ℕ) → list_all (λ b. not (char_of p b == 0xFFFD)) bs ≡ true → map (λ c. unwrap_or (byte_of p c) 63) (map (char_of p) bs) ≡ bs
bytes_back p [] h = refl
bytes_back p (b ∷ bs) h =
    let first = (and_parts (not (char_of p b == 0xFFFD)) (list_all (λ b. not (char_of p b == 0xFFFD)) bs) h).0 in
    let rest = (and_parts (not (char_of p b == 0xFFFD)) (list_all (λ b. not (char_of p b == 0xFFFD)) bs) h).1 in
    ap₂ (λ x xs. x ∷ xs) (ap (λ o. unwrap_or o 63) (byte_back p b (is_other (char_of p b) first))) (bytes_back p bs rest)
  where
    is_other : (c : ℕ) → not (c == 0xFFFD) ≡ true → c ≢ 0xFFFD
    is_other c k e = grind (arith, nat_tests, k, e)

-- the characters of a page are characters
table_scalars : (p : CodePage) → list_all scalar (high_half p) ≡ true
table_scalars page.Windows1252 = refl
table_scalars page.Iso88591 = refl
table_scalars page.MacintoshRoman = refl
table_scalars _ = refl

scalar_at : (ds : List ℕ) (i : ℕ) → list_all scalar ds ≡ true → scalar (get_or ds i 0xFFFD) ≡ true
scalar_at [] i h = refl
scalar_at (d ∷ ds) zero h = (and_parts (scalar d) (list_all scalar ds) h).0
scalar_at (d ∷ ds) (suc i) h = scalar_at ds i (and_parts (scalar d) (list_all scalar ds) h).1

char_scalar : (p : CodePage) (b : ℕ) → scalar (char_of p b) ≡ true
char_scalar p b = go (nat_lt b 128) refl
  where
    go : (low : Bool) → nat_lt b 128 ≡ low → scalar (cond low b (get_or (high_half p) (b - 128) 0xFFFD)) ≡ true
    go true e = low_scalar b (grind (arith, nat_tests, e))
    go false e = scalar_at (high_half p) (b - 128) (table_scalars p)

scalars_of : (p : CodePage) (bs : List ℕ) → scalars (map (char_of p) bs) ≡ true
scalars_of p [] = refl
scalars_of p (b ∷ bs) = ap₂ (λ x y. x && y) (char_scalar p b) (scalars_of p bs)

pub bytes_come_back : (p : CodePage) (bytes : List ℕ) → has_characters p bytes ≡ true → encoded p (decoded p bytes) ≡ bytes
bytes_come_back p bytes h = go (is_utf8_page p) h
  where
    go : (b : Bool) → cond b (is_utf8 bytes) (list_all (λ b. not (char_of p b == 0xFFFD)) bytes) ≡ true →
        cond b (cond b (utf8_lossy bytes) (encode_utf8_all (map (char_of p) bytes))) (map (λ c. unwrap_or (byte_of p c) 63) (chars (cond b (utf8_lossy bytes) (encode_utf8_all (map (char_of p) bytes))))) ≡ bytes
    go true k = utf8_lossy-IsUtf8 bytes (IsUtf8-from_is_utf8 bytes k)
    go false k = ap (map (λ c. unwrap_or (byte_of p c) 63)) (chars-encodes (map (char_of p) bytes) (scalars_of p bytes)) ∙ bytes_back p bytes k

-- the same of what a reading gave, in UTF-8 or another page
abbrev read_as : CodePage → List ℕ → Bool → List ℕ
read_as p bytes utf8 = cond utf8 (utf8_lossy bytes) (encode_utf8_all (map (char_of p) bytes))

pub read_bytes_come_back : (p : CodePage) (bytes text : List ℕ) (utf8 : Bool) → utf8 ≡ is_utf8_page p → text ≡ read_as p bytes utf8 → has_characters p bytes ≡ true → encoded p text ≡ bytes
read_bytes_come_back p bytes text utf8 is e h = ap (encoded p) (e ∙ ap (read_as p bytes) is) ∙ bytes_come_back p bytes h

-- a byte that comes back from its character has one
byte_stands : (p : CodePage) (b : ℕ) → unwrap_or (byte_of p (char_of p b)) 63 ≡ b → is_some (byte_of p (char_of p b)) ≡ true
byte_stands p b h = on (byte_of p (char_of p b)) refl h
  where
    on : (o : Option ℕ) → byte_of p (char_of p b) ≡ o → unwrap_or o 63 ≡ b → is_some o ≡ true
    on (Some n) e k = refl
    on None e k = absurd (cc (ap (λ x. byte_of p (char_of p x)) k, e))

bytes_stand : (p : CodePage) (bs : List ℕ) → map (λ c. unwrap_or (byte_of p c) 63) (map (char_of p) bs) ≡ bs → list_all (λ c. is_some (byte_of p c)) (map (char_of p) bs) ≡ true
bytes_stand p [] h = refl
bytes_stand p (b ∷ bs) h = ap₂ (λ x y. x && y) (byte_stands p b (cc)) (bytes_stand p bs (cc))

pub text_given_back_fits : (p : CodePage) (bytes : List ℕ) → encoded p (decoded p bytes) ≡ bytes → fits p (decoded p bytes) ≡ true
text_given_back_fits p bytes h = go (is_utf8_page p) h
  where
    go : (b : Bool) → cond b (cond b (utf8_lossy bytes) (encode_utf8_all (map (char_of p) bytes))) (map (λ c. unwrap_or (byte_of p c) 63) (chars (cond b (utf8_lossy bytes) (encode_utf8_all (map (char_of p) bytes))))) ≡ bytes →
        cond b true (list_all (λ c. is_some (byte_of p c)) (chars (cond b (utf8_lossy bytes) (encode_utf8_all (map (char_of p) bytes))))) ≡ true
    go true k = refl
    go false k =
        let same = chars-encodes (map (char_of p) bytes) (scalars_of p bytes) in
        rw same (bytes_stand p bytes (rw same at k))
