-- A quoted text that is counted, cut and filled up.
use Rattle.std.proofs.lemmas.Bool.{and_parts}
use Rattle.std.proofs.Common.{◌≡◌, ℕ, zero, suc, ◌+◌, ◌-◌, ◌/◌, ◌%◌, ◌^◌, ◌<◌, ◌≤◌, Bool, true, false, cond, not, List, [], ◌∷◌, ◌++◌, length, take, Option, Some, None, refl, ap, ap₂, sym, ◌∙◌, subst, arith}
use Rattle.std.specs.Prelude.{map, min, unwrap_or, IfSome, encode_utf8_all, nat_lt, nat_le, ◌&&◌, ◌||◌, ◌==◌}
use Rattle.std.specs.List.{list_all, flat_map, concat, FoldsTo}
use Rattle.std.specs.Char.{is_ascii}
use Rattle.std.specs.Str.{chars}
use Rattle.std.specs.Fmt.{digits, digit_glyph, debug_escape, debug_escape_letter, take_chars, char_count, padded, padding_before, formatter_spec, spec_align, spec_width, spec_precision, debug_str, WritesInCalls, HasWrittenStyled, IsFlush}
use Rattle.std.specs.declared.fmt.Formatter.{Formatter}
use Rattle.std.specs.declared.fmt.Alignment.TheVariants.{Left, Right, Center}
use Rattle.std.proofs.lemmas.Bool.Decides.{nat_tests}
use Rattle.std.proofs.lemmas.Fmt.{hex_one_digit, hex_two_digits}
use Rattle.std.proofs.lemmas.Str.{chars-IsAscii, encodes-IsAscii}
use Rattle.std.proofs.lemmas.List.{length-append, length-take}
use Rattle.std.proofs.lemmas.List.Folds.{list_all-append}
use Rattle.std.proofs.Output.{has_written_styled_nil, has_written_styled_append, has_written_styled_of_eq}
use Rattle.std.proofs.Padding.{take_chars-nil, take_chars-cons, char_count-nil, char_count-cons, padded_is}
use Rattle.std.proofs.Debugs.{debug_escape_short, debug_escape_other, debug_escape_letter_ascii, ascii_at}
use Rattle.msi_values.specs.Layout.{first_of, left_after, filled, before_by, IsAligned}

abbrev ascii : List ℕ → Bool
ascii = list_all is_ascii

-- ---- quoted ASCII is ASCII

glyph_ascii : (d : ℕ) → d < 16 → is_ascii (digit_glyph false d) ≡ true
glyph_ascii d h = go (nat_lt d 10) refl
  where
    go : (b : Bool) → nat_lt d 10 ≡ b → nat_lt (cond b (48 + d) (87 + d)) 128 ≡ true
    go true e = grind (arith, nat_tests, e)
    go false e = grind (arith, nat_tests, h)

digits_ascii : (c : ℕ) → c < 128 → ascii (digits 16 false c) ≡ true
digits_ascii c low = go (nat_lt c 16) refl
  where
    go : (b : Bool) → nat_lt c 16 ≡ b → ascii (digits 16 false c) ≡ true
    go true e = ap ascii (hex_one_digit false c (grind (arith, nat_tests, e))) ∙ ap (λ b. b && true) (glyph_ascii c (grind (arith, nat_tests, e)))
    go false e = ap ascii (hex_two_digits false c (grind (arith, nat_tests, e)) (omega (arith, low))) ∙ ap₂ (λ a b. a && (b && true)) (glyph_ascii (c / 16) (omega (arith, low))) (glyph_ascii (c % 16) (omega arith))

escape_ascii : (c : ℕ) → is_ascii c ≡ true → ascii (debug_escape 34 c) ≡ true
escape_ascii c e = by (debug_escape_letter c 34 == 0) refl
  where
    low : c < 128
    low = grind (arith, nat_tests, e)

    shown : (t : Bool) → ascii (cond t (92 ∷ 117 ∷ 123 ∷ (digits 16 false c ++ 125 ∷ [])) (c ∷ [])) ≡ true
    shown true = list_all-append is_ascii (digits 16 false c) (125 ∷ []) ∙ ap (λ b. b && true) (digits_ascii c low)
    shown false = ap (λ b. b && true) e

    by : (b : Bool) → (debug_escape_letter c 34 == 0) ≡ b → ascii (debug_escape 34 c) ≡ true
    by true z = ap ascii (debug_escape_other 34 c (nat_lt c 32 || c == 127) (grind (arith, nat_tests, z)) refl) ∙ shown (nat_lt c 32 || c == 127)
    by false z =
        let letter : is_ascii (debug_escape_letter c 34) ≡ true = grind (arith, nat_tests, debug_escape_letter_ascii 34 c low) in
        ap ascii (debug_escape_short 34 c (λ h. absurd (grind (arith, nat_tests, z, h)))) ∙ ap (λ b. b && true) letter

escapes_ascii : (text : List ℕ) → ascii text ≡ true → ascii (flat_map (debug_escape 34) text) ≡ true
escapes_ascii [] h = refl
escapes_ascii (c ∷ text) h =
    let parts = and_parts (is_ascii c) (ascii text) h in
    list_all-append is_ascii (debug_escape 34 c) (flat_map (debug_escape 34) text)
    ∙ ap₂ (λ a b. a && b) (escape_ascii c parts.0) (escapes_ascii text parts.1)

quoted_ascii : (text : List ℕ) → ascii text ≡ true → ascii (34 ∷ (flat_map (debug_escape 34) text ++ 34 ∷ [])) ≡ true
quoted_ascii text h = list_all-append is_ascii (flat_map (debug_escape 34) text) (34 ∷ []) ∙ ap (λ b. b && true) (escapes_ascii text h)

-- what follows of ASCII, where a text is quoted
pub if_quoted : (text : List ℕ) (P Q : List ℕ → Type 0) → ((bs : List ℕ) → ascii bs ≡ true → P bs → Q bs) → IfSome (debug_str text) P → IfSome (debug_str text) Q
if_quoted text P Q follows = go (ascii text) refl
  where
    go : (b : Bool) → ascii text ≡ b → IfSome (cond b (Some (34 ∷ (flat_map (debug_escape 34) text ++ 34 ∷ []))) None) P → IfSome (cond b (Some (34 ∷ (flat_map (debug_escape 34) text ++ 34 ∷ []))) None) Q
    go true e p = follows _ (quoted_ascii text e) p
    go false e p = tt

pub if_both : (P Q : List ℕ → Type 0) (o : Option (List ℕ)) → IfSome o P → IfSome o Q → IfSome o (λ bs. P bs × Q bs)
if_both P Q None p q = tt
if_both P Q (Some bs) p q = (p, q)

-- ---- what several writes come to

parts_ascii : (x : List ℕ) (xs : List (List ℕ)) → ascii (x ++ concat xs) ≡ true → (ascii x ≡ true) × (ascii (concat xs) ≡ true)
parts_ascii x xs h = and_parts (ascii x) (ascii (concat xs)) (sym (list_all-append is_ascii x (concat xs)) ∙ h)

-- a count goes up by the characters of each, as far as it can
counted : {S : Type 0} (chars : S → ℕ) (took : S → List ℕ → S → Type 0) (most : ℕ) → ((s : S) (bs : List ℕ) (t : S) → took s bs t → ascii bs ≡ true → chars t ≡ min (chars s + length bs) most)
    → (s : S) (parts : List (List ℕ)) (t : S) → FoldsTo took s parts t → ascii (concat parts) ≡ true → chars s ≤ most → chars t ≡ min (chars s + length (concat parts)) most
counted chars took most step s [] t p h low = sym (ap chars p) ∙ omega (arith, low)
counted chars took most step s (x ∷ xs) t p h low =
    let parts = parts_ascii x xs h in
    let next = step s x p.0 p.1 parts.0 in
    let rest = counted chars took most step p.0 xs t p.2 parts.1 (omega (arith, next)) in
    omega (arith, rest, next, length-append x (concat xs))

pub written_counted : {S : Type 0} (chars : S → ℕ) (took : S → List ℕ → S → Type 0) (most : ℕ) → ((s : S) (bs : List ℕ) (t : S) → took s bs t → ascii bs ≡ true → chars t ≡ min (chars s + length bs) most)
    → (s : S) (bs : List ℕ) (t : S) → WritesInCalls took s bs t → ascii bs ≡ true → chars s ≡ 0 → chars t ≡ min (length bs) most
written_counted chars took most step s bs t w h none =
    let all = counted chars took most step s w.parts t w.calls (ap ascii w.whole ∙ h) (omega (arith, none)) in
    omega (arith, all, none, ap length w.whole)

first_of-append : (most : Option ℕ) (xs ys : List ℕ) → first_of most xs ++ first_of (left_after most xs) ys ≡ first_of most (xs ++ ys)
first_of-append None xs ys = refl
first_of-append (Some zero) xs ys = let none : 0 - length xs ≡ 0 = omega arith in ap (λ n. take n ys) none
first_of-append (Some (suc n)) [] ys = let all : suc n - 0 ≡ suc n = omega arith in ap (λ n. take n ys) all
first_of-append (Some (suc n)) (x ∷ xs) ys =
    let one_less : suc n - suc (length xs) ≡ n - length xs = omega arith in
    ap (λ m. x ∷ (take n xs ++ take m ys)) one_less ∙ ap (λ zs. x ∷ zs) (first_of-append (Some n) xs ys)

first_of-nil : (most : Option ℕ) → first_of most [] ≡ []
first_of-nil None = refl
first_of-nil (Some zero) = refl
first_of-nil (Some (suc n)) = refl

-- what is written are the first characters of all
first_written : {W S : Type 0} (write : W → List ℕ → W → Type 0) (to : S → Formatter W) (left : S → Option ℕ) (took : S → List ℕ → S → Type 0)
    → ((s : S) (bs : List ℕ) (t : S) → took s bs t → ascii bs ≡ true → IsFlush (to s) → HasWrittenStyled write (to s) (first_of (left s) bs) (to t) × (left t ≡ left_after (left s) bs))
    → (s : S) (parts : List (List ℕ)) (t : S) → FoldsTo took s parts t → ascii (concat parts) ≡ true → IsFlush (to s) → HasWrittenStyled write (to s) (first_of (left s) (concat parts)) (to t)
first_written write to left took step s [] t p h flush =
    has_written_styled_of_eq write (to s) [] _ (to t) (sym (first_of-nil (left s))) (subst (λ x. HasWrittenStyled write (to s) [] (to x)) p (has_written_styled_nil write (to s) flush))
first_written write to left took step s (x ∷ xs) t p h flush =
    let parts = parts_ascii x xs h in
    let next = step s x p.0 p.1 parts.0 flush in
    let rest = first_written write to left took step p.0 xs t p.2 parts.1 next.0.flush in
    has_written_styled_of_eq write (to s) _ _ (to t)
    (ap (λ l. first_of (left s) x ++ first_of l (concat xs)) next.1 ∙ first_of-append (left s) x (concat xs))
    (has_written_styled_append write (to s) _ (to p.0) _ (to t) next.0 rest)

pub written_first : {W S : Type 0} (write : W → List ℕ → W → Type 0) (to : S → Formatter W) (left : S → Option ℕ) (took : S → List ℕ → S → Type 0)
    → ((s : S) (bs : List ℕ) (t : S) → took s bs t → ascii bs ≡ true → IsFlush (to s) → HasWrittenStyled write (to s) (first_of (left s) bs) (to t) × (left t ≡ left_after (left s) bs))
    → (s : S) (bs : List ℕ) (t : S) → WritesInCalls took s bs t → ascii bs ≡ true → IsFlush (to s) → HasWrittenStyled write (to s) (first_of (left s) bs) (to t)
written_first write to left took step s bs t w h flush =
    has_written_styled_of_eq write (to s) _ _ (to t) (ap (first_of (left s)) w.whole)
    (first_written write to left took step s w.parts t w.calls (ap ascii w.whole ∙ h) flush)

-- what each write keeps stays
pub kept_in_writes : {S : Type 0} (name : S → ℕ) (took : S → List ℕ → S → Type 0) → ((s : S) (bs : List ℕ) (t : S) → took s bs t → name t ≡ name s) → (s : S) (bs : List ℕ) (t : S) → WritesInCalls took s bs t → name t ≡ name s
kept_in_writes {S} name took same s bs t w = go s w.parts w.calls
  where
    go : (s : S) (parts : List (List ℕ)) → FoldsTo took s parts t → name t ≡ name s
    go s [] p = sym (ap name p)
    go s (x ∷ xs) p = go p.0 xs p.2 ∙ same s x p.0 p.1

-- ---- characters of ASCII are its bytes

count_ascii : (text : List ℕ) → ascii text ≡ true → char_count text ≡ length text
count_ascii [] h = char_count-nil
count_ascii (b ∷ text) h =
    let parts = and_parts (is_ascii b) (ascii text) h in
    let more : 1 + length text ≡ suc (length text) = omega arith in
    char_count-cons b text ∙ ap₂ (λ s n. cond (s || nat_le 0xC0 b) 1 0 + n) parts.0 (count_ascii text parts.1) ∙ more

take_ascii : (n : ℕ) (text : List ℕ) → ascii text ≡ true → take_chars n text ≡ take n text
take_ascii zero [] h = take_chars-nil zero
take_ascii (suc n) [] h = take_chars-nil (suc n)
take_ascii zero (b ∷ text) h =
    let parts = and_parts (is_ascii b) (ascii text) h in
    take_chars-cons zero b text ∙ ap (λ s. cond (s || nat_le 0xC0 b) [] (b ∷ take_chars zero text)) parts.0
take_ascii (suc n) (b ∷ text) h =
    let parts = and_parts (is_ascii b) (ascii text) h in
    let less : suc n - 1 ≡ n = omega arith in
    let more : (suc n == 0) ≡ false = grind (arith, nat_tests) in
    take_chars-cons (suc n) b text
    ∙ ap (λ z. cond (is_ascii b || nat_le 0xC0 b) (cond z [] (b ∷ take_chars (suc n - 1) text)) (b ∷ take_chars (suc n) text)) more
    ∙ ap₂ (λ s m. cond (s || nat_le 0xC0 b) (b ∷ take_chars m text) (b ∷ take_chars (suc n) text)) parts.0 less
    ∙ ap (λ l. b ∷ l) (take_ascii n text parts.1)

take_is_ascii : (n : ℕ) (text : List ℕ) → ascii text ≡ true → ascii (take n text) ≡ true
take_is_ascii zero text h = refl
take_is_ascii (suc n) [] h = refl
take_is_ascii (suc n) (b ∷ text) h = let parts = and_parts (is_ascii b) (ascii text) h in ap₂ (λ a b. a && b) parts.0 (take_is_ascii n text parts.1)

same_items : (xs : List ℕ) → map (λ x. x) xs ≡ xs
same_items [] = refl
same_items (x ∷ xs) = ap (λ ys. x ∷ ys) (same_items xs)

-- the first characters are written as the first bytes
pub first_encoded : (text : List ℕ) (count : ℕ) (first : List ℕ) → ascii text ≡ true → map (λ c. c) first ≡ take count (chars text) → encode_utf8_all first ≡ take count text
first_encoded text count first h e =
    ap encode_utf8_all (sym (same_items first) ∙ e ∙ ap (take count) (chars-IsAscii text (λ i. ascii_at text i h)))
    ∙ encodes-IsAscii (take count text) (λ i. ascii_at (take count text) i (take_is_ascii count text h))

-- the first characters between the fill are what std's padding writes
pub filled_is_padded : {W : Type 0} (f : Formatter W) (text : List ℕ) (most padding : ℕ) → ascii text ≡ true → most ≡ (formatter_spec f).precision
    → padding ≡ (formatter_spec f).width - min (length text) most → filled f padding (take most text) ≡ padded (formatter_spec f) text
filled_is_padded f text most padding h cut short =
    padded_is (formatter_spec f) text (take most text) padding (padding_before (formatter_spec f) padding 1)
    (sym (take_ascii most text h) ∙ ap (λ n. take_chars n text) cut)
    (short ∙ ap (λ n. (formatter_spec f).width - n) (omega (arith, length-take most text) ∙ sym (count_ascii (take most text) (take_is_ascii most text h))))
    refl

-- std tells the alignment as it fills
pub aligned_before : {W : Type 0} (f : Formatter W) (padding : ℕ) → IsAligned f → before_by (spec_align (formatter_spec f)) padding ≡ padding_before (formatter_spec f) padding 1
aligned_before f padding low = go (formatter_spec f).align low
  where
    go : (n : ℕ) → n < 4 → before_by (cond (n == 1) (Some Left) (cond (n == 3) (Some Right) (cond (n == 2) (Some Center) None))) padding
        ≡ cond (cond (n == 0) 1 n == 1) 0 (cond (cond (n == 0) 1 n == 2) (padding / 2) padding)
    go zero h = refl
    go (suc zero) h = refl
    go (suc (suc zero)) h = refl
    go (suc (suc (suc zero))) h = refl
    go (suc (suc (suc (suc n)))) h = absurd (omega (arith, h))

-- the options as the formatter tells them
pub precision_told : {W : Type 0} (f : Formatter W) → unwrap_or (spec_precision (formatter_spec f)) (2 ^ 64 - 1) ≡ (formatter_spec f).precision
precision_told f = go ((formatter_spec f).precision == 2 ^ 64 - 1) refl
  where
    go : (b : Bool) → ((formatter_spec f).precision == 2 ^ 64 - 1) ≡ b → unwrap_or (cond b None (Some (formatter_spec f).precision)) (2 ^ 64 - 1) ≡ (formatter_spec f).precision
    go true e = grind (arith, nat_tests, e)
    go false e = refl

pub width_told : {W : Type 0} (f : Formatter W) → unwrap_or (spec_width (formatter_spec f)) 0 ≡ (formatter_spec f).width
width_told f = go ((formatter_spec f).width == 0) refl
  where
    go : (b : Bool) → ((formatter_spec f).width == 0) ≡ b → unwrap_or (cond b None (Some (formatter_spec f).width)) 0 ≡ (formatter_spec f).width
    go true e = grind (arith, nat_tests, e)
    go false e = refl

pub not_from : (a b : Bool) → a ≡ not b → a ≡ true → b ≡ false
not_from a true e h = absurd (let f : true ≡ false = sym h ∙ e in cc)
not_from a false e h = refl
