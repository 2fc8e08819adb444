-- Headings that come back.
use Rattle.std.proofs.Common.{◌≡◌, ◌∙◌, ℕ, ◌<◌, ◌^◌, Bool, true, false, not, List, [], ◌∷◌, length, map, refl, ap, ap₂, arith}
use Rattle.std.specs.Prelude.{nat_lt, ◌==◌, ◌&&◌, if◌then◌else◌, Some, None, Option, option_map}
use Rattle.std.specs.Char.{is_ascii_digit, digit_value}
use Rattle.std.specs.Fmt.{decimal}
use Rattle.std.specs.List.{All, join_with_byte, list_all}
use Rattle.std.specs.Str.Parse.{AllDigits, IsNumeral, digits_value}
use Rattle.std.proofs.lemmas.Bool.{and_parts}
use Rattle.std.proofs.lemmas.Bool.Decides.{nat_tests}
use Rattle.std.proofs.lemmas.Fmt.{decimal_is_IsNumeral}
use Rattle.std.proofs.lemmas.List.Elements.{All-cons, All-head, All-nil, All-tail}
use Rattle.std.proofs.lemmas.List.Splits.{slice_split_at, slice_split_none}
use Rattle.idt_tables.proofs.LinesBack.{free}
use Rattle.idt_tables.specs.Headings.{Heading, has_some, heading_by, heading_in, heading_lines, in_front, is_name, is_page, is_plain, is_width, letter_in, parts_in, sign, type_in, type_text, types_in, width_in, with_width, without_page}
use Rattle.idt_tables.specs.declared.types.ColumnType.{ColumnType}
use Rattle.idt_tables.specs.declared.types.Letter.{Letter}
use Rattle.idt_tables.specs.declared.types.Letter.TheVariants as letter

-- no tab stands in it
abbrev Free : List ℕ → Type 0
Free t = All (λ b. (b == 9) ≡ false) t

-- parts without tabs are found again between tabs
split_joined : (x : List ℕ) (xs : List (List ℕ)) → Free x → All Free xs → parts_in (join_with_byte 9 (x ∷ xs)) ≡ x ∷ xs
split_joined x [] h t = slice_split_none (λ b. b == 9) x h
split_joined x (y ∷ ys) h t =
    slice_split_at (λ b. b == 9) x 9 (join_with_byte 9 (y ∷ ys)) h refl
    ∙ ap (λ parts. x ∷ parts) (split_joined y ys (All-head Free y ys t) (All-tail Free y ys t))

free_names : (names : List (List ℕ)) → list_all is_name names ≡ true → All Free names
free_names [] h = All-nil Free
free_names (n ∷ ns) h = All-cons Free n ns (free 9 n (and_parts _ _ h).0) (free_names ns (and_parts _ _ h).1)

names_back : (names : List (List ℕ)) → list_all is_name names ≡ true → has_some names ≡ true → parts_in (join_with_byte 9 names) ≡ names
names_back [] h some = absurd (cc)
names_back (n ∷ ns) h some = split_joined n ns (free 9 n (and_parts _ _ h).0) (free_names ns (and_parts _ _ h).1)

-- ---- types

digit_no_tab : (c : ℕ) → digit_value c < 10 → (c == 9) ≡ false
digit_no_tab c h = grind (arith, nat_tests, h)

pub free_digits : (ds : List ℕ) → AllDigits 10 ds → Free ds
free_digits [] h = All-nil (λ b. (b == 9) ≡ false)
free_digits (c ∷ cs) h = All-cons (λ b. (b == 9) ≡ false) c cs (digit_no_tab c h.0) (free_digits cs h.1)

pub digit_below : (c : ℕ) → digit_value c < 10 → is_ascii_digit c ≡ true
digit_below c h = grind (arith, nat_tests, h)

pub and_both : (a b : Bool) → a ≡ true → b ≡ true → a && b ≡ true
and_both a b e f = rw (e, f) refl

pub digits_tested : (ds : List ℕ) → AllDigits 10 ds → list_all is_ascii_digit ds ≡ true
digits_tested [] h = refl
digits_tested (c ∷ cs) h = and_both _ _ (digit_below c h.0) (digits_tested cs h.1)

some_digits : (ds : List ℕ) → 0 < length ds → not (length ds == 0) ≡ true
some_digits ds h = grind (arith, nat_tests, h)

pub small : (n : ℕ) → nat_lt n 65536 ≡ true → n < 2 ^ 64
small n h = grind (arith, nat_tests, h)

pub width_read : (ds : List ℕ) (n : ℕ) → IsNumeral 10 ds → digits_value 10 ds ≡ n → nat_lt n 65536 ≡ true → is_width ds ≡ true
width_read ds n is value below = and_both _ _ (and_both _ _ (some_digits ds is.0) (digits_tested ds is.1)) (ap (λ v. nat_lt v 65536) value ∙ below)

width_back : (n : ℕ) → nat_lt n 65536 ≡ true → width_in (decimal n) ≡ Some n
width_back n h =
    let is = decimal_is_IsNumeral n (small n h) in
    ap₂ (λ (fits : Bool) (v : ℕ). if fits then Some v else None) (width_read (decimal n) n is.0 is.1 h) is.1

abbrev typed : Letter × Bool → ℕ → ColumnType
typed l n = record { letter = l.0; nullable = l.1; width = n }

letter_back : (l : Letter) (nullable : Bool) → letter_in (sign l nullable) ≡ Some (l, nullable)
letter_back letter.Text true = refl
letter_back letter.Text false = refl
letter_back letter.Localized true = refl
letter_back letter.Localized false = refl
letter_back letter.Number true = refl
letter_back letter.Number false = refl
letter_back letter.Bytes true = refl
letter_back letter.Bytes false = refl

sign_no_tab : (l : Letter) (nullable : Bool) → (sign l nullable == 9) ≡ false
sign_no_tab letter.Text true = refl
sign_no_tab letter.Text false = refl
sign_no_tab letter.Localized true = refl
sign_no_tab letter.Localized false = refl
sign_no_tab letter.Number true = refl
sign_no_tab letter.Number false = refl
sign_no_tab letter.Bytes true = refl
sign_no_tab letter.Bytes false = refl

type_back : (t : ColumnType) → nat_lt t.width 65536 ≡ true → type_in (type_text t) ≡ Some t
type_back t h =
    ap (λ l. with_width l (decimal t.width)) (letter_back t.letter t.nullable)
    ∙ ap (λ w. option_map (typed (t.letter, t.nullable)) w) (width_back t.width h)

types_back : (ts : List ColumnType) → list_all (λ t. nat_lt t.width 65536) ts ≡ true → types_in (map type_text ts) ≡ Some ts
types_back [] h = refl
types_back (t ∷ ts) h = ap₂ in_front (type_back t (and_parts _ _ h).0) (types_back ts (and_parts _ _ h).1)

free_type : (t : ColumnType) → nat_lt t.width 65536 ≡ true → Free (type_text t)
free_type t h = All-cons (λ b. (b == 9) ≡ false) (sign t.letter t.nullable) (decimal t.width) (sign_no_tab t.letter t.nullable) (free_digits (decimal t.width) (decimal_is_IsNumeral t.width (small t.width h)).0.1)

free_types : (ts : List ColumnType) → list_all (λ t. nat_lt t.width 65536) ts ≡ true → All Free (map type_text ts)
free_types [] h = All-nil Free
free_types (t ∷ ts) h = All-cons Free (type_text t) (map type_text ts) (free_type t (and_parts _ _ h).0) (free_types ts (and_parts _ _ h).1)

parts_of_types : (ts : List ColumnType) → list_all (λ t. nat_lt t.width 65536) ts ≡ true → has_some ts ≡ true → parts_in (join_with_byte 9 (map type_text ts)) ≡ map type_text ts
parts_of_types [] h some = absurd (cc)
parts_of_types (t ∷ ts) h some = split_joined (type_text t) (map type_text ts) (free_type t (and_parts _ _ h).0) (free_types ts (and_parts _ _ h).1)

-- a name that is no number stays
no_page : (table : List ℕ) (keys : List (List ℕ)) → not (is_page table) ≡ true → without_page (table ∷ keys) ≡ table ∷ keys
no_page table [] h = refl
no_page table (k ∷ ks) h = by_test (is_page table) h
  where
    by_test : (b : Bool) → not b ≡ true → (if b then k ∷ ks else table ∷ k ∷ ks) ≡ table ∷ k ∷ ks
    by_test true e = absurd (cc)
    by_test false e = refl

pub heading_back : (h : Heading) → is_plain h ≡ true → heading_in (heading_lines h) ≡ Some h
heading_back h plain =
    let types = and_parts _ _ plain in
    let widths = and_parts _ _ types.0 in
    let some_names = and_parts _ _ widths.0 in
    let names = and_parts _ _ some_names.0 in
    let keys = and_parts _ _ names.0 in
    ap₂ (λ n t. heading_by n (types_in t) (without_page (parts_in (join_with_byte 9 (h.table ∷ h.keys))))) (names_back h.names names.1 some_names.1) (parts_of_types h.types widths.1 types.1)
    ∙ ap₂ (λ t k. heading_by h.names t (without_page k)) (types_back h.types widths.1) (names_back (h.table ∷ h.keys) keys.1 refl)
    ∙ ap (λ k. heading_by h.names (Some h.types) k) (no_page h.table h.keys keys.0)
