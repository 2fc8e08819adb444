-- Rows of four and of ten values, part by part.
use Rattle.std.proofs.Common.{◌≡◌, ◌∙◌, ℕ, Bool, true, false, List, [], ◌∷◌, length, get_or, refl, sym, ap, arith, Option, Some, None, Result, Ok, Err, inr}
use Rattle.std.specs.Prelude.{◌||◌, ◌==◌, MatchResult, option_and_then, option_map, bytes_eq, codes, ℤ}
use Rattle.std.specs.Option.{ok_or}
use Rattle.std.specs.Int.{w32, cast_unsigned}
use Rattle.std.specs.List.{slice_split}
use Rattle.cfb_medium.specs.declared.error.Error.{Error}
use Rattle.cfb_medium.specs.declared.error.Error.TheVariants.{InvalidData}
use Rattle.msi_texts.specs.Results.{ReturnsOrOutOfMemory, or_refused}
use Rattle.msi_columns.specs.Held.{column_of}
use Rattle.msi_columns.specs.declared.column.Column.{Column as HeldColumn}
use Rattle.msi_texts.specs.Category.{category_named}
use Rattle.msi_values.specs.Datum.{Datum, null, number, text, binary}
use Rattle.msi_texts.specs.declared.category.Category.{Category}
use Rattle.msi_columns.specs.Column.{Column, has_bit, kind_of_bits, of_category, one_of, plain, with_bits}
use Rattle.msi_columns.specs.declared.column.ColumnType.{ColumnType}
use Rattle.msi_tables.specs.Schema.{category_read, choices_read, column_of_bits, column_read, described, described_by, foreign_of, range_of}
use Rattle.msi_schema.specs.Columns.{column_by, first_some, head_in, said_by, text_in, with_answer, with_category, with_choices, with_foreign, with_range}

-- ---- rows of four values

-- ---- rows of ten values

ten : (P : List Datum → Type 0) → ((a b c d e f g h i j : Datum) → P (a ∷ b ∷ c ∷ d ∷ e ∷ f ∷ g ∷ h ∷ i ∷ j ∷ [])) → (ds : List Datum) → length ds ≡ 10 → P ds
ten P all [] is = absurd (omega (arith, is))
ten P all (a ∷ []) is = absurd (omega (arith, is))
ten P all (a ∷ b ∷ []) is = absurd (omega (arith, is))
ten P all (a ∷ b ∷ c ∷ []) is = absurd (omega (arith, is))
ten P all (a ∷ b ∷ c ∷ d ∷ []) is = absurd (omega (arith, is))
ten P all (a ∷ b ∷ c ∷ d ∷ e ∷ []) is = absurd (omega (arith, is))
ten P all (a ∷ b ∷ c ∷ d ∷ e ∷ f ∷ []) is = absurd (omega (arith, is))
ten P all (a ∷ b ∷ c ∷ d ∷ e ∷ f ∷ g ∷ []) is = absurd (omega (arith, is))
ten P all (a ∷ b ∷ c ∷ d ∷ e ∷ f ∷ g ∷ h ∷ []) is = absurd (omega (arith, is))
ten P all (a ∷ b ∷ c ∷ d ∷ e ∷ f ∷ g ∷ h ∷ i ∷ []) is = absurd (omega (arith, is))
ten P all (a ∷ b ∷ c ∷ d ∷ e ∷ f ∷ g ∷ h ∷ i ∷ j ∷ []) is = all a b c d e f g h i j
ten P all (a ∷ b ∷ c ∷ d ∷ e ∷ f ∷ g ∷ h ∷ i ∷ j ∷ k ∷ ds) is = absurd (omega (arith, is))

first_none : {A : Type 0} (o : Option A) → first_some o None ≡ o
first_none None = refl
first_none (Some x) = refl

-- a plain column with what a row says
abbrev said_plain : List ℕ → ColumnType → List ℕ → Option (ℤ × ℤ) → Option (List ℕ × ℤ) → Option Category → Datum → Column
said_plain name kind answer r f k d = record {
  name = name;
  kind = kind;
  localizable = false;
  nullable = bytes_eq answer (codes "Y");
  key = false;
  range = r;
  foreign = f;
  category = k;
  choices = choices_read d;
}

chosen : (name : List ℕ) (kind : ColumnType) (answer : List ℕ) (r : Option (ℤ × ℤ)) (f : Option (List ℕ × ℤ)) (k : Option Category) (d : Datum)
    → with_choices d (record (plain name kind) { nullable = bytes_eq answer (codes "Y"); range = r; foreign = f; category = k }) ≡ said_plain name kind answer r f k d
chosen name kind answer r f k null = refl
chosen name kind answer r f k (number z) = refl
chosen name kind answer r f k (text t) = refl
chosen name kind answer r f k binary = refl

all_said : (name : List ℕ) (kind : ColumnType) (answer : List ℕ) (at : ℕ → Datum)
    → said_by answer at (plain name kind) ≡ said_plain name kind answer (range_of (at 3) (at 4)) (foreign_of (at 5) (at 6)) (category_read (at 7)) (at 8)
all_said name kind answer at =
    ap (λ r. with_choices (at 8) (record (plain name kind) { nullable = bytes_eq answer (codes "Y"); range = r; foreign = first_some (foreign_of (at 5) (at 6)) None; category = first_some (category_read (at 7)) None })) (first_none (range_of (at 3) (at 4)))
    ∙ ap (λ f. with_choices (at 8) (record (plain name kind) { nullable = bytes_eq answer (codes "Y"); range = range_of (at 3) (at 4); foreign = f; category = first_some (category_read (at 7)) None })) (first_none (foreign_of (at 5) (at 6)))
    ∙ ap (λ k. with_choices (at 8) (record (plain name kind) { nullable = bytes_eq answer (codes "Y"); range = range_of (at 3) (at 4); foreign = foreign_of (at 5) (at 6); category = k })) (first_none (category_read (at 7)))
    ∙ chosen name kind answer (range_of (at 3) (at 4)) (foreign_of (at 5) (at 6)) (category_read (at 7)) (at 8)

abbrev text_or : Option (List ℕ) → List ℕ
text_or None = []
text_or (Some t) = t

-- a row with an answer says what its parts say
pub answered : (ds : List Datum) → length ds ≡ 10 → (answer : List ℕ) → text_in (get_or ds 2 null) ≡ Some answer → (name : List ℕ) (kind : ColumnType)
    → described ds (plain name kind) ≡ Some (said_by answer (λ i. get_or ds i null) (plain name kind))
answered ds is answer some name kind =
    ten (λ ds. text_in (get_or ds 2 null) ≡ Some answer → described ds (plain name kind) ≡ Some (said_by answer (λ i. get_or ds i null) (plain name kind)))
    (λ a b c d e f g h i j. on a b c d e f g h i j) ds is some
  where
    on : (a b c d e f g h i j : Datum) → text_in c ≡ Some answer
        → described (a ∷ b ∷ c ∷ d ∷ e ∷ f ∷ g ∷ h ∷ i ∷ j ∷ []) (plain name kind) ≡ Some (said_by answer (λ n. get_or (a ∷ b ∷ c ∷ d ∷ e ∷ f ∷ g ∷ h ∷ i ∷ j ∷ []) n null) (plain name kind))
    on a b null d e f g h i j some = absurd (cc)
    on a b (number z) d e f g h i j some = absurd (cc)
    on a b binary d e f g h i j some = absurd (cc)
    on a b (text t) d e f g h i j some =
        let same : t ≡ answer = ap text_or some in
        ap (λ y. Some (said_plain name kind y (range_of d e) (foreign_of f g) (category_read h) i)) same
        ∙ ap (λ x. Some x) (sym (all_said name kind answer (λ n. get_or (a ∷ b ∷ text t ∷ d ∷ e ∷ f ∷ g ∷ h ∷ i ∷ j ∷ []) n null)))

-- ---- with the bits

or_false : (b : Bool) → (b || false) ≡ b
or_false true = refl
or_false false = refl

-- a column without a row
pub plain_bits : (name : List ℕ) (n : ℕ) (kind : ColumnType) → column_of_bits name n ≡ with_bits n (plain name kind)
plain_bits name n kind = on (kind_of_bits n)
  where
    on : (o : Option ColumnType)
        → option_map (λ k. record { name = name; kind = k; localizable = has_bit n 9; nullable = has_bit n 12; key = has_bit n 13; range = None; foreign = None; category = None; choices = [] }) o
        ≡ option_map (λ k. record (plain name kind) { kind = k; localizable = has_bit n 9; nullable = has_bit n 12 || false; key = has_bit n 13 }) o
    on None = refl
    on (Some k) = ap (λ b. Some (record (plain name kind) { kind = k; localizable = has_bit n 9; nullable = b; key = has_bit n 13 })) (sym (or_false (has_bit n 12)))

-- a column with a row that says something
pub described_bits : (ds : List Datum) → length ds ≡ 10 → (answer : List ℕ) → text_in (get_or ds 2 null) ≡ Some answer → (name : List ℕ) (n : ℕ) (kind : ColumnType) (c : Column)
    → described ds (plain name kind) ≡ Some c → option_and_then (described ds) (column_of_bits name n) ≡ with_bits n c
described_bits ds is answer some name n kind c has =
    ten (λ ds. text_in (get_or ds 2 null) ≡ Some answer → described ds (plain name kind) ≡ Some c → option_and_then (described ds) (column_of_bits name n) ≡ with_bits n c)
    (λ a b t d e f g h i j. on a b t d e f g h i j) ds is some has
  where
    column_or : Option Column → Column
    column_or None = c
    column_or (Some x) = x

    bits : (a b d e f g h i j : Datum) (t : List ℕ) (o : Option ColumnType)
        → option_and_then (described (a ∷ b ∷ text t ∷ d ∷ e ∷ f ∷ g ∷ h ∷ i ∷ j ∷ []))
        (option_map (λ k. record { name = name; kind = k; localizable = has_bit n 9; nullable = has_bit n 12; key = has_bit n 13; range = None; foreign = None; category = None; choices = [] }) o)
        ≡ option_map (λ k. record (said_plain name kind t (range_of d e) (foreign_of f g) (category_read h) i) { kind = k; localizable = has_bit n 9; nullable = has_bit n 12 || bytes_eq t (codes "Y"); key = has_bit n 13 }) o
    bits a b d e f g h i j t None = refl
    bits a b d e f g h i j t (Some k) = refl

    on : (a b c' d e f g h i j : Datum) → text_in c' ≡ Some answer → described (a ∷ b ∷ c' ∷ d ∷ e ∷ f ∷ g ∷ h ∷ i ∷ j ∷ []) (plain name kind) ≡ Some c
        → option_and_then (described (a ∷ b ∷ c' ∷ d ∷ e ∷ f ∷ g ∷ h ∷ i ∷ j ∷ [])) (column_of_bits name n) ≡ with_bits n c
    on a b null d e f g h i j some has = absurd (cc)
    on a b (number z) d e f g h i j some has = absurd (cc)
    on a b binary d e f g h i j some has = absurd (cc)
    on a b (text t) d e f g h i j some has =
        let same : said_plain name kind t (range_of d e) (foreign_of f g) (category_read h) i ≡ c = ap column_or has in
        bits a b d e f g h i j t (kind_of_bits n) ∙ ap (with_bits n) same

-- ---- what single values say

read_by_text : (d : Datum) (t : List ℕ) → Some t ≡ text_in d → category_read d ≡ category_named t
read_by_text null t is = absurd (cc)
read_by_text (number z) t is = absurd (cc)
read_by_text binary t is = absurd (cc)
read_by_text (text s) t is = let same : t ≡ s = ap text_or is in ap category_named (sym same)

pub category_known : (d : Datum) (t : List ℕ) (k : Category) (e : Error) (c : Column) → Some t ≡ text_in d → Ok k ≡ ok_or (category_named t) e → of_category k c ≡ with_category d c
category_known d t k e c is named = on (category_named t) refl
  where
    on : (o : Option Category) → category_named t ≡ o → of_category k c ≡ with_category d c
    on None none = let never : ◌≡◌ {A = Result Category Error} (Ok k) (Err e) = named ∙ ap (λ o. ok_or o e) none in absurd (cc)
    on (Some m) some =
        let same : ◌≡◌ {A = Result Category Error} (Ok k) (Ok m) = named ∙ ap (λ o. ok_or o e) some in
        let one : k ≡ m = cc in
        ap (λ x. of_category x c) one ∙ ap (λ o. record c { category = first_some o c.category }) (sym (read_by_text d t is ∙ some))

pub category_unknown : (d : Datum) (t : List ℕ) (e f : Error) (c : Column) → Some t ≡ text_in d → Err f ≡ ok_or (category_named t) e → c ≡ with_category d c
category_unknown d t e f c is named = on (category_named t) refl
  where
    on : (o : Option Category) → category_named t ≡ o → c ≡ with_category d c
    on None none = ap (λ o. record c { category = first_some o c.category }) (sym (read_by_text d t is ∙ none))
    on (Some m) some = let never : ◌≡◌ {A = Result Category Error} (Err f) (Ok m) = named ∙ ap (λ o. ok_or o e) some in absurd (cc)

pub choices_known : (d : Datum) (t : List ℕ) (parts : List (List ℕ)) (c : Column) → Some t ≡ text_in d → parts ≡ slice_split (λ b. b == 59) t → one_of parts c ≡ with_choices d c
choices_known null t parts c is cut = absurd (cc)
choices_known (number z) t parts c is cut = absurd (cc)
choices_known binary t parts c is cut = absurd (cc)
choices_known (text s) t parts c is cut = let same : t ≡ s = ap text_or is in ap (λ x. one_of x c) (cut ∙ ap (slice_split (λ b. b == 59)) same)

-- ---- a column, part by part

pub all_parts : (ds : List Datum) → length ds ≡ 10 → (answer : List ℕ) → Some answer ≡ text_in (get_or ds 2 null) → (name : List ℕ) (kind : ColumnType) (low high table n category choices : Datum)
    → low ≡ get_or ds 3 null → high ≡ get_or ds 4 null → table ≡ get_or ds 5 null → n ≡ get_or ds 6 null → category ≡ get_or ds 7 null → choices ≡ get_or ds 8 null
    → (b0 b1 b2 b3 b4 b5 : Column) → b0 ≡ plain name kind → b1 ≡ with_answer answer b0 → b2 ≡ with_range low high b1 → b3 ≡ with_foreign table n b2 → b4 ≡ with_category category b3 → b5 ≡ with_choices choices b4
    → (bits : ℕ) → option_and_then (described ds) (column_of_bits name bits) ≡ with_bits bits b5
all_parts ds is answer some name kind low high table n category choices l h t m k s b0 b1 b2 b3 b4 b5 e0 e1 e2 e3 e4 e5 bits =
    let at : ℕ → Datum = λ i. get_or ds i null in
    let c1 : b1 ≡ with_answer answer (plain name kind) = e1 ∙ ap (with_answer answer) e0 in
    let c2 : b2 ≡ with_range (at 3) (at 4) (with_answer answer (plain name kind)) =
    e2 ∙ ap (λ x. with_range x high b1) l ∙ ap (λ x. with_range (at 3) x b1) h ∙ ap (with_range (at 3) (at 4)) c1 in
    let c3 : b3 ≡ with_foreign (at 5) (at 6) (with_range (at 3) (at 4) (with_answer answer (plain name kind))) =
    e3 ∙ ap (λ x. with_foreign x n b2) t ∙ ap (λ x. with_foreign (at 5) x b2) m ∙ ap (with_foreign (at 5) (at 6)) c2 in
    let c4 : b4 ≡ with_category (at 7) (with_foreign (at 5) (at 6) (with_range (at 3) (at 4) (with_answer answer (plain name kind)))) =
    e4 ∙ ap (λ x. with_category x b3) k ∙ ap (with_category (at 7)) c3 in
    let c5 : b5 ≡ said_by answer at (plain name kind) = e5 ∙ ap (λ x. with_choices x b4) s ∙ ap (with_choices (at 8)) c4 in
    described_bits ds is answer (sym some) name bits kind b5 (answered ds is answer (sym some) name kind ∙ ap (λ x. Some x) (sym c5))

-- ---- answers

-- a column with its bits answers what the rows say
pub bits_answer : (r : Result HeldColumn Error) (o : Option Column) → MatchResult r (λ column. o ≡ Some (column_of column)) (λ e. (e ≡ InvalidData) × (o ≡ None)) → ReturnsOrOutOfMemory column_of r (or_refused o InvalidData)
bits_answer (Ok column) o h = ap (λ x. or_refused x InvalidData) h
bits_answer (Err e) o h = inr (ap (λ x. or_refused x InvalidData) h.1 ∙ ap (λ x. Err x) (sym h.0))

-- a row with a head
pub headed : (row : List Datum) (v : Option (List Datum)) (name : List ℕ) (bits : ℤ) → Some (name, bits) ≡ head_in row
    → column_by v row ≡ option_and_then (described_by v) (column_of_bits name (cast_unsigned w32 bits))
headed row v name bits is = ap (option_and_then (λ head. option_and_then (described_by v) (column_of_bits head.0 (cast_unsigned w32 head.1)))) (sym is)

-- without a row of _Validation
pub undescribed : (name : List ℕ) (n : ℕ) (kind : ColumnType) (c : Column) → c ≡ plain name kind → option_and_then (described_by None) (column_of_bits name n) ≡ with_bits n c
undescribed name n kind c is = same (column_of_bits name n) ∙ plain_bits name n kind ∙ ap (with_bits n) (sym is)
  where
    same : (o : Option Column) → option_and_then (λ c. Some c) o ≡ o
    same None = refl
    same (Some x) = refl

-- a row of another form describes no column
pub headless : (validation : List (List Datum)) (row : List Datum) → head_in row ≡ None → column_read validation row ≡ None
headless v [] is = refl
headless v (null ∷ ds) is = refl
headless v (number z ∷ ds) is = refl
headless v (binary ∷ ds) is = refl
headless v (text t ∷ []) is = refl
headless v (text t ∷ null ∷ ds) is = refl
headless v (text t ∷ text u ∷ ds) is = refl
headless v (text t ∷ binary ∷ ds) is = refl
headless v (text t ∷ number z ∷ []) is = refl
headless v (text t ∷ number z ∷ null ∷ ds) is = refl
headless v (text t ∷ number z ∷ number y ∷ ds) is = refl
headless v (text t ∷ number z ∷ binary ∷ ds) is = refl
headless v (text t ∷ number z ∷ text u ∷ []) is = refl
headless v (text t ∷ number z ∷ text u ∷ null ∷ ds) is = refl
headless v (text t ∷ number z ∷ text u ∷ text w ∷ ds) is = refl
headless v (text t ∷ number z ∷ text u ∷ binary ∷ ds) is = refl
headless v (text t ∷ number z ∷ text u ∷ number y ∷ []) is = absurd (cc)
headless v (text t ∷ number z ∷ text u ∷ number y ∷ e ∷ ds) is = refl
