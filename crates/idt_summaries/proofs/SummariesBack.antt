-- Summaries that come back.
use Rattle.std.proofs.Common.{◌≡◌, ◌∙◌, ℕ, suc, ◌<◌, ◌≤◌, ◌^◌, Bool, true, false, not, List, [], ◌∷◌, ◌++◌, length, map, refl, sym, ap, ap₂, subst, arith, ℤ, pos, negsuc, to_z-of_z}
use Rattle.std.specs.Prelude.{nat_lt, ◌==◌, if◌then◌else◌, Option, Some, None, option_map, option_and_then}
use Rattle.std.specs.Char.{digit_value}
use Rattle.std.specs.Fmt.{decimal, digits, signed_decimal}
use Rattle.std.specs.Int.{w16, cast_signed, cast_unsigned}
use Rattle.std.specs.List.{list_all}
use Rattle.std.specs.Option.{is_some}
use Rattle.std.specs.Str.Parse.{AllDigits}
use Rattle.std.proofs.lemmas.Bool.{and_parts}
use Rattle.std.proofs.lemmas.Bool.Decides.{nat_tests}
use Rattle.std.proofs.lemmas.Fmt.{decimal_is_IsNumeral}
use Rattle.std.proofs.lemmas.Int.{ints}
use Rattle.cfb_medium.specs.Times.{unix_seconds}
use Rattle.idt_rows.specs.Letters.{comes_back as text_comes_back, shown, stands_in}
use Rattle.idt_rows.specs.Rows.{Datum, is_kept, is_whole, line_of, number, row_fits, text}
use Rattle.idt_rows.specs.declared.cells.Kind.{Kind}
use Rattle.idt_rows.specs.declared.cells.Kind.TheVariants as kind
use Rattle.idt_tables.proofs.TablesBack.{table_back}
use Rattle.idt_tables.specs.Headings.{heading_lines}
use Rattle.idt_tables.specs.Lines.{text_of}
use Rattle.idt_tables.specs.Tables.{Table}
use Rattle.msi_props.specs.Props.{Property}
use Rattle.msi_props.specs.Props as property
use Rattle.msi_texts.specs.Page.{page_id}
use Rattle.idt_summaries.proofs.MomentsBack.{IsPrinted, moment_back, no_end, printed_moment}
use Rattle.idt_summaries.proofs.Wholes.{and_both, digits_read, whole_back}
use Rattle.idt_summaries.proofs.Written.{unwritten}
use Rattle.idt_summaries.specs.Kept.{comes_back, is_page, is_short}
use Rattle.idt_summaries.specs.Moments.{IsMomentCell, moment_in}
use Rattle.idt_summaries.specs.Numbers.{whole_in}
use Rattle.idt_summaries.specs.Reading.{is_count, is_moment, is_text, joined, low_page, page_in, page_of_number, properties_in, properties_of, summary_in, value_in}
use Rattle.idt_summaries.specs.Writing.{AreLines, IsCell, IsSummaryFile, heading, is_exported, lines_with}
use mir.Val.{SFits}

-- ---- texts that are shown as they are

shown_same : (b : ℕ) → 32 ≤ b → (shown b ≡ b) × (not (stands_in b) ≡ true)
unfolding shown
shown_same b h = (grind (arith, nat_tests, h), grind (arith, nat_tests, h))

printed_shown : (t : List ℕ) → IsPrinted t → map shown t ≡ t
printed_shown [] h = refl
printed_shown (b ∷ t) h = ap₂ (λ x xs. x ∷ xs) (shown_same b h.0).0 (printed_shown t h.1)

printed_back : (t : List ℕ) → IsPrinted t → text_comes_back t ≡ true
printed_back [] h = refl
printed_back (b ∷ t) h = and_both _ _ (shown_same b h.0).1 (printed_back t h.1)

printed_kept : (t : List ℕ) → 0 < length t → IsPrinted t → is_kept t ≡ true
printed_kept [] l h = absurd (omega (arith, l))
printed_kept (b ∷ t) l h = printed_back (b ∷ t) h

digit_printed : (c : ℕ) → digit_value c < 10 → 32 ≤ c
digit_printed c h = grind (arith, nat_tests, h)

digits_printed : (ds : List ℕ) → AllDigits 10 ds → IsPrinted ds
digits_printed [] h = tt
digits_printed (c ∷ cs) h = (digit_printed c h.0, digits_printed cs h.1)

-- ---- a cell and its text

-- the text of a cell is kept, and says the value
record Keeps (n : ℕ) (v : Property) (cell : Option (List ℕ)) : Type 0 where
  says : List ℕ
  cell_is : cell ≡ Some (map shown says)
  kept : is_kept says ≡ true
  read : value_in n says ≡ Some v

-- a text that is shown as it is
plainly : (n : ℕ) (v : Property) (cell : Option (List ℕ)) (t : List ℕ) → cell ≡ Some t → 0 < length t → IsPrinted t → value_in n t ≡ Some v → Keeps n v cell
plainly n v cell t e l h read = record { says = t; cell_is = e ∙ ap Some (sym (printed_shown t h)); kept = printed_kept t l h; read = read }

abbrev value_by : Bool → Bool → Bool → Bool → List ℕ → Option Property
value_by is_words is_code is_when is_many t =
    if is_words then Some (property.text t)
    else (if is_code then option_map property.i2 (page_in t)
    else (if is_when then option_map property.time (moment_in t)
    else (if is_many then option_map property.i4 (whole_in 31 t)
    else None)))

code_tests : (n : ℕ) → (n == 1) ≡ true → is_text n ≡ false
code_tests n h = grind (arith, nat_tests, h)

when_tests : (n : ℕ) → is_moment n ≡ true → (is_text n ≡ false) × ((n == 1) ≡ false)
when_tests n h = (grind (arith, nat_tests, h), grind (arith, nat_tests, h))

many_tests : (n : ℕ) → is_count n ≡ true → (is_text n ≡ false) × ((n == 1) ≡ false) × (is_moment n ≡ false)
many_tests n h = (grind (arith, nat_tests, h), grind (arith, nat_tests, h), grind (arith, nat_tests, h))

words_value : (n : ℕ) (t : List ℕ) → is_text n ≡ true → value_in n t ≡ Some (property.text t)
words_value n t h = ap (λ b. value_by b (n == 1) (is_moment n) (is_count n) t) h

code_value : (n : ℕ) (t : List ℕ) → (n == 1) ≡ true → value_in n t ≡ option_map property.i2 (page_in t)
code_value n t h = ap₂ (λ a b. value_by a b (is_moment n) (is_count n) t) (code_tests n h) h

when_value : (n : ℕ) (t : List ℕ) → is_moment n ≡ true → value_in n t ≡ option_map property.time (moment_in t)
when_value n t h = ap₂ (λ a b. value_by a b (is_moment n) (is_count n) t) (when_tests n h).0 (when_tests n h).1 ∙ ap (λ c. value_by false false c (is_count n) t) h

many_value : (n : ℕ) (t : List ℕ) → is_count n ≡ true → value_in n t ≡ option_map property.i4 (whole_in 31 t)
many_value n t h = ap₂ (λ a b. value_by a b (is_moment n) (is_count n) t) (many_tests n h).0 (many_tests n h).1 ∙ ap₂ (λ c d. value_by false false c d t) (many_tests n h).2 h

-- ---- a code page

some_mapped : {A B : Type 0} (o : Option A) (b : B) → is_some o ≡ true → option_map (λ _. b) o ≡ Some b
some_mapped None b h = absurd (cc)
some_mapped (Some a) b h = refl

short_fits : (z : ℤ) → is_short z ≡ true → SFits w16 z × (cast_unsigned w16 z < 65536)
short_fits (pos n) h = let l : n < 32768 = grind (arith, nat_tests, h) in (omega (arith, ints), omega arith)
short_fits (negsuc n) h = let l : n < 32768 = grind (arith, nat_tests, h) in (omega (arith, ints), omega arith)

small : (n m : ℕ) → n < m → nat_lt n m ≡ true
small n m h = grind (arith, nat_tests, h)

wide : (n : ℕ) → n < 65536 → n < 2 ^ 64
wide n h = omega arith

page_back : (z : ℤ) → is_page z ≡ true → page_in (decimal (cast_unsigned w16 z)) ≡ Some z
page_back z h =
    let low = cast_unsigned w16 z in
    let fits = short_fits z (and_parts _ _ h).0 in
    let is = decimal_is_IsNumeral low (wide low fits.1) in
    ap (option_and_then page_of_number) (digits_read 31 (decimal low) low is.0 is.1 (small low 2147483648 (omega arith)))
    ∙ ap (λ b. if b then low_page low else None) (small low 65536 fits.1)
    ∙ some_mapped (page_id low) (cast_signed w16 low) (and_parts _ _ h).1
    ∙ ap Some (to_z-of_z fits.0)

-- ---- each kind

code_kept : (n : ℕ) (z : ℤ) (cell : Option (List ℕ)) → comes_back (n, property.i2 z) ≡ true → IsCell n (property.i2 z) cell → Keeps n (property.i2 z) cell
code_kept n z cell h is =
    let one : (n == 1) ≡ true = (and_parts _ _ h).0 in
    let page : is_page z ≡ true = (and_parts _ _ h).1 in
    let low = cast_unsigned w16 z in
    let fits : SFits w16 z × (cast_unsigned w16 z < 65536) = short_fits z (and_parts _ _ page).0 in
    let numeral = decimal_is_IsNumeral low (wide low fits.1) in
    plainly n (property.i2 z) cell (decimal low) (is ∙ ap (λ b. Some (if b then decimal low else signed_decimal z)) one) numeral.0.0 (digits_printed (decimal low) numeral.0.1)
    (code_value n (decimal low) one ∙ ap (option_map property.i2) (page_back z page))

below : (n : ℕ) → nat_lt n 2147483648 ≡ true → suc n < 2 ^ 64
below n h = grind (arith, nat_tests, h)

signed_printed : (z : ℤ) → is_whole z ≡ true → (0 < length (signed_decimal z)) × IsPrinted (signed_decimal z)
signed_printed (pos n) h =
    let l = below n h in
    let numeral = decimal_is_IsNumeral n (omega arith) in
    (numeral.0.0, digits_printed (decimal n) numeral.0.1)
signed_printed (negsuc n) h =
    let numeral = decimal_is_IsNumeral (suc n) (below n h) in
    (omega arith, (omega arith, digits_printed (decimal (suc n)) numeral.0.1))

many_kept : (n : ℕ) (z : ℤ) (cell : Option (List ℕ)) → comes_back (n, property.i4 z) ≡ true → IsCell n (property.i4 z) cell → Keeps n (property.i4 z) cell
many_kept n z cell h is =
    let count = (and_parts _ _ h).0 in
    let fits = (and_parts _ _ h).1 in
    let printed = signed_printed z fits in
    plainly n (property.i4 z) cell (signed_decimal z) is printed.0 printed.1 (many_value n (signed_decimal z) count ∙ ap (option_map property.i4) (whole_back z fits))

words_kept : (n : ℕ) (t : List ℕ) (cell : Option (List ℕ)) → comes_back (n, property.text t) ≡ true → IsCell n (property.text t) cell → Keeps n (property.text t) cell
words_kept n t cell h is = record { says = t; cell_is = is; kept = (and_parts _ _ h).1; read = words_value n t (and_parts _ _ h).0 }

when_kept : (n units : ℕ) (cell : Option (List ℕ)) → comes_back (n, property.time units) ≡ true → IsMomentCell (unix_seconds units) cell → Keeps n (property.time units) cell
when_kept n units None h past = absurd (no_end units (and_parts _ _ h).1 past)
when_kept n units (Some t) h is =
    let printed : IsPrinted t = subst IsPrinted (sym is.2) (printed_moment is.0) in
    plainly n (property.time units) (Some t) t refl (subst (λ x. 0 < length x) (sym is.2) (omega arith)) printed
    (when_value n t (and_parts _ _ h).0 ∙ ap (option_map property.time) (moment_back units t (and_parts _ _ h).1 is))

kept_of : (n : ℕ) (v : Property) (cell : Option (List ℕ)) → comes_back (n, v) ≡ true → IsCell n v cell → Keeps n v cell
kept_of n property.empty cell h is = absurd (cc)
kept_of n property.null cell h is = absurd (cc)
kept_of n (property.i1 z) cell h is = absurd (cc)
kept_of n (property.i2 z) cell h is = code_kept n z cell h is
kept_of n (property.i4 z) cell h is = many_kept n z cell h is
kept_of n (property.text t) cell h is = words_kept n t cell h is
kept_of n (property.time units) cell h is = when_kept n units cell h is

-- ---- its number

abbrev IsNumber : ℕ → Type 0
IsNumber n = (is_exported n ≡ true) × (is_whole (pos n) ≡ true)

code_number : (n : ℕ) → (n == 1) ≡ true → IsNumber n
code_number n h = (grind (arith, nat_tests, h), grind (arith, nat_tests, h))

words_number : (n : ℕ) → is_text n ≡ true → IsNumber n
words_number n h = (grind (arith, nat_tests, h), grind (arith, nat_tests, h))

when_number : (n : ℕ) → is_moment n ≡ true → IsNumber n
when_number n h = (grind (arith, nat_tests, h), grind (arith, nat_tests, h))

many_number : (n : ℕ) → is_count n ≡ true → IsNumber n
many_number n h = (grind (arith, nat_tests, h), grind (arith, nat_tests, h))

number_of : (n : ℕ) (v : Property) → comes_back (n, v) ≡ true → IsNumber n
number_of n property.empty h = absurd (cc)
number_of n property.null h = absurd (cc)
number_of n (property.i1 z) h = absurd (cc)
number_of n (property.i2 z) h = code_number n (and_parts _ _ h).0
number_of n (property.i4 z) h = many_number n (and_parts _ _ h).0
number_of n (property.text t) h = words_number n (and_parts _ _ h).0
number_of n (property.time units) h = when_number n (and_parts _ _ h).0

-- ---- rows

abbrev kinds : List Kind
kinds = kind.Number ∷ kind.Text ∷ []

-- lines are those of rows that fit, and the rows say the properties
record Backed (ps : List (ℕ × Property)) (lines : List (List ℕ)) : Type 0 where
  rows : List (List Datum)
  lines_are : lines ≡ map line_of rows
  fit : list_all (row_fits kinds) rows ≡ true
  say : properties_in rows ≡ Some ps

backed : (ps : List (ℕ × Property)) (lines : List (List ℕ)) → AreLines ps lines → list_all comes_back ps ≡ true → Backed ps lines
backed [] lines are h = record { rows = []; lines_are = are; fit = refl; say = refl }
backed (p ∷ ps) lines are h =
    let own = (and_parts _ _ h).0 in
    let is = number_of p.0 p.1 own in
    let k = kept_of p.0 p.1 are.0 own (unwritten (is_exported p.0) p.0 p.1 are.0 is.0 are.2) in
    let more = backed ps are.1 are.3 (and_parts _ _ h).1 in
    record {
      rows = (number (pos p.0) ∷ text k.says ∷ []) ∷ more.rows;
      lines_are = are.4 ∙ ap₂ (λ cell rest. lines_with p.0 cell ++ rest) k.cell_is more.lines_are;
      fit = and_both _ _ (and_both _ _ is.1 (and_both _ _ k.kept refl)) more.fit;
      say = ap₂ (λ o rest. joined (option_map (λ v. (p.0, v) ∷ []) o) rest) k.read more.say;
    }

pub summary_back : (ps : List (ℕ × Property)) (t : List ℕ) → IsSummaryFile ps t → list_all comes_back ps ≡ true → summary_in t ≡ Some ps
unfolding digits
summary_back ps t is h =
    let b = backed ps is.0 is.1 h in
    let table : Table = record { heading = heading; rows = b.rows } in
    ap summary_in (is.2 ∙ ap (λ lines. text_of (heading_lines heading ++ lines)) b.lines_are)
    ∙ ap (option_and_then properties_of) (table_back table b.fit)
    ∙ b.say
