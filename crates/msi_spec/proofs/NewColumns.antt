-- The rows that describe a new table's columns are read as these columns.
use Rattle.std.proofs.Common.{◌≡◌, ◌∙◌, ℕ, suc, ◌+◌, ◌%◌, ◌≤◌, ◌<◌, Bool, true, false, cond, List, [], ◌∷◌, ◌++◌, length, map, append_assoc, refl, subst, ap, ap₂, arith, Option, Some, None, not}
use Rattle.std.specs.Prelude.{◌&&◌, ◌||◌, ◌==◌, bytes_eq, filter, find, is_none, option_and_then, option_map, pos, ℤ}
use Rattle.std.specs.Int.{cast_unsigned, w32}
use Rattle.std.specs.List.{AllByRecursion, join_with_byte, list_all, list_any, slice_split}
use Rattle.std.specs.Option.{option_or}
use Rattle.std.proofs.lemmas.Bool.{and_parts}
use Rattle.std.proofs.lemmas.Bool.Decides.{nat_tests}
use Rattle.std.proofs.lemmas.List.Elements.{All-from_recursion, filter-append}
use Rattle.std.proofs.lemmas.List.Folds.{find-append}
use Rattle.std.proofs.lemmas.List.Splits.{slice_split_at, slice_split_none}
use Rattle.std.proofs.lemmas.Cmp.{nat_list_eq_equiv}
use Rattle.std.proofs.lemmas.Int.{ints}
use Rattle.std.proofs.lemmas.Slice.Eq.{bytes_eq-Decides}
use Rattle.msi_texts.specs.Category.{category_named, name_of}
use Rattle.msi_texts.specs.declared.category.Category.{Category}
use Rattle.msi_texts.specs.declared.category.Category.TheVariants as category
use Rattle.msi_values.specs.Datum.{Datum, null, text}
use Rattle.msi_columns.specs.Column.{Column, flag, has_bit, is_binary, kind_bits, kind_of_bits, length_kept, type_bits}
use Rattle.msi_columns.specs.declared.column.ColumnType.{ColumnType}
use Rattle.msi_columns.specs.declared.column.ColumnType.TheVariants as kind
use Rattle.msi_tables.specs.Schema.{begins_with, category_of, category_read, choices_of, choices_read, column_of_bits, column_read, columns_read, columns_row, columns_rows, described, described_by, foreign_of, high_of, is_for, is_number, key_column_of, key_table_of, low_of, range_of, schema_of, validation_row, yes_or_no}
use Rattle.msi_spec.specs.Calls.{is_kept, names_distinct}

-- ---- what a row of _Validation says

category_back : (c : Category) → category_named (name_of c) ≡ Some c
category_back category.Text = refl
category_back category.UpperCase = refl
category_back category.LowerCase = refl
category_back category.Integer = refl
category_back category.DoubleInteger = refl
category_back category.Number = refl
category_back category.TimeDate = refl
category_back category.Identifier = refl
category_back category.Property = refl
category_back category.Filename = refl
category_back category.WildCardFilename = refl
category_back category.Path = refl
category_back category.Paths = refl
category_back category.AnyPath = refl
category_back category.DefaultDir = refl
category_back category.RegPath = refl
category_back category.Formatted = refl
category_back category.FormattedSddlText = refl
category_back category.Template = refl
category_back category.Condition = refl
category_back category.Guid = refl
category_back category.Version = refl
category_back category.Language = refl
category_back category.Binary = refl
category_back category.CustomSource = refl
category_back category.Cabinet = refl
category_back category.Shortcut = refl

category_told : (o : Option Category) → category_read (category_of o) ≡ o
category_told None = refl
category_told (Some c) = category_back c

range_told : (r : Option (ℤ × ℤ)) → range_of (low_of r) (high_of r) ≡ r
range_told None = refl
range_told (Some r) = refl

foreign_told : (f : Option (List ℕ × ℤ)) → foreign_of (key_table_of f) (key_column_of f) ≡ f
foreign_told None = refl
foreign_told (Some f) = refl

or_parts : (a b : Bool) → (a || b) ≡ false → (a ≡ false) × (b ≡ false)
or_parts true b e = absurd (cc)
or_parts false b e = (refl, e)

abbrev is_cut : ℕ → Bool
is_cut b = b == 59

uncut : (xs : List ℕ) → list_any is_cut xs ≡ false → AllByRecursion (λ x. is_cut x ≡ false) xs
uncut [] e = tt
uncut (x ∷ xs) e = let parts = or_parts (is_cut x) (list_any is_cut xs) e in (parts.0, uncut xs parts.1)

joined : (c : List ℕ) (cs : List (List ℕ)) → list_any (list_any is_cut) (c ∷ cs) ≡ false → slice_split is_cut (join_with_byte 59 (c ∷ cs)) ≡ c ∷ cs
joined c [] e =
    let parts = or_parts (list_any is_cut c) false e in
    slice_split_none is_cut c (All-from_recursion (λ x. is_cut x ≡ false) c (uncut c parts.0))
joined c (d ∷ ds) e =
    let parts = or_parts (list_any is_cut c) (list_any (list_any is_cut) (d ∷ ds)) e in
    slice_split_at is_cut c 59 (join_with_byte 59 (d ∷ ds)) (All-from_recursion (λ x. is_cut x ≡ false) c (uncut c parts.0)) refl
    ∙ ap (λ xs. c ∷ xs) (joined d ds parts.1)

choices_told : (cs : List (List ℕ)) → list_any (list_any is_cut) cs ≡ false → choices_read (choices_of cs) ≡ cs
choices_told [] e = refl
choices_told (c ∷ cs) e = joined c cs e

-- ---- the bits of a column's type

-- bits that say this
record Says (b : ℕ) (k : ColumnType) (l n p : Bool) : Type 0 where
  kind_so : kind_of_bits b ≡ Some k
  localizable_so : has_bit b 9 ≡ l
  nullable_so : has_bit b 12 ≡ n
  key_so : has_bit b 13 ≡ p
  small : b < 65536

text_kind : (b m : ℕ) → ((b == 0x900) || (b == 0x1900)) ≡ false → has_bit b 11 ≡ true → b % 256 ≡ m → kind_of_bits b ≡ Some (kind.Str m)
text_kind b m other bit is = rw (other, bit, is) refl

text_bits : (m : ℕ) (l n p : Bool) (b : ℕ) → m ≤ 255 → b ≡ 0xD00 + m + flag l 0x200 + flag n 0x1000 + flag p 0x2000 → Says b (kind.Str m) l n p
text_bits m false false false b few is = record { kind_so = text_kind b m (grind (arith, nat_tests, few, is)) (grind (arith, nat_tests, few, is)) (omega (arith, few, is)); localizable_so = grind (arith, nat_tests, few, is); nullable_so = grind (arith, nat_tests, few, is); key_so = grind (arith, nat_tests, few, is); small = omega (arith, few, is) }
text_bits m false false true b few is = record { kind_so = text_kind b m (grind (arith, nat_tests, few, is)) (grind (arith, nat_tests, few, is)) (omega (arith, few, is)); localizable_so = grind (arith, nat_tests, few, is); nullable_so = grind (arith, nat_tests, few, is); key_so = grind (arith, nat_tests, few, is); small = omega (arith, few, is) }
text_bits m false true false b few is = record { kind_so = text_kind b m (grind (arith, nat_tests, few, is)) (grind (arith, nat_tests, few, is)) (omega (arith, few, is)); localizable_so = grind (arith, nat_tests, few, is); nullable_so = grind (arith, nat_tests, few, is); key_so = grind (arith, nat_tests, few, is); small = omega (arith, few, is) }
text_bits m false true true b few is = record { kind_so = text_kind b m (grind (arith, nat_tests, few, is)) (grind (arith, nat_tests, few, is)) (omega (arith, few, is)); localizable_so = grind (arith, nat_tests, few, is); nullable_so = grind (arith, nat_tests, few, is); key_so = grind (arith, nat_tests, few, is); small = omega (arith, few, is) }
text_bits m true false false b few is = record { kind_so = text_kind b m (grind (arith, nat_tests, few, is)) (grind (arith, nat_tests, few, is)) (omega (arith, few, is)); localizable_so = grind (arith, nat_tests, few, is); nullable_so = grind (arith, nat_tests, few, is); key_so = grind (arith, nat_tests, few, is); small = omega (arith, few, is) }
text_bits m true false true b few is = record { kind_so = text_kind b m (grind (arith, nat_tests, few, is)) (grind (arith, nat_tests, few, is)) (omega (arith, few, is)); localizable_so = grind (arith, nat_tests, few, is); nullable_so = grind (arith, nat_tests, few, is); key_so = grind (arith, nat_tests, few, is); small = omega (arith, few, is) }
text_bits m true true false b few is = record { kind_so = text_kind b m (grind (arith, nat_tests, few, is)) (grind (arith, nat_tests, few, is)) (omega (arith, few, is)); localizable_so = grind (arith, nat_tests, few, is); nullable_so = grind (arith, nat_tests, few, is); key_so = grind (arith, nat_tests, few, is); small = omega (arith, few, is) }
text_bits m true true true b few is = record { kind_so = text_kind b m (grind (arith, nat_tests, few, is)) (grind (arith, nat_tests, few, is)) (omega (arith, few, is)); localizable_so = grind (arith, nat_tests, few, is); nullable_so = grind (arith, nat_tests, few, is); key_so = grind (arith, nat_tests, few, is); small = omega (arith, few, is) }

bits_told : (k : ColumnType) (l n p : Bool) → length_kept k ≡ true → not (is_binary k && (p || l)) ≡ true
    → Says (kind_bits k + flag l 0x200 + flag n 0x1000 + flag p 0x2000) k l n p
bits_told kind.Int16 false false false e f = record { kind_so = refl; localizable_so = refl; nullable_so = refl; key_so = refl; small = omega arith }
bits_told kind.Int16 false false true e f = record { kind_so = refl; localizable_so = refl; nullable_so = refl; key_so = refl; small = omega arith }
bits_told kind.Int16 false true false e f = record { kind_so = refl; localizable_so = refl; nullable_so = refl; key_so = refl; small = omega arith }
bits_told kind.Int16 false true true e f = record { kind_so = refl; localizable_so = refl; nullable_so = refl; key_so = refl; small = omega arith }
bits_told kind.Int16 true false false e f = record { kind_so = refl; localizable_so = refl; nullable_so = refl; key_so = refl; small = omega arith }
bits_told kind.Int16 true false true e f = record { kind_so = refl; localizable_so = refl; nullable_so = refl; key_so = refl; small = omega arith }
bits_told kind.Int16 true true false e f = record { kind_so = refl; localizable_so = refl; nullable_so = refl; key_so = refl; small = omega arith }
bits_told kind.Int16 true true true e f = record { kind_so = refl; localizable_so = refl; nullable_so = refl; key_so = refl; small = omega arith }
bits_told kind.Int32 false false false e f = record { kind_so = refl; localizable_so = refl; nullable_so = refl; key_so = refl; small = omega arith }
bits_told kind.Int32 false false true e f = record { kind_so = refl; localizable_so = refl; nullable_so = refl; key_so = refl; small = omega arith }
bits_told kind.Int32 false true false e f = record { kind_so = refl; localizable_so = refl; nullable_so = refl; key_so = refl; small = omega arith }
bits_told kind.Int32 false true true e f = record { kind_so = refl; localizable_so = refl; nullable_so = refl; key_so = refl; small = omega arith }
bits_told kind.Int32 true false false e f = record { kind_so = refl; localizable_so = refl; nullable_so = refl; key_so = refl; small = omega arith }
bits_told kind.Int32 true false true e f = record { kind_so = refl; localizable_so = refl; nullable_so = refl; key_so = refl; small = omega arith }
bits_told kind.Int32 true true false e f = record { kind_so = refl; localizable_so = refl; nullable_so = refl; key_so = refl; small = omega arith }
bits_told kind.Int32 true true true e f = record { kind_so = refl; localizable_so = refl; nullable_so = refl; key_so = refl; small = omega arith }
bits_told (kind.Str m) false false false e f = text_bits m false false false (0xD00 + m + 0 + 0 + 0) (grind (arith, nat_tests, e)) refl
bits_told (kind.Str m) false false true e f = text_bits m false false true (0xD00 + m + 0 + 0 + 0x2000) (grind (arith, nat_tests, e)) refl
bits_told (kind.Str m) false true false e f = text_bits m false true false (0xD00 + m + 0 + 0x1000 + 0) (grind (arith, nat_tests, e)) refl
bits_told (kind.Str m) false true true e f = text_bits m false true true (0xD00 + m + 0 + 0x1000 + 0x2000) (grind (arith, nat_tests, e)) refl
bits_told (kind.Str m) true false false e f = text_bits m true false false (0xD00 + m + 0x200 + 0 + 0) (grind (arith, nat_tests, e)) refl
bits_told (kind.Str m) true false true e f = text_bits m true false true (0xD00 + m + 0x200 + 0 + 0x2000) (grind (arith, nat_tests, e)) refl
bits_told (kind.Str m) true true false e f = text_bits m true true false (0xD00 + m + 0x200 + 0x1000 + 0) (grind (arith, nat_tests, e)) refl
bits_told (kind.Str m) true true true e f = text_bits m true true true (0xD00 + m + 0x200 + 0x1000 + 0x2000) (grind (arith, nat_tests, e)) refl
bits_told kind.Binary false false false e f = record { kind_so = refl; localizable_so = refl; nullable_so = refl; key_so = refl; small = omega arith }
bits_told kind.Binary false false true e f = absurd (cc)
bits_told kind.Binary false true false e f = record { kind_so = refl; localizable_so = refl; nullable_so = refl; key_so = refl; small = omega arith }
bits_told kind.Binary false true true e f = absurd (cc)
bits_told kind.Binary true false false e f = absurd (cc)
bits_told kind.Binary true false true e f = absurd (cc)
bits_told kind.Binary true true false e f = absurd (cc)
bits_told kind.Binary true true true e f = absurd (cc)

-- ---- one column

same_column : (c : Column) (l n p : Bool) (r : Option (ℤ × ℤ)) (f : Option (List ℕ × ℤ)) (k : Option Category) (d : List (List ℕ))
    → l ≡ c.localizable → n ≡ c.nullable → p ≡ c.key → r ≡ c.range → f ≡ c.foreign → k ≡ c.category → d ≡ c.choices
    → ◌≡◌ {A = Column} (record { name = c.name; kind = c.kind; localizable = l; nullable = n || c.nullable; key = p; range = r; foreign = f; category = k; choices = d }) c
same_column c l n p r f k d el en ep er ef ek ed = rw (el, en, ep, er, ef, ek, ed) (ap (λ b. record c { nullable = b }) (or_self c.nullable))
  where
    or_self : (b : Bool) → (b || b) ≡ b
    or_self true = refl
    or_self false = refl

told : (table : List ℕ) (c : Column) (l n p : Bool) → l ≡ c.localizable → n ≡ c.nullable → p ≡ c.key → list_any (list_any is_cut) c.choices ≡ false
    → described (validation_row table c) (record { name = c.name; kind = c.kind; localizable = l; nullable = n; key = p; range = None; foreign = None; category = None; choices = [] }) ≡ Some c
told table c l n p el en ep uncut =
    answered c.nullable
    ∙ ap (λ x. Some x) (same_column c l n p (range_of (low_of c.range) (high_of c.range)) (foreign_of (key_table_of c.foreign) (key_column_of c.foreign)) (category_read (category_of c.category)) (choices_read (choices_of c.choices))
    el en ep (range_told c.range) (foreign_told c.foreign) (category_told c.category) (choices_told c.choices uncut))
  where
    answered : (a : Bool)
        → described (text table ∷ text c.name ∷ yes_or_no a ∷ low_of c.range ∷ high_of c.range ∷ key_table_of c.foreign ∷ key_column_of c.foreign ∷ category_of c.category ∷ choices_of c.choices ∷ null ∷ [])
        (record { name = c.name; kind = c.kind; localizable = l; nullable = n; key = p; range = None; foreign = None; category = None; choices = [] })
        ≡ Some (record { name = c.name; kind = c.kind; localizable = l; nullable = n || a; key = p; range = range_of (low_of c.range) (high_of c.range); foreign = foreign_of (key_table_of c.foreign) (key_column_of c.foreign); category = category_read (category_of c.category); choices = choices_read (choices_of c.choices) })
    answered true = refl
    answered false = refl

column_back : (table : List ℕ) (n : ℕ) (c : Column) (validation : List (List Datum)) → is_kept c ≡ true → find (is_for table c.name) validation ≡ Some (validation_row table c)
    → column_read validation (columns_row table n c) ≡ Some c
column_back table n c validation kept found =
    let parts = and_parts (length_kept c.kind && not (list_any (list_any is_cut) c.choices)) (not (is_binary c.kind && (c.key || c.localizable))) kept in
    let more = and_parts (length_kept c.kind) (not (list_any (list_any is_cut) c.choices)) parts.0 in
    let says = bits_told c.kind c.localizable c.nullable c.key more.0 parts.1 in
    let number : cast_unsigned w32 (pos (type_bits c)) ≡ type_bits c = omega (arith, ints, says.small) in
    ap (λ o. option_and_then (described_by o) (column_of_bits c.name (cast_unsigned w32 (pos (type_bits c))))) found
    ∙ ap (λ b. option_and_then (described (validation_row table c)) (column_of_bits c.name b)) number
    ∙ ap (λ o. option_and_then (described (validation_row table c)) (option_map (with_kind (type_bits c)) o)) says.kind_so
    ∙ told table c (has_bit (type_bits c) 9) (has_bit (type_bits c) 12) (has_bit (type_bits c) 13) says.localizable_so says.nullable_so says.key_so (not_false (list_any (list_any is_cut) c.choices) more.1)
  where
    with_kind : ℕ → ColumnType → Column
    with_kind b k = record { name = c.name; kind = k; localizable = has_bit b 9; nullable = has_bit b 12; key = has_bit b 13; range = None; foreign = None; category = None; choices = [] }

    not_false : (b : Bool) → not b ≡ true → b ≡ false
    not_false true e = absurd (cc)
    not_false false e = refl

-- ---- the rows of a new table

itself : (t : List ℕ) → bytes_eq t t ≡ true
itself t = (bytes_eq-Decides t t).1 refl

abbrev Numbered : List (List Datum) → List ℕ → ℕ → List Column → Type 0
Numbered own table n [] = Unit {0}
Numbered own table n (c ∷ cs) = (find (is_number n) own ≡ Some (columns_row table n c)) × Numbered own table (suc n) cs

numbered : (table : List ℕ) (before : List (List Datum)) (rest : List Column) (n : ℕ) → ((m : ℕ) → n ≤ m → find (is_number m) before ≡ None)
    → Numbered (before ++ columns_rows table n rest) table n rest
numbered table before [] n none = tt
numbered table before (c ∷ rest) n none = (
  find-append (is_number n) before (columns_row table n c ∷ columns_rows table (suc n) rest)
      ∙ ap (λ o. option_or o (find (is_number n) (columns_row table n c ∷ columns_rows table (suc n) rest))) (none n (omega arith))
      ∙ ap (λ b. cond b (Some (columns_row table n c)) (find (is_number n) (columns_rows table (suc n) rest))) same,
  subst (λ own. Numbered own table (suc n) rest) (append_assoc before (columns_row table n c ∷ []) (columns_rows table (suc n) rest))
      (numbered table (before ++ columns_row table n c ∷ []) rest (suc n)
      (λ m above.
      find-append (is_number m) before (columns_row table n c ∷ []) ∙ ap (λ o. option_or o (find (is_number m) (columns_row table n c ∷ []))) (none m (omega (arith, above)))
      ∙ ap (λ b. cond b (Some (columns_row table n c)) None) (other m above))),
)
  where
    same : (n == n) ≡ true
    same = grind (arith, nat_tests)

    other : (m : ℕ) → suc n ≤ m → (n == m) ≡ false
    other m above = grind (arith, nat_tests)

found_rest : (table : List ℕ) (before : List (List Datum)) (rest : List Column) → AllByRecursion (λ c. find (is_for table c.name) before ≡ None) rest → names_distinct rest ≡ true
    → AllByRecursion (λ c. find (is_for table c.name) (before ++ map (validation_row table) rest) ≡ Some (validation_row table c)) rest
found_rest table before [] none distinct = tt
found_rest table before (c ∷ rest) none distinct =
    let parts = and_parts (not (list_any (λ d. bytes_eq d.name c.name) rest)) (names_distinct rest) distinct in (
      find-append (is_for table c.name) before (validation_row table c ∷ map (validation_row table) rest)
          ∙ ap (λ o. option_or o (find (is_for table c.name) (validation_row table c ∷ map (validation_row table) rest))) none.0
          ∙ ap₂ (λ a b. cond (a && b) (Some (validation_row table c)) (find (is_for table c.name) (map (validation_row table) rest))) (itself table) (itself c.name),
      subst (λ rows. AllByRecursion (λ d. find (is_for table d.name) rows ≡ Some (validation_row table d)) rest) (append_assoc before (validation_row table c ∷ []) (map (validation_row table) rest))
          (found_rest table (before ++ validation_row table c ∷ []) rest (pushed rest (not_false (list_any (λ d. bytes_eq d.name c.name) rest) parts.0) none.1) parts.1),
    )
  where
    not_false : (b : Bool) → not b ≡ true → b ≡ false
    not_false true e = absurd (cc)
    not_false false e = refl

    pushed : (ds : List Column) → list_any (λ d. bytes_eq d.name c.name) ds ≡ false → AllByRecursion (λ d. find (is_for table d.name) before ≡ None) ds
        → AllByRecursion (λ d. find (is_for table d.name) (before ++ validation_row table c ∷ []) ≡ None) ds
    pushed [] e none = tt
    pushed (d ∷ ds) e none =
        let parts = or_parts (bytes_eq d.name c.name) (list_any (λ d. bytes_eq d.name c.name) ds) e in (
          find-append (is_for table d.name) before (validation_row table c ∷ [])
              ∙ ap (λ o. option_or o (find (is_for table d.name) (validation_row table c ∷ []))) none.0
              ∙ ap₂ (λ a b. cond (a && b) (Some (validation_row table c)) None) (itself table) (nat_list_eq_equiv.symm c.name d.name ∙ parts.0),
          pushed ds parts.1 none.1,
        )

read_all : (table : List ℕ) (validation own : List (List Datum)) (rest : List Column) (n : ℕ) → list_all is_kept rest ≡ true
    → AllByRecursion (λ c. find (is_for table c.name) validation ≡ Some (validation_row table c)) rest → Numbered own table n rest → columns_read validation own (length rest) n ≡ Some rest
read_all table validation own [] n kept found placed = refl
read_all table validation own (c ∷ rest) n kept found placed =
    let parts = and_parts (is_kept c) (list_all is_kept rest) kept in
    ap₂ (λ o q. option_and_then (λ x. option_map (λ cs. x ∷ cs) q) o)
    (ap (option_and_then (column_read validation)) placed.0 ∙ column_back table n c validation parts.0 found.0)
    (read_all table validation own rest (suc n) parts.1 found.1 placed.1)

own_rows : (table : List ℕ) (n : ℕ) (cs : List Column) → filter (begins_with table) (columns_rows table n cs) ≡ columns_rows table n cs
own_rows table n [] = refl
own_rows table n (c ∷ cs) =
    ap₂ (λ b rows. cond b (columns_row table n c ∷ rows) rows) (itself table) (own_rows table (suc n) cs)

many_rows : (table : List ℕ) (n : ℕ) (cs : List Column) → length (columns_rows table n cs) ≡ length cs
many_rows table n [] = refl
many_rows table n (c ∷ cs) = ap (λ k. suc k) (many_rows table (suc n) cs)

pub none_pass : (p : List Datum → Bool) (xs : List (List Datum)) → list_any p xs ≡ false → filter p xs ≡ []
none_pass p [] e = refl
none_pass p (x ∷ xs) e = go (p x) e (none_pass p xs)
  where
    go : (b : Bool) → (b || list_any p xs) ≡ false → (list_any p xs ≡ false → filter p xs ≡ []) → cond b (x ∷ filter p xs) (filter p xs) ≡ []
    go true e later = absurd (cc)
    go false e later = later e

free : (table : List ℕ) (validation : List (List Datum)) (cs : List Column) → list_all (λ c. is_none (find (is_for table c.name) validation)) cs ≡ true
    → AllByRecursion (λ c. find (is_for table c.name) validation ≡ None) cs
free table validation [] e = tt
free table validation (c ∷ cs) e =
    let parts = and_parts (is_none (find (is_for table c.name) validation)) (list_all (λ c. is_none (find (is_for table c.name) validation)) cs) e in
    (none_so (find (is_for table c.name) validation) parts.0, free table validation cs parts.1)
  where
    none_so : (o : Option (List Datum)) → is_none o ≡ true → o ≡ None
    none_so None e = refl
    none_so (Some x) e = absurd (cc)

pub new_columns : (columns validation : List (List Datum)) (table : List ℕ) (cs : List Column) → not (length cs == 0) ≡ true → list_any (begins_with table) columns ≡ false
    → list_all (λ c. is_none (find (is_for table c.name) validation)) cs ≡ true → list_all is_kept cs ≡ true → names_distinct cs ≡ true
    → schema_of (columns ++ columns_rows table 1 cs) (validation ++ map (validation_row table) cs) table ≡ Some cs
new_columns columns validation table cs some none unsaid kept distinct =
    let rows = columns_rows table 1 cs in
    let all = validation ++ map (validation_row table) cs in
    let own : filter (begins_with table) (columns ++ rows) ≡ rows =
    filter-append (begins_with table) columns rows ∙ ap₂ (λ xs ys. xs ++ ys) (none_pass (begins_with table) columns none) (own_rows table 1 cs) in
    ap (λ xs. cond (length xs == 0) None (columns_read all xs (length xs) 1)) own
    ∙ ap (λ k. cond (k == 0) None (columns_read all rows k 1)) (many_rows table 1 cs)
    ∙ ap (λ b. cond b None (columns_read all rows (length cs) 1)) (not_false (length cs == 0) some)
    ∙ read_all table all rows cs 1 kept (found_rest table validation cs (free table validation cs unsaid) distinct) (numbered table [] cs 1 (λ m above. refl))
  where
    not_false : (b : Bool) → not b ≡ true → b ≡ false
    not_false true e = absurd (cc)
    not_false false e = refl
