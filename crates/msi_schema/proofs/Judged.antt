-- Rows that describe tables, test by test.
use Rattle.std.proofs.Common.{◌≡◌, ◌∙◌, ℕ, ◌+◌, ◌≤◌, ◌<◌, Bool, true, false, List, [], ◌∷◌, ◌++◌, drop, get_or, length, length-take, map, take, refl, sym, ap, arith, Vec, Option, Some, None, Result, Ok, Err, inl, inr, ⊎_elim, subst}
use Rattle.std.specs.Prelude.{◌&&◌, ◌||◌, All}
use Rattle.std.specs.Prelude.{◌⊎◌, ◌==◌, cond, filter, IfErr, IfOk, IsErrAnd}
use Rattle.std.specs.List.{list_all, list_any}
use Rattle.std.specs.declared.alloc.Global.{Global}
use Rattle.std.proofs.lemmas.Bool.Decides.{nat_tests}
use Rattle.std.proofs.lemmas.List.{length-map, take_all, map_more, map-append, take-append-drop}
use Rattle.std.proofs.lemmas.List.Folds.{list_all-map, list_all_at, list_all-append, map_fixed}
use Rattle.std.proofs.lemmas.List.Elements.{All-map, All-weaker}
use Rattle.cfb_medium.specs.declared.error.Error.{Error}
use Rattle.cfb_medium.specs.declared.error.Error.TheVariants.{InvalidData, Memory}
use Rattle.msi_texts.specs.Results.{or_refused}
use Rattle.msi_values.specs.Datum.{Datum, null, number, text, binary}
use Rattle.msi_values.specs.Borrowed.{borrowed_data, borrowed_datum}
use Rattle.msi_values.specs.declared.borrowed.BorrowedValue.{BorrowedValue}
use Rattle.msi_tables.specs.Schema.{are_keys, begins_with, columns_read, is_filled, is_of_listed, is_schema, names_described, schema_of}
use Rattle.msi_schema.specs.Index.{rows_said}
use Rattle.std.specs.declared.rc.Rc.{Rc}
use Rattle.msi_tables.specs.declared.table.Table.{Table as HeldTable}
use Rattle.msi_schema.specs.Headings.{has_name, headings_in, AreTold}

-- one row that fails a test fails it for all
pub row_fails : (p : List Datum → Bool) (rows : List (Vec BorrowedValue Global)) (i : ℕ) (row : Vec BorrowedValue Global) → i < length rows → row ≡ get_or rows i row
    → p (borrowed_data row.items) ≡ false → list_all p (rows_said rows) ≡ false
row_fails p rows i row in_range is fails =
    list_all-map p (λ (r : Vec BorrowedValue Global). borrowed_data r.items) rows
    ∙ list_all_at (λ (r : Vec BorrowedValue Global). p (borrowed_data r.items)) rows i row in_range (ap (λ (r : Vec BorrowedValue Global). p (borrowed_data r.items)) (sym is) ∙ fails)

-- one row more
pub rows_more : (rows : List (Vec BorrowedValue Global)) (i : ℕ) (row : Vec BorrowedValue Global) → i < length rows → row ≡ get_or rows i row
    → rows_said (take (i + 1) rows) ≡ rows_said (take i rows) ++ borrowed_data row.items ∷ []
rows_more rows i row in_range is =
    map_more (λ (r : Vec BorrowedValue Global). borrowed_data r.items) rows i row in_range
    ∙ ap (λ (r : Vec BorrowedValue Global). rows_said (take i rows) ++ borrowed_data r.items ∷ []) (sym is)

pub all_more : (p : List Datum → Bool) (xs : List (List Datum)) (y : List Datum) → list_all p xs ≡ true → p y ≡ true → list_all p (xs ++ y ∷ []) ≡ true
all_more p xs y all here = list_all-append p xs (y ∷ []) ∙ rw (all, here) refl

pub said_length : (i : ℕ) (rows : List (Vec BorrowedValue Global)) → length (rows_said (take i rows)) ≤ length rows
said_length i rows = omega (arith, length-map (take i rows) (λ (r : Vec BorrowedValue Global). borrowed_data r.items), length-take i rows)

-- a row that passes a test is found by it
pub row_passes : (p : List Datum → Bool) (rows : List (Vec BorrowedValue Global)) (i : ℕ) (row : Vec BorrowedValue Global) → i < length rows → row ≡ get_or rows i row
    → p (borrowed_data row.items) ≡ true → list_any p (rows_said rows) ≡ true
row_passes p rows i row in_range is passes =
    ap (λ (rs : List (Vec BorrowedValue Global)). list_any p (rows_said rs)) (sym (take-append-drop (i + 1) rows))
    ∙ ap (list_any p) (map-append (λ (r : Vec BorrowedValue Global). borrowed_data r.items) (take (i + 1) rows) (drop (i + 1) rows))
    ∙ ap (λ (ds : List (List Datum)). list_any p (ds ++ rows_said (drop (i + 1) rows))) (rows_more rows i row in_range is)
    ∙ here (rows_said (take i rows))
  where
    or_true : (b : Bool) → (b || true) ≡ true
    or_true true = refl
    or_true false = refl

    here : (xs : List (List Datum)) → list_any p ((xs ++ borrowed_data row.items ∷ []) ++ rows_said (drop (i + 1) rows)) ≡ true
    here [] = rw passes refl
    here (x ∷ xs) = ap (λ b. p x || b) (here xs) ∙ or_true (p x)

-- rows that are no longer are their own first values
pub whole_rows : (rows : List (Vec BorrowedValue Global)) (width : ℕ) → All (λ row. length row.items ≤ width) rows → map (take width) (rows_said rows) ≡ rows_said rows
whole_rows rows width few =
    map_fixed (take width) (rows_said rows)
    (All-map (λ (ds : List Datum). take width ds ≡ ds) (λ (r : Vec BorrowedValue Global). borrowed_data r.items) rows
    (All-weaker (λ (r : Vec BorrowedValue Global). length r.items ≤ width) (λ (r : Vec BorrowedValue Global). take width (borrowed_data r.items) ≡ borrowed_data r.items)
    (λ r short. take_all width (borrowed_data r.items) (omega (arith, short, length-map r.items borrowed_datum))) rows few))

pub left_false : (a b : Bool) → a ≡ false → (a && b) ≡ false
left_false true b e = absurd (cc)
left_false false b e = refl

pub right_false : (a b : Bool) → b ≡ false → (a && b) ≡ false
right_false true b e = e
right_false false b e = refl

-- a row of _Tables without a name describes nothing
unnamed : (columns validation tables : List (List Datum)) → list_all has_name tables ≡ false → list_all (names_described columns validation) tables ≡ false
unnamed columns validation [] e = absurd (cc)
unnamed columns validation (ds ∷ tables) e = on (has_name ds) refl (unnamed columns validation tables) e
  where
    none : (ds : List Datum) → has_name ds ≡ false → names_described columns validation ds ≡ false
    none [] e = refl
    none (null ∷ ds) e = refl
    none (number z ∷ ds) e = refl
    none (binary ∷ ds) e = refl
    none (text t ∷ ds) e = absurd (cc)

    on : (b : Bool) → has_name ds ≡ b → (list_all has_name tables ≡ false → list_all (names_described columns validation) tables ≡ false)
        → (b && list_all has_name tables) ≡ false → (names_described columns validation ds && list_all (names_described columns validation) tables) ≡ false
    on true is later e = right_false (names_described columns validation ds) (list_all (names_described columns validation) tables) (later e)
    on false is later e = left_false (names_described columns validation ds) (list_all (names_described columns validation) tables) (none ds is)

-- ---- what an answer says

pub refused_none : {X : Type 0} (o : Option X) (e : Error) → or_refused o InvalidData ≡ Err e → (e ≡ InvalidData) × (o ≡ None)
refused_none None e is = (error_is e is, refl)
  where
    error_or : {X : Type 0} → Error → Result X Error → Error
    error_or e (Ok x) = e
    error_or e (Err f) = f

    error_is : {X : Type 0} (e : Error) → ◌≡◌ {A = Result X Error} (Err InvalidData) (Err e) → e ≡ InvalidData
    error_is e is = sym (ap (error_or e) is)
refused_none (Some x) e is = absurd (cc)

pub taken_some : {X : Type 0} (o : Option X) (x : X) → or_refused o InvalidData ≡ Ok x → o ≡ Some x
taken_some None x is = absurd (cc)
taken_some {X} (Some y) x is = ap (λ z. Some z) (ap value_or is)
  where
    value_or : Result X Error → X
    value_or (Ok z) = z
    value_or (Err e) = y

-- an error that is passed on
pub passed_on : {X : Type 0} (r : Result X Error) (e : Error) (P : Error → Type 0) → IsErrAnd r (λ x. x ≡ e) → P e → IfErr r P
passed_on (Ok x) e P is holds = tt
passed_on (Err f) e P is holds = subst P (sym is) holds

-- a refusal that fails one test fails another
abbrev pub Refuses : Bool → Error → Type 0
Refuses test e = (e ≡ Memory) ⊎ ((e ≡ InvalidData) × (test ≡ false))

pub refuses_so : (one other : Bool) (e : Error) → (one ≡ false → other ≡ false) → Refuses one e → Refuses other e
refuses_so one other e so r = ⊎_elim (λ memory. inl memory) (λ refused. inr (refused.0, so refused.1)) r

pub join_ok : {X : Type 0} (P Q R : X → Type 0) → ((x : X) → P x → Q x → R x) → (r : Result X Error) → IfOk r P → IfOk r Q → IfOk r R
join_ok P Q R both (Ok x) p q = both x p q
join_ok P Q R both (Err e) p q = tt

-- ---- columns of a count

pub counted_schema : (rows others : List (List Datum)) (name : List ℕ) (n : ℕ) → Some n ≡ Some (length (filter (begins_with name) rows)) → (n ≡ 0 → ⊥)
    → columns_read others (filter (begins_with name) rows) n 1 ≡ schema_of rows others name
counted_schema rows others name n is some =
    let own = filter (begins_with name) rows in
    let one : n ≡ length own = ap number_or is in
    let none : (length own == 0) ≡ false = grind (arith, nat_tests, one, some) in
    ap (λ k. columns_read others own k 1) one ∙ ap (λ b. cond b None (columns_read others own (length own) 1)) (sym none)
  where
    number_or : Option ℕ → ℕ
    number_or None = 0
    number_or (Some k) = k

-- ---- all tests

module _ (tables columns validation : List (List Datum)) where
  pub all_hold : are_keys tables ≡ true → are_keys (map (take 2) columns) ≡ true → list_all (list_all is_filled) columns ≡ true → list_all (is_of_listed tables) columns ≡ true
      → are_keys (map (take 2) validation) ≡ true → list_all (names_described columns validation) tables ≡ true → is_schema tables columns validation ≡ true
  all_hold a b c d e f = rw (a, b, c, d, e, f) refl

  abbrev A : Bool
  A = are_keys tables

  abbrev B : Bool
  B = are_keys (map (take 2) columns)

  abbrev C : Bool
  C = list_all (list_all is_filled) columns

  abbrev D : Bool
  D = list_all (is_of_listed tables) columns

  abbrev E : Bool
  E = are_keys (map (take 2) validation)

  abbrev F : Bool
  F = list_all (names_described columns validation) tables

  pub tables_keyless : A ≡ false → is_schema tables columns validation ≡ false
  tables_keyless e = left_false (A && B && C && D && E) F (left_false (A && B && C && D) E (left_false (A && B && C) D (left_false (A && B) C (left_false A B e))))

  pub columns_keyless : B ≡ false → is_schema tables columns validation ≡ false
  columns_keyless e = left_false (A && B && C && D && E) F (left_false (A && B && C && D) E (left_false (A && B && C) D (left_false (A && B) C (right_false A B e))))

  pub columns_unfilled : C ≡ false → is_schema tables columns validation ≡ false
  columns_unfilled e = left_false (A && B && C && D && E) F (left_false (A && B && C && D) E (left_false (A && B && C) D (right_false (A && B) C e)))

  pub columns_unlisted : D ≡ false → is_schema tables columns validation ≡ false
  columns_unlisted e = left_false (A && B && C && D && E) F (left_false (A && B && C && D) E (right_false (A && B && C) D e))

  pub validation_keyless : E ≡ false → is_schema tables columns validation ≡ false
  validation_keyless e = left_false (A && B && C && D && E) F (right_false (A && B && C && D) E e)

  pub undescribed : F ≡ false → is_schema tables columns validation ≡ false
  undescribed e = right_false (A && B && C && D && E) F e

  -- no counts of rows
  pub uncounted : (list_all has_name tables && D) ≡ false → is_schema tables columns validation ≡ false
  uncounted e = on (list_all has_name tables) refl e
    where
      on : (b : Bool) → list_all has_name tables ≡ b → (b && D) ≡ false → is_schema tables columns validation ≡ false
      on true is e = columns_unlisted e
      on false is e = undescribed (unnamed columns validation tables is)

-- ---- what is said of equal rows

pub told_by : (T T' C C' V V' : List (List Datum)) (long long' : Bool) → T ≡ T' → C ≡ C' → V ≡ V' → long ≡ long' → (r : Result (Vec (Rc HeldTable Global) Global) Error)
    → IfOk r (λ found. (is_schema T C V ≡ true) × AreTold T C V long (headings_in found.items))
    → IfOk r (λ found. (is_schema T' C' V' ≡ true) × AreTold T' C' V' long' (headings_in found.items))
told_by T T' C C' V V' long long' t c v l r told =
    subst (λ (x : Bool). IfOk r (λ found. (is_schema T' C' V' ≡ true) × AreTold T' C' V' x (headings_in found.items))) l
    (subst (λ (x : List (List Datum)). IfOk r (λ found. (is_schema T' C' x ≡ true) × AreTold T' C' x long (headings_in found.items))) v
    (subst (λ (x : List (List Datum)). IfOk r (λ found. (is_schema T' x V ≡ true) × AreTold T' x V long (headings_in found.items))) c
    (subst (λ (x : List (List Datum)). IfOk r (λ found. (is_schema x C V ≡ true) × AreTold x C V long (headings_in found.items))) t told)))

pub refused_by : (T T' C C' V V' : List (List Datum)) → T ≡ T' → C ≡ C' → V ≡ V' → (r : Result (Vec (Rc HeldTable Global) Global) Error)
    → IfErr r (Refuses (is_schema T C V)) → IfErr r (Refuses (is_schema T' C' V'))
refused_by T T' C C' V V' t c v r refused =
    subst (λ (x : List (List Datum)). IfErr r (Refuses (is_schema T' C' x))) v
    (subst (λ (x : List (List Datum)). IfErr r (Refuses (is_schema T' x V))) c (subst (λ (x : List (List Datum)). IfErr r (Refuses (is_schema x C V))) t refused))
