-- What is found under the names of tables, one row after the other.
use Rattle.std.proofs.Common.{◌≡◌, ◌∙◌, ℕ, ◌+◌, ◌≤◌, Bool, true, false, cond, List, [], ◌∷◌, ◌++◌, length, get_or, append-nil, length-append, refl, subst, sym, ap, arith, Option, Some, None}
use Rattle.std.specs.Prelude.{◌||◌, not, bytes_eq, filter, is_some, IfSome}
use Rattle.std.specs.List.{list_any}
use Rattle.std.proofs.lemmas.List.Folds.{list_any-append}
use Rattle.std.proofs.lemmas.List.Elements.{filter-append}
use Rattle.std.proofs.lemmas.List.Filters.{length-filter_both}
use Rattle.std.proofs.lemmas.Slice.Eq.{bytes_eq-Decides}
use Rattle.msi_values.specs.Datum.{Datum, null, number, text, binary}
use Rattle.msi_tables.specs.Schema.{begins_with, is_of_listed, names_described, schema_of}
use Rattle.msi_schema.specs.Columns.{text_in}
use Rattle.std.specs.Borrow.{Bor}
use Rattle.std.specs.declared.alloc.Global.{Global}
use Rattle.std.specs.declared.collections.BTreeMap.{BTreeMap}
use Rattle.msi_schema.specs.Headings.{at_text, has_name, ColumnsAreCounted}

abbrev text_or : Option (List ℕ) → List ℕ
text_or None = []
text_or (Some t) = t

-- ---- a row by the text that it begins with

module _ (ds : List Datum) (none : None ≡ text_in (get_or ds 0 null)) where
  pub nameless : has_name ds ≡ false
  nameless = on ds none
    where
      on : (ds : List Datum) → None ≡ text_in (get_or ds 0 null) → has_name ds ≡ false
      on [] e = refl
      on (null ∷ ds) e = refl
      on (number z ∷ ds) e = refl
      on (binary ∷ ds) e = refl
      on (text t ∷ ds) e = absurd (cc)

  pub of_none : (tables : List (List Datum)) → is_of_listed tables ds ≡ false
  of_none tables = on ds none
    where
      on : (ds : List Datum) → None ≡ text_in (get_or ds 0 null) → is_of_listed tables ds ≡ false
      on [] e = refl
      on (null ∷ ds) e = refl
      on (number z ∷ ds) e = refl
      on (binary ∷ ds) e = refl
      on (text t ∷ ds) e = absurd (cc)

  pub describes_none : (columns validation : List (List Datum)) → names_described columns validation ds ≡ false
  describes_none columns validation = on ds none
    where
      on : (ds : List Datum) → None ≡ text_in (get_or ds 0 null) → names_described columns validation ds ≡ false
      on [] e = refl
      on (null ∷ ds) e = refl
      on (number z ∷ ds) e = refl
      on (binary ∷ ds) e = refl
      on (text t ∷ ds) e = absurd (cc)

module _ (ds : List Datum) (t : List ℕ) (has : Some t ≡ text_in (get_or ds 0 null)) where
  pub begins : (name : List ℕ) → begins_with name ds ≡ bytes_eq t name
  begins name = on ds has
    where
      on : (ds : List Datum) → Some t ≡ text_in (get_or ds 0 null) → begins_with name ds ≡ bytes_eq t name
      on [] e = absurd (cc)
      on (null ∷ ds) e = absurd (cc)
      on (number z ∷ ds) e = absurd (cc)
      on (binary ∷ ds) e = absurd (cc)
      on (text s ∷ ds) e = ap (λ x. bytes_eq x name) (ap text_or (sym e))

  pub of_listed : (tables : List (List Datum)) → is_of_listed tables ds ≡ list_any (begins_with t) tables
  of_listed tables = on ds has
    where
      on : (ds : List Datum) → Some t ≡ text_in (get_or ds 0 null) → is_of_listed tables ds ≡ list_any (begins_with t) tables
      on [] e = absurd (cc)
      on (null ∷ ds) e = absurd (cc)
      on (number z ∷ ds) e = absurd (cc)
      on (binary ∷ ds) e = absurd (cc)
      on (text s ∷ ds) e = ap (λ x. list_any (begins_with x) tables) (ap text_or (sym e))

  pub describes : (columns validation : List (List Datum)) → names_described columns validation ds ≡ is_some (schema_of columns validation t)
  describes columns validation = on ds has
    where
      on : (ds : List Datum) → Some t ≡ text_in (get_or ds 0 null) → names_described columns validation ds ≡ is_some (schema_of columns validation t)
      on [] e = absurd (cc)
      on (null ∷ ds) e = absurd (cc)
      on (number z ∷ ds) e = absurd (cc)
      on (binary ∷ ds) e = absurd (cc)
      on (text s ∷ ds) e = ap (λ x. is_some (schema_of columns validation x)) (ap text_or (sym e))

  -- one row more among the tables
  pub asked_more : (tables : List (List Datum)) (name : List ℕ) → list_any (begins_with name) (tables ++ ds ∷ []) ≡ (list_any (begins_with name) tables || bytes_eq t name)
  asked_more tables name =
      list_any-append (begins_with name) tables (ds ∷ [])
      ∙ ap (λ b. list_any (begins_with name) tables || b) (or_false (begins_with name ds) ∙ begins name)
    where
      or_false : (b : Bool) → (b || false) ≡ b
      or_false true = refl
      or_false false = refl

-- ---- counts

abbrev pub counted : List (List Datum) → List (List Datum) → List ℕ → Option ℕ
counted tables columns name = cond (list_any (begins_with name) tables) (Some (length (filter (begins_with name) columns))) None

abbrev zero_else : Bool → Option ℕ → Option ℕ
zero_else b o = cond b (Some 0) o

-- one name more, with no row yet
pub named_more : (tables : List (List Datum)) (ds : List Datum) (t : List ℕ) → Some t ≡ text_in (get_or ds 0 null) → (old new : List ℕ → Option ℕ)
    → ((name : List ℕ) → old name ≡ counted tables [] name) → ((name : List ℕ) → new name ≡ zero_else (bytes_eq t name) (old name))
    → (name : List ℕ) → new name ≡ counted (tables ++ ds ∷ []) [] name
named_more tables ds t has old new before put name =
    put name ∙ ap (zero_else (bytes_eq t name)) (before name)
    ∙ on (bytes_eq t name) (list_any (begins_with name) tables) ∙ ap (λ b. zero_else b None) (sym (asked_more ds t has tables name))
  where
    on : (b a : Bool) → zero_else b (zero_else a None) ≡ zero_else (a || b) None
    on true true = refl
    on true false = refl
    on false true = refl
    on false false = refl

abbrev number_or : Option ℕ → ℕ
number_or None = 0
number_or (Some n) = n

module _ (tables columns : List (List Datum)) (ds : List Datum) (t : List ℕ) (has : Some t ≡ text_in (get_or ds 0 null)) (old : List ℕ → Option ℕ)
    (before : (name : List ℕ) → old name ≡ counted tables columns name) (n : ℕ) (is : Some n ≡ old t) where
  listed_here : list_any (begins_with t) tables ≡ true
  listed_here = on (list_any (begins_with t) tables) (is ∙ before t)
    where
      on : (b : Bool) → Some n ≡ cond b (Some (length (filter (begins_with t) columns))) None → b ≡ true
      on true e = refl
      on false e = absurd (cc)

  pub count_is : n ≡ length (filter (begins_with t) columns)
  count_is = ap number_or (is ∙ before t ∙ ap (λ b. cond b (Some (length (filter (begins_with t) columns))) None) listed_here)

  pub few : n ≤ length columns
  few = omega (arith, count_is, length-filter_both (begins_with t) (λ row. not (begins_with t row)) (λ row. refl) columns)

  -- its row is of a listed table
  pub row_listed : is_of_listed tables ds ≡ true
  row_listed = of_listed ds t has tables ∙ listed_here

  -- and counted
  pub counted_more : (new : List ℕ → Option ℕ) → ((name : List ℕ) → new name ≡ cond (bytes_eq t name) (Some (n + 1)) (old name))
      → (name : List ℕ) → new name ≡ counted tables (columns ++ ds ∷ []) name
  counted_more new put name = put name ∙ on (bytes_eq t name) refl ∙ ap (λ rows. cond (list_any (begins_with name) tables) (Some (length rows)) None) (sym (filter-append (begins_with name) columns (ds ∷ [])))
    where
      on : (b : Bool) → bytes_eq t name ≡ b → cond b (Some (n + 1)) (old name)
          ≡ cond (list_any (begins_with name) tables) (Some (length (filter (begins_with name) columns ++ filter (begins_with name) (ds ∷ [])))) None
      on true e =
          let same : t ≡ name = (bytes_eq-Decides t name).0 e in
          let one : filter (begins_with name) (ds ∷ []) ≡ ds ∷ [] = ap (λ b. cond b (ds ∷ []) []) (begins ds t has name ∙ e) in
          let more : n + 1 ≡ length (filter (begins_with name) columns ++ filter (begins_with name) (ds ∷ [])) =
          omega (arith, count_is, ap (λ x. length (filter (begins_with x) columns)) same, length-append (filter (begins_with name) columns) (filter (begins_with name) (ds ∷ [])), ap length one) in
          ap (λ k. Some k) more
          ∙ ap (λ b. cond b (Some (length (filter (begins_with name) columns ++ filter (begins_with name) (ds ∷ [])))) None) (sym listed_here ∙ ap (λ x. list_any (begins_with x) tables) same)
      on false e =
          let none : filter (begins_with name) (ds ∷ []) ≡ [] = ap (λ b. cond b (ds ∷ []) []) (begins ds t has name ∙ e) in
          before name
          ∙ ap (λ rows. cond (list_any (begins_with name) tables) (Some (length rows)) None) (sym (append-nil (filter (begins_with name) columns)))
          ∙ ap (λ rows. cond (list_any (begins_with name) tables) (Some (length (filter (begins_with name) columns ++ rows))) None) (sym none)

-- a row whose text has no count is of no listed table
pub uncounted : (tables columns : List (List Datum)) (ds : List Datum) (t : List ℕ) → Some t ≡ text_in (get_or ds 0 null) → (old : List ℕ → Option ℕ)
    → ((name : List ℕ) → old name ≡ counted tables columns name) → None ≡ old t → is_of_listed tables ds ≡ false
uncounted tables columns ds t has old before none = of_listed ds t has tables ∙ on (list_any (begins_with t) tables) (none ∙ before t)
  where
    on : (b : Bool) → None ≡ cond b (Some (length (filter (begins_with t) columns))) None → b ≡ false
    on true e = absurd (cc)
    on false e = refl

-- no count is above all rows
pub counts_few : (tables columns : List (List Datum)) (most : ℕ) → length columns ≤ most → (o : Option ℕ) (name : List ℕ) → o ≡ counted tables columns name → IfSome o (λ n. n ≤ most)
counts_few tables columns most all o name is =
    subst (λ (o : Option ℕ). IfSome o (λ n. n ≤ most)) (sym is) (on (list_any (begins_with name) tables))
  where
    on : (b : Bool) → IfSome (cond b (Some (length (filter (begins_with name) columns))) None) (λ n. n ≤ most)
    on true = omega (arith, all, length-filter_both (begins_with name) (λ row. not (begins_with name row)) (λ row. refl) columns)
    on false = tt

pub bytes_same : (t : List ℕ) → bytes_eq t t ≡ true
bytes_same t = (bytes_eq-Decides t t).1 refl

-- the count of a name that is listed
pub counted_at : (columns tables : List (List Datum)) (t : List ℕ) (counts : BTreeMap (Bor (List ℕ)) ℕ Global) → ColumnsAreCounted tables columns counts → list_any (begins_with t) tables ≡ true
    → at_text counts t ≡ Some (length (filter (begins_with t) columns))
counted_at columns tables t counts are here = are t ∙ ap (λ b. cond b (Some (length (filter (begins_with t) columns))) None) here
