-- Rows of _Columns and _Validation, found by their first two values.
use Rattle.std.proofs.Common.{◌≡◌, ◌∙◌, ℕ, suc, ◌-◌, Bool, true, false, cond, List, [], ◌∷◌, ◌++◌, get_or, append-nil, append_assoc, refl, subst, sym, ap, ap₂, arith, Option, Some, None, Result, Ok, Err, Vec}
use Rattle.std.specs.Prelude.{◌&&◌, ◌==◌, bytes_eq, filter, find, option_and_then, option_map, ℤ, pos, negsuc}
use Rattle.std.specs.Ordering.{int_cmp, is_eq, nat_cmp, ordering_then}
use Rattle.std.specs.Cmp.Lexicographic.{slice_cmp}
use Rattle.std.specs.declared.cmp.Ordering.{Ordering}
use Rattle.std.specs.declared.cmp.Ordering.TheVariants.{Less, Equal, Greater}
use Rattle.std.proofs.lemmas.Bool.Decides.{nat_tests}
use Rattle.std.proofs.lemmas.Map.Text.{is_eq-slice_cmp}
use Rattle.msi_values.specs.Datum.{Datum, null, number, text, binary}
use Rattle.msi_columns.specs.Column.{Column}
use Rattle.cfb_medium.specs.declared.error.Error.{Error}
use Rattle.cfb_medium.specs.declared.error.Error.TheVariants.{InvalidData}
use Rattle.std.specs.Int.{w32, cast_unsigned}
use Rattle.std.proofs.lemmas.Slice.Eq.{bytes_eq-Decides}
use Rattle.msi_texts.specs.Results.{ReturnsOrOutOfMemory, or_refused}
use Rattle.msi_columns.specs.Held.{column_of, columns_of}
use Rattle.std.specs.declared.alloc.Global.{Global}
use Rattle.msi_columns.specs.declared.column.Column.{Column as HeldColumn}
use Rattle.msi_tables.specs.Schema.{begins_with, column_of_bits, column_read, columns_read, described_by, is_for, is_number}
use Rattle.msi_schema.specs.Columns.{column_by, head_in, number_in, text_in}
use Rattle.msi_schema.specs.Index.{has_first}
use Rattle.msi_schema.proofs.Rows.{headless}

pub less_then : (o : Ordering) (p : Ordering) → is_eq (ordering_then o p) ≡ (is_eq o && is_eq p)
less_then Less p = refl
less_then Equal p = refl
less_then Greater p = refl

and_false : (b : Bool) → (b && false) ≡ false
and_false true = refl
and_false false = refl

and_true : (b : Bool) → (b && true) ≡ b
and_true true = refl
and_true false = refl

same_number : (m n : ℕ) → is_eq (int_cmp (pos m) (pos n)) ≡ (m == n)
same_number m n = grind (arith, nat_tests)

pub same_text : (s t : List ℕ) → is_eq (slice_cmp nat_cmp s t) ≡ bytes_eq s t
same_text = is_eq-slice_cmp

-- what stands behind a text
behind : (s t : List ℕ) (o : Ordering) (b : Bool) → is_eq o ≡ b → is_eq (ordering_then (slice_cmp nat_cmp s t) o) ≡ (bytes_eq s t && b)
behind s t o b e = less_then (slice_cmp nat_cmp s t) o ∙ ap₂ (λ x y. x && y) (same_text s t) e

-- the row of a number
pub number_found : (t : List ℕ) (n : ℕ) (row : List Datum) → has_first 2 (text t ∷ number (pos n) ∷ []) row ≡ (begins_with t row && is_number n row)
number_found t n [] = refl
number_found t n (null ∷ ds) = refl
number_found t n (number z ∷ ds) = refl
number_found t n (binary ∷ ds) = refl
number_found t n (text s ∷ []) = behind s t Less false refl
number_found t n (text s ∷ null ∷ ds) = behind s t Less false refl
number_found t n (text s ∷ text u ∷ ds) = behind s t Greater false refl
number_found t n (text s ∷ binary ∷ ds) = behind s t Greater false refl
number_found t n (text s ∷ number (pos m) ∷ ds) = behind s t (ordering_then (int_cmp (pos m) (pos n)) Equal) (m == n) (less_then (int_cmp (pos m) (pos n)) Equal ∙ and_true (is_eq (int_cmp (pos m) (pos n))) ∙ same_number m n)
number_found t n (text s ∷ number (negsuc m) ∷ ds) = behind s t Less false refl

-- the row for a column
pub name_found : (t name : List ℕ) (row : List Datum) → has_first 2 (text t ∷ text name ∷ []) row ≡ is_for t name row
name_found t name [] = refl
name_found t name (null ∷ []) = refl
name_found t name (number z ∷ []) = refl
name_found t name (binary ∷ []) = refl
name_found t name (text s ∷ []) = behind s t Less false refl ∙ and_false (bytes_eq s t)
name_found t name (null ∷ d ∷ ds) = refl
name_found t name (number z ∷ d ∷ ds) = refl
name_found t name (binary ∷ d ∷ ds) = refl
name_found t name (text s ∷ null ∷ ds) = behind s t Less false refl
name_found t name (text s ∷ number z ∷ ds) = behind s t Less false refl
name_found t name (text s ∷ binary ∷ ds) = behind s t Greater false refl
name_found t name (text s ∷ text u ∷ ds) = behind s t (ordering_then (slice_cmp nat_cmp u name) Equal) (bytes_eq u name) (less_then (slice_cmp nat_cmp u name) Equal ∙ and_true (is_eq (slice_cmp nat_cmp u name)) ∙ same_text u name)

-- the first of a table's rows with a number
pub own_found : (t : List ℕ) (n : ℕ) (rows : List (List Datum)) → find (is_number n) (filter (begins_with t) rows) ≡ find (has_first 2 (text t ∷ number (pos n) ∷ [])) rows
own_found t n [] = refl
own_found t n (r ∷ rs) = on (begins_with t r) refl (own_found t n rs)
  where
    on : (b : Bool) → begins_with t r ≡ b → find (is_number n) (filter (begins_with t) rs) ≡ find (has_first 2 (text t ∷ number (pos n) ∷ [])) rs
        → find (is_number n) (cond b (r ∷ filter (begins_with t) rs) (filter (begins_with t) rs)) ≡ cond (has_first 2 (text t ∷ number (pos n) ∷ []) r) (Some r) (find (has_first 2 (text t ∷ number (pos n) ∷ [])) rs)
    on true e h = ap₂ (λ x o. cond x (Some r) o) (sym (number_found t n r ∙ ap (λ b. b && is_number n r) e)) h
    on false e h = h ∙ ap (λ x. cond x (Some r) (find (has_first 2 (text t ∷ number (pos n) ∷ [])) rs)) (sym (number_found t n r ∙ ap (λ b. b && is_number n r) e))

pub others_found : (t name : List ℕ) (rows : List (List Datum)) → find (is_for t name) rows ≡ find (has_first 2 (text t ∷ text name ∷ [])) rows
others_found t name [] = refl
others_found t name (r ∷ rs) = ap₂ (λ b o. cond b (Some r) o) (sym (name_found t name r)) (others_found t name rs)

-- ---- the column of a row

passes : {A : Type 0} (p : A → Bool) (xs : List A) (y : A) → find p xs ≡ Some y → p y ≡ true
passes {A = A} p [] y e = absurd (cc)
passes {A = A} p (x ∷ xs) y e = on (p x) refl (passes p xs y) e
  where
    here : Option A → A
    here None = x
    here (Some z) = z

    on : (b : Bool) → p x ≡ b → (find p xs ≡ Some y → p y ≡ true) → cond b (Some x) (find p xs) ≡ Some y → p y ≡ true
    on true is rest e = let same : x ≡ y = ap here e in ap p (sym same) ∙ is
    on false is rest e = rest e

abbrev head_with : List ℕ → ℤ → List ℕ × ℤ
head_with t z = (t, z)

pub no_name : (ds : List Datum) → None ≡ text_in (get_or ds 2 null) → head_in ds ≡ None
no_name [] e = refl
no_name (a ∷ []) e = refl
no_name (a ∷ b ∷ []) e = refl
no_name (a ∷ b ∷ c ∷ []) e = refl
no_name (a ∷ b ∷ c ∷ d ∷ []) e = on (text_in a) (number_in b) (text_in c) e
  where
    on : (o : Option (List ℕ)) (q : Option ℤ) (r : Option (List ℕ)) → None ≡ r
        → option_and_then (λ _. option_and_then (λ _. option_and_then (λ t. option_map (head_with t) (number_in d)) r) q) o ≡ None
    on None q r e = refl
    on (Some x) None r e = refl
    on (Some x) (Some y) None e = refl
    on (Some x) (Some y) (Some z) e = absurd (cc)
no_name (a ∷ b ∷ c ∷ d ∷ f ∷ ds) e = refl

-- what is read of a row that begins with the table and has the name
pub read_as_found : (others : List (List Datum)) (t name : List ℕ) (ds : List Datum) → begins_with t ds ≡ true → Some name ≡ text_in (get_or ds 2 null)
    → column_read others ds ≡ column_by (find (is_for t name) others) ds
read_as_found others t name ds begins has = on (head_in ds) refl
  where
    texts : Option (List ℕ) → List ℕ
    texts None = []
    texts (Some x) = x

    whole : (ds : List Datum) → begins_with t ds ≡ true → Some name ≡ text_in (get_or ds 2 null) → (head : List ℕ × ℤ) → head_in ds ≡ Some head → column_read others ds ≡ column_by (find (is_for t name) others) ds
    whole [] b h head e = absurd (cc)
    whole (a ∷ []) b h head e = absurd (cc)
    whole (a ∷ c ∷ []) b h head e = absurd (cc)
    whole (a ∷ c ∷ d ∷ []) b h head e = absurd (cc)
    whole (a ∷ c ∷ d ∷ f ∷ g ∷ ds) b h head e = absurd (cc)
    whole (null ∷ c ∷ d ∷ f ∷ []) b h head e = absurd (cc)
    whole (number z ∷ c ∷ d ∷ f ∷ []) b h head e = absurd (cc)
    whole (binary ∷ c ∷ d ∷ f ∷ []) b h head e = absurd (cc)
    whole (text s ∷ null ∷ d ∷ f ∷ []) b h head e = absurd (cc)
    whole (text s ∷ text u ∷ d ∷ f ∷ []) b h head e = absurd (cc)
    whole (text s ∷ binary ∷ d ∷ f ∷ []) b h head e = absurd (cc)
    whole (text s ∷ number z ∷ null ∷ f ∷ []) b h head e = absurd (cc)
    whole (text s ∷ number z ∷ number y ∷ f ∷ []) b h head e = absurd (cc)
    whole (text s ∷ number z ∷ binary ∷ f ∷ []) b h head e = absurd (cc)
    whole (text s ∷ number z ∷ text u ∷ null ∷ []) b h head e = absurd (cc)
    whole (text s ∷ number z ∷ text u ∷ text w ∷ []) b h head e = absurd (cc)
    whole (text s ∷ number z ∷ text u ∷ binary ∷ []) b h head e = absurd (cc)
    whole (text s ∷ number z ∷ text u ∷ number y ∷ []) b h head e =
        let one : s ≡ t = grind (arith, bytes_eq-Decides s t, b) in
        let two : u ≡ name = ap texts (sym h) in
        ap (λ x. column_by (find (is_for x u) others) (text s ∷ number z ∷ text u ∷ number y ∷ [])) one
        ∙ ap (λ x. column_by (find (is_for t x) others) (text s ∷ number z ∷ text u ∷ number y ∷ [])) two

    on : (o : Option (List ℕ × ℤ)) → head_in ds ≡ o → column_read others ds ≡ column_by (find (is_for t name) others) ds
    on None e = headless others ds e ∙ sym (ap (option_and_then (λ head. option_and_then (described_by (find (is_for t name) others)) (column_of_bits head.0 (cast_unsigned w32 head.1)))) e)
    on (Some head) e = whole ds begins has head e

module _ (rows others : List (List Datum)) (t : List ℕ) (n : ℕ) where
  abbrev expected : Result Column Error
  expected = or_refused (option_and_then (column_read others) (find (is_number n) (filter (begins_with t) rows))) InvalidData

  -- no row has the number
  pub no_row : find (has_first 2 (text t ∷ number (pos n) ∷ [])) rows ≡ None → expected ≡ Err InvalidData
  no_row none = ap (λ o. or_refused (option_and_then (column_read others) o) InvalidData) (own_found t n rows ∙ none)

  module _ (ds : List Datum) (is : find (has_first 2 (text t ∷ number (pos n) ∷ [])) rows ≡ Some ds) where
    found_so : expected ≡ or_refused (column_read others ds) InvalidData
    found_so = ap (λ o. or_refused (option_and_then (column_read others) o) InvalidData) (own_found t n rows ∙ is)

    -- its row has no name
    pub nameless : None ≡ text_in (get_or ds 2 null) → expected ≡ Err InvalidData
    nameless none = found_so ∙ ap (λ o. or_refused o InvalidData) (headless others ds (no_name ds none))

    -- its row has a name
    pub named_so : (name : List ℕ) → Some name ≡ text_in (get_or ds 2 null) → (says : Option (List Datum)) → says ≡ find (has_first 2 (text t ∷ text name ∷ [])) others
        → expected ≡ or_refused (column_by says ds) InvalidData
    named_so name has says also =
        let begins : begins_with t ds ≡ true = first (begins_with t ds) (is_number n ds) (sym (number_found t n ds) ∙ passes (has_first 2 (text t ∷ number (pos n) ∷ [])) rows ds is) in
        found_so ∙ ap (λ o. or_refused o InvalidData) (read_as_found others t name ds begins has)
        ∙ ap (λ v. or_refused (column_by v ds) InvalidData) (others_found t name others ∙ sym also)
      where
        first : (a b : Bool) → (a && b) ≡ true → a ≡ true
        first true b e = refl
        first false b e = e

-- what answers one definition answers another that is the same
pub answers_so : (r : Result HeldColumn Error) (e f : Result Column Error) → e ≡ f → ReturnsOrOutOfMemory column_of r f → ReturnsOrOutOfMemory column_of r e
answers_so r e f same told = subst (ReturnsOrOutOfMemory column_of r) (sym same) told

-- ---- columns one after the other

abbrev error_in : Error → Result Column Error → Error
error_in e (Ok x) = e
error_in e (Err f) = f

module _ (others own : List (List Datum)) where
  abbrev pub next : ℕ → Option Column
  next n = option_and_then (column_read others) (find (is_number n) own)

  abbrev pub rest_of : List Column → ℕ → ℕ → Option (List Column)
  rest_of done left n = option_map (λ cs. done ++ cs) (columns_read others own left n)

  pub at_first : (count : ℕ) → rest_of [] (count - 0) 1 ≡ columns_read others own count 1
  at_first count = ap (λ m. rest_of [] m 1) none ∙ same (columns_read others own count 1)
    where
      none : count - 0 ≡ count
      none = omega arith

      same : (o : Option (List Column)) → option_map (λ cs. [] ++ cs) o ≡ o
      same None = refl
      same (Some cs) = refl

  pub one_read : (done : List Column) (left n : ℕ) (c : Column) (all : Option (List Column)) → or_refused (next n) InvalidData ≡ Ok c → rest_of done (suc left) n ≡ all → rest_of (done ++ c ∷ []) left (suc n) ≡ all
  one_read done left n c all has is = on (next n) refl has
    where
      sure : (o : Option (List Column)) → option_map (λ cs. (done ++ c ∷ []) ++ cs) o ≡ option_map (λ cs. done ++ cs) (option_map (λ cs. c ∷ cs) o)
      sure None = refl
      sure (Some cs) = ap (λ x. Some x) (append_assoc done (c ∷ []) cs)

      column_in : Result Column Error → Column
      column_in (Ok x) = x
      column_in (Err e) = c

      on : (o : Option Column) → next n ≡ o → or_refused o InvalidData ≡ Ok c → rest_of (done ++ c ∷ []) left (suc n) ≡ all
      on None e h = absurd (cc)
      on (Some x) e h =
          let same : x ≡ c = ap column_in h in
          sure (columns_read others own left (suc n))
          ∙ ap (λ y. option_map (λ cs. done ++ cs) (option_map (λ cs. y ∷ cs) (columns_read others own left (suc n)))) (sym same)
          ∙ sym (ap (λ o. option_map (λ cs. done ++ cs) (option_and_then (λ y. option_map (λ cs. y ∷ cs) (columns_read others own left (suc n))) o)) e) ∙ is

  pub none_read : (done : List Column) (left n : ℕ) (e : Error) (all : Option (List Column)) → or_refused (next n) InvalidData ≡ Err e → rest_of done (suc left) n ≡ all → or_refused all InvalidData ≡ Err e
  none_read done left n e all has is = on (next n) refl has
    where
      on : (o : Option Column) → next n ≡ o → or_refused o InvalidData ≡ Err e → or_refused all InvalidData ≡ Err e
      on None f h =
          ap (λ o. or_refused o InvalidData)
          (sym is ∙ ap (λ o. option_map (λ cs. done ++ cs) (option_and_then (λ y. option_map (λ cs. y ∷ cs) (columns_read others own left (suc n))) o)) f) ∙ ap (λ x. Err x) (ap (error_in e) h)
      on (Some x) f h = absurd (cc)

  pub all_read : (done : List Column) (n : ℕ) (all : Option (List Column)) → rest_of done 0 n ≡ all → or_refused all InvalidData ≡ Ok done
  all_read done n all is = ap (λ o. or_refused o InvalidData) (sym is) ∙ ap (λ cs. Ok cs) (append-nil done)

pub all_answers_so : (r : Result (Vec HeldColumn Global) Error) (e f : Result (List Column) Error) → e ≡ f → ReturnsOrOutOfMemory (λ cs. columns_of cs.items) r f → ReturnsOrOutOfMemory (λ cs. columns_of cs.items) r e
all_answers_so r e f same told = subst (ReturnsOrOutOfMemory (λ (cs : Vec HeldColumn Global). columns_of cs.items) r) (sym same) told
