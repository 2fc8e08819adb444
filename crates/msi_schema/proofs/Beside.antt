-- The columns of a table, where rows of others are put among the rows that describe it, or taken out, or stand in another order.
use Rattle.std.proofs.Common.{◌≡◌, ◌∙◌, ℕ, zero, suc, ◌+◌, Bool, true, false, cond, List, [], ◌∷◌, ◌++◌, length, map, take, append-nil, refl, subst, sym, ap, ap₂, arith, Option, Some, None, not, inl, inr}
use Rattle.std.specs.Prelude.{◌⊎◌, ◌&&◌, ◌||◌, ◌==◌, bytes_eq, filter, find, option_and_then, option_map, pos, sum_by, Contains, IsPermutation}
use Rattle.std.specs.Int.{w32, cast_unsigned}
use Rattle.std.specs.List.{list_any}
use Rattle.std.specs.Option.{option_or}
use Rattle.std.specs.Ordering.{is_eq}
use Rattle.std.specs.Cmp.Lexicographic.{lists_total}
use Rattle.std.proofs.lemmas.Bool.{and_parts}
use Rattle.std.proofs.lemmas.List.Elements.{filter-append}
use Rattle.std.proofs.lemmas.List.Folds.{find-append}
use Rattle.std.proofs.lemmas.List.Sorted.{Contains-permutation, IsPermutation-refl, IsPermutation-sym, sum_by-IsPermutation, sum_by_pushed}
use Rattle.std.proofs.lemmas.Slice.Eq.{bytes_eq-Decides}
use Rattle.msi_values.specs.Datum.{Datum, null, number, text, binary}
use Rattle.msi_values.proofs.DataOrder.{is_equal}
use Rattle.msi_columns.specs.Column.{Column}
use Rattle.msi_tables.specs.Schema.{begins_with, column_of_bits, column_read, columns_columns, columns_in, columns_name, columns_read, described_by, is_for, is_number, is_text, schema_of, tables_columns, tables_name}
use Rattle.msi_tables.specs.Table.{are_distinct, has_key, key_cmp}
use Rattle.msi_tables.proofs.Keys.{datum_cmp_total}
use Rattle.msi_schema.specs.Index.{has_first}
use Rattle.msi_schema.proofs.Indexed.{one_key}
use Rattle.msi_schema.proofs.Numbered.{others_found, own_found}

-- ---- members of lists

module _ {A : Type 0} where
  none_in : (x : A) → Contains [] x → ⊥
  none_in x h = let below = h.1 in omega (arith, below)

  here : (x : A) (xs : List A) → Contains (x ∷ xs) x
  here x xs = (0, omega arith, refl)

  there : (x y : A) (xs : List A) → Contains xs y → Contains (x ∷ xs) y
  there x y xs h = (suc h.0, (let below = h.1 in omega (arith, below)), h.2)

  in_cases : (x y : A) (xs : List A) → Contains (x ∷ xs) y → (x ≡ y) ⊎ Contains xs y
  in_cases x y xs (zero, below, is) = inl is
  in_cases x y xs (suc k, below, is) = inr (k, omega (arith, below), is)

  -- ---- the first that passes

  find_tells : (p : A → Bool) (xs : List A) (y : A) → find p xs ≡ Some y → Contains xs y × (p y ≡ true)
  find_tells p [] y e = absurd (cc)
  find_tells p (x ∷ xs) y e = go (p x) refl (find_tells p xs y) e
    where
      some_or : Option A → A
      some_or None = x
      some_or (Some z) = z

      go : (b : Bool) → p x ≡ b → (find p xs ≡ Some y → Contains xs y × (p y ≡ true)) → cond b (Some x) (find p xs) ≡ Some y → Contains (x ∷ xs) y × (p y ≡ true)
      go true is later e = let same : x ≡ y = ap some_or e in (subst (Contains (x ∷ xs)) same (here x xs), ap p (sym same) ∙ is)
      go false is later e = let rest = later e in (there x y xs rest.0, rest.1)

  find_denies : (p : A → Bool) (xs : List A) → find p xs ≡ None → (y : A) → Contains xs y → p y ≡ false
  find_denies p [] e y h = absurd (none_in y h)
  find_denies p (x ∷ xs) e y h = go (p x) refl (find_denies p xs) e (in_cases x y xs h)
    where
      go : (b : Bool) → p x ≡ b → (find p xs ≡ None → (y : A) → Contains xs y → p y ≡ false) → cond b (Some x) (find p xs) ≡ None → (x ≡ y) ⊎ Contains xs y → p y ≡ false
      go true is later e h = absurd (cc)
      go false is later e (inl same) = ap p (sym same) ∙ is
      go false is later e (inr h) = later e y h

  -- no two members pass
  abbrev AreSingle : (A → Bool) → List A → Type 0
  AreSingle p xs = (y z : A) → Contains xs y → Contains xs z → p y ≡ true → p z ≡ true → y ≡ z

  find_permuted : (p : A → Bool) (xs ys : List A) → IsPermutation xs ys → AreSingle p xs → find p ys ≡ find p xs
  find_permuted p xs ys moves single = go (find p xs) (find p ys) refl refl
    where
      go : (o q : Option A) → find p xs ≡ o → find p ys ≡ q → q ≡ o
      go None None e f = refl
      go None (Some z) e f =
          let told = find_tells p ys z f in
          let never : true ≡ false = sym told.1 ∙ find_denies p xs e z (Contains-permutation ys xs z (IsPermutation-sym xs ys moves) told.0) in
          absurd (cc)
      go (Some y) None e f =
          let told = find_tells p xs y e in
          let never : true ≡ false = sym told.1 ∙ find_denies p ys f y (Contains-permutation xs ys y moves told.0) in
          absurd (cc)
      go (Some y) (Some z) e f =
          let one = find_tells p xs y e in
          let two = find_tells p ys z f in
          ap (λ x. Some x) (single z y (Contains-permutation ys xs z (IsPermutation-sym xs ys moves) two.0) one.0 two.1 one.1)

  -- ---- how many pass

  abbrev one_if : (A → Bool) → A → ℕ
  one_if p x = cond (p x) 1 0

  length-filtered : (p : A → Bool) (xs : List A) → length (filter p xs) ≡ sum_by (one_if p) xs
  length-filtered p [] = refl
  length-filtered p (x ∷ xs) = go (p x) (length-filtered p xs) ∙ sym (sum_by_pushed (one_if p) x xs (x ∷ xs) (IsPermutation-refl (x ∷ xs)))
    where
      go : (b : Bool) → length (filter p xs) ≡ sum_by (one_if p) xs → length (cond b (x ∷ filter p xs) (filter p xs)) ≡ cond b 1 0 + sum_by (one_if p) xs
      go true e = omega (arith, e)
      go false e = omega (arith, e)

  length_permuted : (p : A → Bool) (xs ys : List A) → IsPermutation xs ys → length (filter p ys) ≡ length (filter p xs)
  length_permuted p xs ys moves = length-filtered p ys ∙ sum_by-IsPermutation (one_if p) xs ys moves ∙ sym (length-filtered p xs)

-- ---- keys that stand once

has_member : (key : List Datum) (rows : List (List Datum)) (z : List Datum) → Contains rows z → is_eq (key_cmp (take 2 z) key) ≡ true → has_key (map (take 2) rows) key ≡ true
has_member key [] z h e = absurd (none_in z h)
has_member key (x ∷ xs) z h e = go (in_cases x z xs h) (has_member key xs z)
  where
    or_true : (b : Bool) → (b || true) ≡ true
    or_true true = refl
    or_true false = refl

    go : (x ≡ z) ⊎ Contains xs z → (Contains xs z → is_eq (key_cmp (take 2 z) key) ≡ true → has_key (map (take 2) xs) key ≡ true) → (is_eq (key_cmp (take 2 x) key) || has_key (map (take 2) xs) key) ≡ true
    go (inl same) later = ap (λ b. b || has_key (map (take 2) xs) key) (ap (λ w. is_eq (key_cmp (take 2 w) key)) same ∙ e)
    go (inr h) later = ap (λ b. is_eq (key_cmp (take 2 x) key) || b) (later h e) ∙ or_true (is_eq (key_cmp (take 2 x) key))

-- two rows of one key have one key
both_first : (key x z : List Datum) → has_first 2 key x ≡ true → has_first 2 key z ≡ true → is_eq (key_cmp (take 2 z) (take 2 x)) ≡ true
both_first key x z e f =
    one_key (take 2 z) (take 2 x)
    ∙ ap is_eq ((lists_total datum_cmp_total).congr (take 2 x) key (take 2 z) (is_equal _ e))
    ∙ one_key key (take 2 z) ∙ f

single_first : (key : List Datum) (rows : List (List Datum)) → are_distinct (map (take 2) rows) ≡ true → AreSingle (has_first 2 key) rows
single_first key [] once y z h k e f = absurd (none_in y h)
single_first key (x ∷ xs) once y z h k e f =
    let parts = and_parts (not (has_key (map (take 2) xs) (take 2 x))) (are_distinct (map (take 2) xs)) once in
    go parts.0 (single_first key xs parts.1 y z) (in_cases x y xs h) (in_cases x z xs k)
  where
    never : not (has_key (map (take 2) xs) (take 2 x)) ≡ true → (w : List Datum) → Contains xs w → has_first 2 key x ≡ true → has_first 2 key w ≡ true → ⊥
    never alone w inside a b =
        let has = has_member (take 2 x) xs w inside (both_first key x w a b) in
        let wrong : not true ≡ true = ap not (sym has) ∙ alone in
        cc

    go : not (has_key (map (take 2) xs) (take 2 x)) ≡ true → (Contains xs y → Contains xs z → has_first 2 key y ≡ true → has_first 2 key z ≡ true → y ≡ z)
        → (x ≡ y) ⊎ Contains xs y → (x ≡ z) ⊎ Contains xs z → y ≡ z
    go alone later (inl same) (inl also) = sym same ∙ also
    go alone later (inl same) (inr k) = absurd (never alone z k (ap (has_first 2 key) same ∙ e) f)
    go alone later (inr h) (inl also) = absurd (never alone y h (ap (has_first 2 key) also ∙ f) e)
    go alone later (inr h) (inr k) = later h k e f

-- ---- columns that are read alike

abbrev next : List (List Datum) → List (List Datum) → ℕ → Option Column
next validation own n = option_and_then (column_read validation) (find (is_number n) own)

columns_alike : (validation validation' own own' : List (List Datum)) → ((n : ℕ) → next validation' own' n ≡ next validation own n) → (left n : ℕ)
    → columns_read validation' own' left n ≡ columns_read validation own left n
columns_alike validation validation' own own' alike zero n = refl
columns_alike validation validation' own own' alike (suc left) n =
    ap₂ (λ o q. option_and_then (λ c. option_map (λ cs. c ∷ cs) q) o) (alike n) (columns_alike validation validation' own own' alike left (suc n))

text_is : (s t : List ℕ) → bytes_eq s t ≡ true → s ≡ t
text_is s t e = (bytes_eq-Decides s t).0 e

read_alike : (validation validation' : List (List Datum)) (table : List ℕ) → ((name : List ℕ) → find (is_for table name) validation' ≡ find (is_for table name) validation)
    → (row : List Datum) → begins_with table row ≡ true → column_read validation' row ≡ column_read validation row
read_alike v w table alike [] e = refl
read_alike v w table alike (null ∷ ds) e = refl
read_alike v w table alike (number z ∷ ds) e = refl
read_alike v w table alike (binary ∷ ds) e = refl
read_alike v w table alike (text t ∷ []) e = refl
read_alike v w table alike (text t ∷ null ∷ ds) e = refl
read_alike v w table alike (text t ∷ text u ∷ ds) e = refl
read_alike v w table alike (text t ∷ binary ∷ ds) e = refl
read_alike v w table alike (text t ∷ number n ∷ []) e = refl
read_alike v w table alike (text t ∷ number n ∷ null ∷ ds) e = refl
read_alike v w table alike (text t ∷ number n ∷ number m ∷ ds) e = refl
read_alike v w table alike (text t ∷ number n ∷ binary ∷ ds) e = refl
read_alike v w table alike (text t ∷ number n ∷ text u ∷ []) e = refl
read_alike v w table alike (text t ∷ number n ∷ text u ∷ null ∷ ds) e = refl
read_alike v w table alike (text t ∷ number n ∷ text u ∷ text s ∷ ds) e = refl
read_alike v w table alike (text t ∷ number n ∷ text u ∷ binary ∷ ds) e = refl
read_alike v w table alike (text t ∷ number n ∷ text u ∷ number bits ∷ d ∷ ds) e = refl
read_alike v w table alike (text t ∷ number n ∷ text u ∷ number bits ∷ []) e =
    let found : find (is_for t u) w ≡ find (is_for t u) v =
    ap (λ x. find (is_for x u) w) (text_is t table e) ∙ alike u ∙ ap (λ x. find (is_for x u) v) (sym (text_is t table e)) in
    ap (λ o. option_and_then (described_by o) (column_of_bits u (cast_unsigned w32 bits))) found

-- a table's own rows begin with its name
next_alike : (validation validation' rows : List (List Datum)) (table : List ℕ) → ((name : List ℕ) → find (is_for table name) validation' ≡ find (is_for table name) validation)
    → (n : ℕ) → next validation' (filter (begins_with table) rows) n ≡ next validation (filter (begins_with table) rows) n
next_alike validation validation' rows table alike n = go (find (is_number n) (filter (begins_with table) rows)) refl
  where
    inside : (rows : List (List Datum)) (y : List Datum) → Contains (filter (begins_with table) rows) y → begins_with table y ≡ true
    inside [] y h = absurd (none_in y h)
    inside (x ∷ xs) y h = on (begins_with table x) refl (inside xs y) h
      where
        on : (b : Bool) → begins_with table x ≡ b → (Contains (filter (begins_with table) xs) y → begins_with table y ≡ true) → Contains (cond b (x ∷ filter (begins_with table) xs) (filter (begins_with table) xs)) y → begins_with table y ≡ true
        on true is later h = by (in_cases x y (filter (begins_with table) xs) h)
          where
            by : (x ≡ y) ⊎ Contains (filter (begins_with table) xs) y → begins_with table y ≡ true
            by (inl same) = ap (begins_with table) (sym same) ∙ is
            by (inr h) = later h
        on false is later h = later h

    go : (o : Option (List Datum)) → find (is_number n) (filter (begins_with table) rows) ≡ o → option_and_then (column_read validation') o ≡ option_and_then (column_read validation) o
    go None e = refl
    go (Some row) e = read_alike validation validation' table alike row (inside rows row (find_tells (is_number n) (filter (begins_with table) rows) row e).0)

-- as many own rows, and each column alike
schema_alike : (columns validation columns' validation' : List (List Datum)) (table : List ℕ) → length (filter (begins_with table) columns') ≡ length (filter (begins_with table) columns)
    → ((n : ℕ) → next validation' (filter (begins_with table) columns') n ≡ next validation (filter (begins_with table) columns) n) → schema_of columns' validation' table ≡ schema_of columns validation table
schema_alike columns validation columns' validation' table many alike =
    let own = filter (begins_with table) columns in
    let own' = filter (begins_with table) columns' in
    ap (λ k. cond (k == 0) None (columns_read validation' own' k 1)) many
    ∙ ap (cond (length own == 0) None) (columns_alike validation validation' own own' alike (length own) 1)

in_alike : (columns validation columns' validation' : List (List Datum)) (table : List ℕ) → schema_of columns' validation' table ≡ schema_of columns validation table
    → columns_in columns' validation' table ≡ columns_in columns validation table
in_alike columns validation columns' validation' table alike =
    ap (λ o. cond (bytes_eq table tables_name) (Some tables_columns) (cond (bytes_eq table columns_name) (Some columns_columns) o)) alike

-- ---- in another order

pub schema_moved : (columns columns' validation validation' : List (List Datum)) → IsPermutation columns columns' → IsPermutation validation validation'
    → are_distinct (map (take 2) columns) ≡ true → are_distinct (map (take 2) validation) ≡ true → (table : List ℕ) → schema_of columns' validation' table ≡ schema_of columns validation table
schema_moved columns columns' validation validation' moves also once alone table =
    let found : (name : List ℕ) → find (is_for table name) validation' ≡ find (is_for table name) validation = λ name.
    others_found table name validation' ∙ find_permuted (has_first 2 (text table ∷ text name ∷ [])) validation validation' also (single_first _ validation alone) ∙ sym (others_found table name validation) in
    let numbered : (n : ℕ) → find (is_number n) (filter (begins_with table) columns') ≡ find (is_number n) (filter (begins_with table) columns) = λ n.
    own_found table n columns' ∙ find_permuted (has_first 2 (text table ∷ number (pos n) ∷ [])) columns columns' moves (single_first _ columns once) ∙ sym (own_found table n columns) in
    schema_alike columns validation columns' validation' table (length_permuted (begins_with table) columns columns' moves)
    (λ n. ap (option_and_then (column_read validation')) (numbered n) ∙ next_alike validation validation' columns table found n)

pub moved : (columns columns' validation validation' : List (List Datum)) → IsPermutation columns columns' → IsPermutation validation validation'
    → are_distinct (map (take 2) columns) ≡ true → are_distinct (map (take 2) validation) ≡ true → (table : List ℕ) → columns_in columns' validation' table ≡ columns_in columns validation table
moved columns columns' validation validation' moves also once alone table =
    in_alike columns validation columns' validation' table (schema_moved columns columns' validation validation' moves also once alone table)

-- ---- beside others

none_pass : {A : Type 0} (p : A → Bool) (xs : List A) → list_any p xs ≡ false → filter p xs ≡ []
none_pass p [] e = refl
none_pass p (x ∷ xs) e = go (p x) e (none_pass p xs)
  where
    go : (b : Bool) → (b || list_any p xs) ≡ false → (list_any p xs ≡ false → filter p xs ≡ []) → cond b (x ∷ filter p xs) (filter p xs) ≡ []
    go true e later = absurd (cc)
    go false e later = later e

for_none : (table name : List ℕ) (rows : List (List Datum)) → list_any (begins_with table) rows ≡ false → find (is_for table name) rows ≡ None
for_none table name [] e = refl
for_none table name (x ∷ xs) e = go (begins_with table x) refl e (for_none table name xs)
  where
    not_for : (row : List Datum) → begins_with table row ≡ false → is_for table name row ≡ false
    not_for [] e = refl
    not_for (d ∷ []) e = refl
    not_for (d ∷ f ∷ ds) e = ap (λ b. b && is_text name f) e

    go : (b : Bool) → begins_with table x ≡ b → (b || list_any (begins_with table) xs) ≡ false → (list_any (begins_with table) xs ≡ false → find (is_for table name) xs ≡ None)
        → cond (is_for table name x) (Some x) (find (is_for table name) xs) ≡ None
    go true is e later = absurd (cc)
    go false is e later = ap (λ b. cond b (Some x) (find (is_for table name) xs)) (not_for x is) ∙ later e

pub schema_added : (columns more validation also : List (List Datum)) (table : List ℕ) → list_any (begins_with table) more ≡ false → list_any (begins_with table) also ≡ false
    → schema_of (columns ++ more) (validation ++ also) table ≡ schema_of columns validation table
schema_added columns more validation also table none nor =
    let own : filter (begins_with table) (columns ++ more) ≡ filter (begins_with table) columns =
    filter-append (begins_with table) columns more ∙ ap (λ xs. filter (begins_with table) columns ++ xs) (none_pass (begins_with table) more none) ∙ append-nil (filter (begins_with table) columns) in
    let found : (name : List ℕ) → find (is_for table name) (validation ++ also) ≡ find (is_for table name) validation = λ name.
    find-append (is_for table name) validation also ∙ ap (option_or (find (is_for table name) validation)) (for_none table name also nor) ∙ or_none (find (is_for table name) validation) in
    schema_alike columns validation (columns ++ more) (validation ++ also) table (ap length own)
    (λ n. ap (λ rows. next (validation ++ also) rows n) own ∙ next_alike validation (validation ++ also) columns table found n)
  where
    or_none : {A : Type 0} (o : Option A) → option_or o None ≡ o
    or_none None = refl
    or_none (Some x) = refl

pub added : (columns more validation also : List (List Datum)) (table : List ℕ) → list_any (begins_with table) more ≡ false → list_any (begins_with table) also ≡ false
    → columns_in (columns ++ more) (validation ++ also) table ≡ columns_in columns validation table
added columns more validation also table none nor = in_alike columns validation (columns ++ more) (validation ++ also) table (schema_added columns more validation also table none nor)

-- ---- without others

abbrev without : List ℕ → List (List Datum) → List (List Datum)
without other rows = filter (λ row. not (begins_with other row)) rows

-- a row begins with one name alone
pub begins_once : (table other : List ℕ) → bytes_eq table other ≡ false → (row : List Datum) → begins_with other row ≡ true → begins_with table row ≡ false
begins_once table other apart [] e = refl
begins_once table other apart (null ∷ ds) e = refl
begins_once table other apart (number z ∷ ds) e = refl
begins_once table other apart (binary ∷ ds) e = refl
begins_once table other apart (text t ∷ ds) e = go (bytes_eq t table) refl
  where
    go : (b : Bool) → bytes_eq t table ≡ b → b ≡ false
    go false same = refl
    go true same =
        let one : table ≡ other = sym (text_is t table same) ∙ text_is t other e in
        let never : true ≡ false = sym ((bytes_eq-Decides table other).1 one) ∙ apart in
        absurd (cc)

own_without : (table other : List ℕ) → bytes_eq table other ≡ false → (rows : List (List Datum)) → filter (begins_with table) (without other rows) ≡ filter (begins_with table) rows
own_without table other apart [] = refl
own_without table other apart (x ∷ xs) = go (begins_with other x) refl (own_without table other apart xs)
  where
    go : (b : Bool) → begins_with other x ≡ b → filter (begins_with table) (without other xs) ≡ filter (begins_with table) xs
        → filter (begins_with table) (cond (not b) (x ∷ without other xs) (without other xs)) ≡ cond (begins_with table x) (x ∷ filter (begins_with table) xs) (filter (begins_with table) xs)
    go true is later = later ∙ ap (λ b. cond b (x ∷ filter (begins_with table) xs) (filter (begins_with table) xs)) (sym (begins_once table other apart x is))
    go false is later = ap (λ ys. cond (begins_with table x) (x ∷ ys) ys) later

for_without : (table other name : List ℕ) → bytes_eq table other ≡ false → (rows : List (List Datum)) → find (is_for table name) (without other rows) ≡ find (is_for table name) rows
for_without table other name apart [] = refl
for_without table other name apart (x ∷ xs) = go (begins_with other x) refl (for_without table other name apart xs)
  where
    not_for : (row : List Datum) → begins_with table row ≡ false → is_for table name row ≡ false
    not_for [] e = refl
    not_for (d ∷ []) e = refl
    not_for (d ∷ f ∷ ds) e = ap (λ b. b && is_text name f) e

    go : (b : Bool) → begins_with other x ≡ b → find (is_for table name) (without other xs) ≡ find (is_for table name) xs
        → find (is_for table name) (cond (not b) (x ∷ without other xs) (without other xs)) ≡ cond (is_for table name x) (Some x) (find (is_for table name) xs)
    go true is later = later ∙ ap (λ b. cond b (Some x) (find (is_for table name) xs)) (sym (not_for x (begins_once table other apart x is)))
    go false is later = ap (cond (is_for table name x) (Some x)) later

pub schema_taken : (columns validation : List (List Datum)) (table other : List ℕ) → bytes_eq table other ≡ false
    → schema_of (without other columns) (without other validation) table ≡ schema_of columns validation table
schema_taken columns validation table other apart =
    let own = own_without table other apart columns in
    schema_alike columns validation (without other columns) (without other validation) table (ap length own)
    (λ n. ap (λ rows. next (without other validation) rows n) own ∙ next_alike validation (without other validation) columns table (λ name. for_without table other name apart validation) n)

pub taken : (columns validation : List (List Datum)) (table other : List ℕ) → bytes_eq table other ≡ false
    → columns_in (without other columns) (without other validation) table ≡ columns_in columns validation table
taken columns validation table other apart =
    in_alike columns validation (without other columns) (without other validation) table (schema_taken columns validation table other apart)
