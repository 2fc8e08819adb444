-- What a list of places tells: just the cells that fail.
use Rattle.std.proofs.Common.{◌≡◌, ◌↔◌, ◌∙◌, ⊎_elim, ℕ, zero, suc, ◌+◌, ◌<◌, Bool, true, false, List, [], ◌∷◌, Option, Some, None, refl, sym, ap, subst, arith, cond, not}
use Rattle.std.specs.Prelude.{Contains, slice_get, slice_index_or}
use Rattle.std.specs.List.{enumerate_from, flat_map}
use Rattle.std.specs.Option.{option_map_or}
use Rattle.std.proofs.lemmas.List.Elements.{Contains-append_cases, Contains-append_left, Contains-append_right}
use Rattle.msi_listing.specs.Content.{CellContent, ColumnContent, ListingContent, TableContent, null, number, text, bytes}
use Rattle.package_rules.specs.Cells.{is_null}
use Rattle.package_rules.specs.Rules.{nullable_found}
use Rattle.package_rules.specs.Places.{fails_at, numbered, place_if, places_in_column, places_in_table, places_where}
use Rattle.package_rules.specs.Sentences.{FailsAt, IsUntakenNull}
use Rattle.package_rules.specs.declared.place.Place.{Place}

-- ---- numbered elements

told_in : {A B : Type 0} (f : ℕ → A → List B) (xs : List A) (i k j : ℕ) (x : A) (y : B) → j ≡ k + i → slice_get xs k ≡ Some x → Contains (f j x) y
    → Contains (flat_map (λ e. f e.0 e.1) (enumerate_from i xs)) y
told_in f [] i k j x y is at it = absurd (cc at)
told_in f (a ∷ xs) i zero j x y is at it =
    let number : j ≡ i = omega arith in
    let element : a ≡ x = cc at in
    Contains-append_left (f i a) _ y (subst (λ v. Contains (f i v) y) (sym element) (subst (λ n. Contains (f n x) y) number it))
told_in f (a ∷ xs) i (suc k) j x y is at it = Contains-append_right (f i a) _ y (told_in f xs (i + 1) k j x y (omega arith) at it)

told_out : {A B : Type 0} (f : ℕ → A → List B) (xs : List A) (i : ℕ) (y : B) → Contains (flat_map (λ e. f e.0 e.1) (enumerate_from i xs)) y
    → (k : ℕ) × (x : A) × (slice_get xs k ≡ Some x) × Contains (f (k + i) x) y
told_out f [] i y h = absurd (omega (arith, h.1))
told_out f (a ∷ xs) i y h =
    ⊎_elim
    (λ l. (0, a, refl, subst (λ n. Contains (f n a) y) (omega arith) l))
    (λ r. let t = told_out f xs (i + 1) y r in (suc t.0, t.1, t.2, subst (λ n. Contains (f n t.1) y) (omega arith) t.3))
    (Contains-append_cases (f i a) _ y h)

pub numbered_in : {A B : Type 0} (f : ℕ → A → List B) (xs : List A) (k : ℕ) (x : A) (y : B) → slice_get xs k ≡ Some x → Contains (f k x) y → Contains (numbered f xs) y
numbered_in f xs k x y at it = told_in f xs 0 k k x y (omega arith) at it

pub numbered_out : {A B : Type 0} (f : ℕ → A → List B) (xs : List A) (y : B) → Contains (numbered f xs) y → (k : ℕ) × (x : A) × (slice_get xs k ≡ Some x) × Contains (f k x) y
numbered_out f xs y h = let t = told_out f xs 0 y h in (t.0, t.1, t.2, subst (λ n. Contains (f n t.1) y) (omega arith) t.3)

-- ---- places

pub placed : (b : Bool) (i k j : ℕ) (at : Place) → Contains (place_if b i k j) at → (b ≡ true) × (at ≡ record { table = i; column = k; row = j })
placed true i k j at h = (refl, only h.0 h.1 h.2)
  where
    only : (n : ℕ) → n < 1 → slice_index_or (record { table = i; column = k; row = j } ∷ []) n at ≡ at → at ≡ record { table = i; column = k; row = j }
    only zero l e = sym e
    only (suc n) l e = absurd (omega arith)
placed false i k j at h = absurd (omega (arith, h.1))

spoken : {B : Type 0} (b : Bool) (xs : List B) (y : B) → Contains (cond b xs []) y → (b ≡ true) × Contains xs y
spoken true xs y h = (refl, h)
spoken false xs y h = absurd (omega (arith, h.1))

found_in : {A : Type 0} (p : A → Bool) (o : Option A) → option_map_or p o false ≡ true → (d : A) × (o ≡ Some d) × (p d ≡ true)
found_in p None h = absurd (cc h)
found_in p (Some d) h = (d, refl, h)

module _ (speaks : TableContent → ColumnContent → Bool) (fails : TableContent → ColumnContent → List CellContent → CellContent → Bool) (L : ListingContent) (at : Place) where
  cell_out : (i k j : ℕ) (t : TableContent) (c : ColumnContent) (row : List CellContent) (d : CellContent) → slice_get L.tables i ≡ Some t → slice_get t.columns k ≡ Some c
      → slice_get t.rows j ≡ Some row → slice_get row k ≡ Some d → at ≡ record { table = i; column = k; row = j } → speaks t c ≡ true → fails t c row d ≡ true → FailsAt speaks fails L at
  cell_out i k j t c row d it ic ir id here said fail = (
    record { table = t; column = c; row = row; cell = d },
    record {
      in_listing = ap (λ (p : Place). slice_get L.tables p.table) here ∙ it;
      in_columns = ap (λ (p : Place). slice_get t.columns p.column) here ∙ ic;
      in_rows = ap (λ (p : Place). slice_get t.rows p.row) here ∙ ir;
      in_row = ap (λ (p : Place). slice_get row p.column) here ∙ id;
    },
    said,
    fail,
  )

  row_out : (i k j : ℕ) (t : TableContent) (c : ColumnContent) (row : List CellContent) → slice_get L.tables i ≡ Some t → slice_get t.columns k ≡ Some c → slice_get t.rows j ≡ Some row
      → speaks t c ≡ true → (fails_at (fails t c) k row ≡ true) × (at ≡ record { table = i; column = k; row = j }) → FailsAt speaks fails L at
  row_out i k j t c row it ic ir said here = on (found_in (fails t c row) (slice_get row k) here.0)
    where
      on : (d : CellContent) × (slice_get row k ≡ Some d) × (fails t c row d ≡ true) → FailsAt speaks fails L at
      on d = cell_out i k j t c row d.0 it ic ir d.1 here.1 said d.2

  column_out : (i k : ℕ) (t : TableContent) (c : ColumnContent) → slice_get L.tables i ≡ Some t → slice_get t.columns k ≡ Some c
      → (speaks t c ≡ true) × Contains (places_in_column (fails t c) i k t.rows) at → FailsAt speaks fails L at
  column_out i k t c it ic h = on (numbered_out (λ j row. place_if (fails_at (fails t c) k row) i k j) t.rows at h.1)
    where
      on : (j : ℕ) × (row : List CellContent) × (slice_get t.rows j ≡ Some row) × Contains (place_if (fails_at (fails t c) k row) i k j) at → FailsAt speaks fails L at
      on r = row_out i k r.0 t c r.1 it ic r.2 h.0 (placed (fails_at (fails t c) k r.1) i k r.0 at r.3)

  table_out : (i : ℕ) (t : TableContent) → slice_get L.tables i ≡ Some t → Contains (places_in_table speaks fails i t) at → FailsAt speaks fails L at
  table_out i t it h = on (numbered_out (λ k c. cond (speaks t c) (places_in_column (fails t c) i k t.rows) []) t.columns at h)
    where
      on : (k : ℕ) × (c : ColumnContent) × (slice_get t.columns k ≡ Some c) × Contains (cond (speaks t c) (places_in_column (fails t c) i k t.rows) []) at → FailsAt speaks fails L at
      on r = column_out i r.0 t r.1 it r.2 (spoken (speaks t r.1) (places_in_column (fails t r.1) i r.0 t.rows) at r.3)

  pub cells_out : Contains (places_where speaks fails L) at → FailsAt speaks fails L at
  cells_out h = on (numbered_out (λ i t. places_in_table speaks fails i t) L.tables at h)
    where
      on : (i : ℕ) × (t : TableContent) × (slice_get L.tables i ≡ Some t) × Contains (places_in_table speaks fails i t) at → FailsAt speaks fails L at
      on r = table_out r.0 r.1 r.2 r.3

  pub cells_in : FailsAt speaks fails L at → Contains (places_where speaks fails L) at
  cells_in h =
      let it = h.0 in
      let t = it.table in
      let c = it.column in
      let there : fails_at (fails t c) at.column it.row ≡ true = ap (λ o. option_map_or (fails t c it.row) o false) h.1.in_row ∙ h.3 in
      let here : Contains (place_if (fails_at (fails t c) at.column it.row) at.table at.column at.row) at =
      subst (λ b. Contains (place_if b at.table at.column at.row) at) (sym there) (0, omega arith, refl) in
      let in_row = numbered_in (λ j row. place_if (fails_at (fails t c) at.column row) at.table at.column j) t.rows at.row it.row at h.1.in_rows here in
      let said : Contains (cond (speaks t c) (places_in_column (fails t c) at.table at.column t.rows) []) at =
      subst (λ b. Contains (cond b (places_in_column (fails t c) at.table at.column t.rows) []) at) (sym h.2) in_row in
      let in_column = numbered_in (λ k c'. cond (speaks t c') (places_in_column (fails t c') at.table k t.rows) []) t.columns at.column c at h.1.in_columns said in
      numbered_in (λ i t'. places_in_table speaks fails i t') L.tables at.table t at h.1.in_listing in_column

-- a list is empty just where nothing is told
pub none_told : {B : Type 0} (xs : List B) (S : B → Type 0) → ((y : B) → Contains xs y ↔ S y) → (xs ≡ []) ↔ ((y : B) → S y → ⊥)
none_told [] S told = (λ e y s. absurd (omega (arith, ((told y).1 s).1)), λ none. refl)
none_told (x ∷ xs) S told = (λ e y s. absurd (cc e), λ none. absurd (none x ((told x).0 (0, omega arith, refl))))

-- ---- nulls

pub no_null : (d : CellContent) → is_null d ≡ true → d ≡ null
no_null null h = refl
no_null (number z) h = absurd (cc h)
no_null (text t) h = absurd (cc h)
no_null bytes h = absurd (cc h)

not_true : (b : Bool) → not b ≡ true → b ≡ false
not_true true h = absurd (cc h)
not_true false h = refl

pub nullable_told : (L : ListingContent) (at : Place) → Contains (nullable_found L) at ↔ IsUntakenNull L at
nullable_told L at = (
  λ h. let f = cells_out (λ t c. not c.nullable) (λ t c row d. is_null d) L at h in (f.0, f.1, not_true _ f.2, no_null _ f.3),
  λ s. cells_in (λ t c. not c.nullable) (λ t c row d. is_null d) L at (s.0, s.1, ap not s.2, ap is_null s.3),
)
