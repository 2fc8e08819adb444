-- What the list of broken keys tells.
use Rattle.std.proofs.Common.{◌≡◌, ◌↔◌, ◌∙◌, ◌⊎◌, ⊎_elim, inl, inr, ℕ, zero, suc, ◌<◌, Bool, true, false, List, [], ◌∷◌, Option, Some, None, map, take, refl, sym, ap, ap₂, not, subst, arith}
use Rattle.std.specs.Prelude.{Contains, slice_get, position, ◌&&◌, ◌||◌}
use Rattle.std.specs.List.{list_any}
use Rattle.std.specs.Option.{option_map_or}
use Rattle.std.proofs.lemmas.List.Elements.{Contains-append_cases, Contains-append_left, Contains-append_right}
use Rattle.msi_listing.specs.Content.{CellContent, ListingContent, TableContent}
use Rattle.package_rules.specs.Cells.{is_null}
use Rattle.package_rules.specs.Keys.{has_key, key_cells, repeated_found, repeated_in, repeated_rows, same_key}
use Rattle.package_rules.specs.Places.{place_if, places_where}
use Rattle.package_rules.specs.Rules.{key_found}
use Rattle.package_rules.specs.Sentences.{IsNullKey, RepeatsKey}
use Rattle.package_rules.specs.declared.place.Place.{Place}
use Rattle.package_rules.proofs.CellOrder.{key_itself, one_key}
use Rattle.package_rules.proofs.Told.{cells_in, cells_out, no_null, numbered_in, numbered_out, placed}

-- an element before a number that passes
any_out : {A B : Type 0} (f : A → B) (p : B → Bool) (xs : List A) (j : ℕ) → list_any p (map f (take j xs)) ≡ true
    → (n : ℕ) × (x : A) × (n < j) × (slice_get xs n ≡ Some x) × (p (f x) ≡ true)
any_out f p [] zero h = absurd (cc h)
any_out f p [] (suc j) h = absurd (cc h)
any_out f p (x ∷ xs) zero h = absurd (cc h)
any_out {A} {B} f p (x ∷ xs) (suc j) h = on (p (f x)) refl h (λ more. any_out f p xs j more)
  where
    on : (b : Bool) → p (f x) ≡ b → (b || list_any p (map f (take j xs))) ≡ true
        → (list_any p (map f (take j xs)) ≡ true → (n : ℕ) × (y : A) × (n < j) × (slice_get xs n ≡ Some y) × (p (f y) ≡ true))
        → (n : ℕ) × (y : A) × (n < suc j) × (slice_get (x ∷ xs) n ≡ Some y) × (p (f y) ≡ true)
    on true e h rest = (0, x, omega arith, refl, e)
    on false e h rest = further (rest h)
      where
        further : (n : ℕ) × (y : A) × (n < j) × (slice_get xs n ≡ Some y) × (p (f y) ≡ true) → (n : ℕ) × (y : A) × (n < suc j) × (slice_get (x ∷ xs) n ≡ Some y) × (p (f y) ≡ true)
        further t = (suc t.0, t.1, omega (arith, t.2), t.3, t.4)

any_in : {A B : Type 0} (f : A → B) (p : B → Bool) (xs : List A) (j n : ℕ) (x : A) → n < j → slice_get xs n ≡ Some x → p (f x) ≡ true → list_any p (map f (take j xs)) ≡ true
any_in f p [] j n x l at h = absurd (cc at)
any_in f p (y ∷ ys) zero n x l at h = absurd (omega arith)
any_in f p (y ∷ ys) (suc j) zero x l at h = ap (λ b. b || list_any p (map f (take j ys))) (ap (λ v. p (f v)) (some_one y x at) ∙ h)
  where
    some_one : {A : Type 0} (a b : A) → Some a ≡ Some b → a ≡ b
    some_one a b e = cc e
any_in f p (y ∷ ys) (suc j) (suc n) x l at h = ap (λ b. p (f y) || b) (any_in f p ys j n x (omega arith) at h) ∙ or_true (p (f y))
  where
    or_true : (b : Bool) → (b || true) ≡ true
    or_true true = refl
    or_true false = refl

and_none : (a b : Bool) → (a && not b) ≡ true → (a ≡ true) × (b ≡ false)
and_none true true h = absurd (cc h)
and_none true false h = (refl, refl)
and_none false b h = absurd (cc h)

optional : {B : Type 0} (f : ℕ → List B) (o : Option ℕ) (y : B) → Contains (option_map_or f o []) y → (k : ℕ) × (o ≡ Some k) × Contains (f k) y
optional f None y h = absurd (omega (arith, h.1))
optional f (Some k) y h = (k, refl, h)

module _ (L : ListingContent) (at : Place) where
  other_out : (i k j : ℕ) (t : TableContent) (row : List CellContent) → slice_get L.tables i ≡ Some t → position (λ c. c.key) t.columns ≡ Some k → slice_get t.rows j ≡ Some row
      → at ≡ record { table = i; column = k; row = j }
      → (n : ℕ) × (x : List CellContent) × (n < j) × (slice_get t.rows n ≡ Some x) × (same_key (key_cells t.columns x) (key_cells t.columns row) ≡ true) → RepeatsKey L at
  other_out i k j t row it ik ir here o = record {
    table = t;
    row = row;
    before = o.0;
    other = o.1;
    in_listing = ap (λ (p : Place). slice_get L.tables p.table) here ∙ it;
    first = ik ∙ ap (λ (p : Place). Some p.column) (sym here);
    in_rows = ap (λ (p : Place). slice_get t.rows p.row) here ∙ ir;
    earlier = subst (λ (p : Place). o.0 < p.row) (sym here) o.2;
    there = o.3;
    same = one_key (key_cells t.columns o.1) (key_cells t.columns row) o.4;
  }

  row_out : (i k j : ℕ) (t : TableContent) (row : List CellContent) → slice_get L.tables i ≡ Some t → position (λ c. c.key) t.columns ≡ Some k → slice_get t.rows j ≡ Some row
      → (has_key (map (key_cells t.columns) (take j t.rows)) (key_cells t.columns row) ≡ true) × (at ≡ record { table = i; column = k; row = j }) → RepeatsKey L at
  row_out i k j t row it ik ir h = other_out i k j t row it ik ir h.1 (any_out (key_cells t.columns) (λ x. same_key x (key_cells t.columns row)) t.rows j h.0)

  rows_out : (i k : ℕ) (t : TableContent) → slice_get L.tables i ≡ Some t → position (λ c. c.key) t.columns ≡ Some k → Contains (repeated_rows i t k) at → RepeatsKey L at
  rows_out i k t it ik h = on (numbered_out (λ j row. place_if (has_key (map (key_cells t.columns) (take j t.rows)) (key_cells t.columns row)) i k j) t.rows at h)
    where
      on : (j : ℕ) × (row : List CellContent) × (slice_get t.rows j ≡ Some row)
          × Contains (place_if (has_key (map (key_cells t.columns) (take j t.rows)) (key_cells t.columns row)) i k j) at → RepeatsKey L at
      on r = row_out i k r.0 t r.1 it ik r.2 (placed (has_key (map (key_cells t.columns) (take r.0 t.rows)) (key_cells t.columns r.1)) i k r.0 at r.3)

  table_out : (i : ℕ) (t : TableContent) → slice_get L.tables i ≡ Some t → Contains (repeated_in i t) at → RepeatsKey L at
  table_out i t it h = on (optional (repeated_rows i t) (position (λ c. c.key) t.columns) at h)
    where
      on : (k : ℕ) × (position (λ c. c.key) t.columns ≡ Some k) × Contains (repeated_rows i t k) at → RepeatsKey L at
      on r = rows_out i r.0 t it r.1 r.2

  repeated_out : Contains (repeated_found L) at → RepeatsKey L at
  repeated_out h = on (numbered_out repeated_in L.tables at h)
    where
      on : (i : ℕ) × (t : TableContent) × (slice_get L.tables i ≡ Some t) × Contains (repeated_in i t) at → RepeatsKey L at
      on r = table_out r.0 r.1 r.2 r.3

  repeated_here : RepeatsKey L at → Contains (repeated_found L) at
  repeated_here s =
      let t = s.table in
      let kc = key_cells t.columns in
      let again : has_key (map kc (take at.row t.rows)) (kc s.row) ≡ true =
      any_in kc (λ x. same_key x (kc s.row)) t.rows at.row s.before s.other s.earlier s.there (key_itself (kc s.other) (kc s.row) s.same) in
      let here : Contains (place_if (has_key (map kc (take at.row t.rows)) (kc s.row)) at.table at.column at.row) at =
      subst (λ b. Contains (place_if b at.table at.column at.row) at) (sym again) (0, omega arith, refl) in
      let in_row = numbered_in (λ j row. place_if (has_key (map kc (take j t.rows)) (kc row)) at.table at.column j) t.rows at.row s.row at s.in_rows here in
      let by : Contains (repeated_in at.table t) at = subst (λ o. Contains (option_map_or (repeated_rows at.table t) o []) at) (sym s.first) in_row in
      numbered_in repeated_in L.tables at.table t at s.in_listing by

  pub key_told : Contains (key_found L) at ↔ (IsNullKey L at ⊎ RepeatsKey L at)
  key_told = (
    λ h. ⊎_elim
        (λ l. let f = cells_out (λ t c. c.key && not c.nullable) (λ t c row d. is_null d) L at l in let key = and_none f.0.column.key f.0.column.nullable f.2 in inl (f.0, f.1, key.0, key.1, no_null _ f.3))
        (λ r. inr (repeated_out r))
        (Contains-append_cases (places_where (λ t c. c.key && not c.nullable) (λ t c row d. is_null d) L) (repeated_found L) at h),
    λ s. ⊎_elim
        (λ l. Contains-append_left _ (repeated_found L) at (cells_in (λ t c. c.key && not c.nullable) (λ t c row d. is_null d) L at (l.0, l.1, ap₂ (λ a b. a && not b) l.2 l.3, ap is_null l.4)))
        (λ r. Contains-append_right (places_where (λ t c. c.key && not c.nullable) (λ t c row d. is_null d) L) _ at (repeated_here r))
        s,
  )
