-- What the list of cells that lead nowhere tells.
use Rattle.std.proofs.Common.{◌≡◌, ◌↔◌, ◌∙◌, ℕ, zero, suc, ◌<◌, Bool, true, false, not, List, [], ◌∷◌, Option, Some, None, length, refl, sym, ap, ap₂, subst, arith}
use Rattle.std.specs.Prelude.{Contains, ◌&&◌, ◌||◌, ◌==◌, is_some, slice_index_or}
use Rattle.std.specs.List.{list_any, slice_split}
use Rattle.std.specs.Option.{option_map_or}
use Rattle.std.specs.Ordering.{is_eq, nat_cmp}
use Rattle.std.proofs.lemmas.Map.Lookups.{exact_bytes, exact_unsigned}
use Rattle.std.proofs.lemmas.Cmp.{nat_cmp_total, nat_list_cmp_total, tied_itself}
use Rattle.msi_listing.specs.Content.{CellContent, ListingContent, null, number, text, bytes}
use Rattle.package_rules.specs.Cells.{is_null}
use Rattle.package_rules.specs.Foreign.{Entry, entries, foreign_found, is_entry, leads, stands}
use Rattle.package_rules.specs.Keys.{cell_cmp}
use Rattle.package_rules.specs.Said.{column_in, is_same, said_of, tables_in}
use Rattle.package_rules.specs.Sentences.{Found, LeadsNowhere, StandsAt}
use Rattle.package_rules.specs.declared.place.Place.{Place}
use Rattle.package_rules.proofs.CellOrder.{compared_equal, equal_itself, is_equal}
use Rattle.package_rules.proofs.Told.{cells_in, cells_out}

-- ---- elements that pass

any_contains : {A : Type 0} (p : A → Bool) (xs : List A) → list_any p xs ≡ true → (x : A) × Contains xs x × (p x ≡ true)
any_contains p [] h = absurd (cc h)
any_contains {A} p (x ∷ xs) h = on (p x) refl h (λ more. any_contains p xs more)
  where
    on : (b : Bool) → p x ≡ b → (b || list_any p xs) ≡ true → (list_any p xs ≡ true → (y : A) × Contains xs y × (p y ≡ true)) → (y : A) × Contains (x ∷ xs) y × (p y ≡ true)
    on true e h rest = (x, (0, omega arith, refl), e)
    on false e h rest = further (rest h)
      where
        further : (y : A) × Contains xs y × (p y ≡ true) → (y : A) × Contains (x ∷ xs) y × (p y ≡ true)
        further t = (t.0, (suc t.1.0, omega (arith, t.1.1), t.1.2), t.2)

at_any : {A : Type 0} (p : A → Bool) (xs : List A) (x : A) (k : ℕ) → k < length xs → slice_index_or xs k x ≡ x → p x ≡ true → list_any p xs ≡ true
at_any p [] x k l e h = absurd (omega arith)
at_any p (y ∷ ys) x zero l e h = ap (λ b. b || list_any p ys) (ap p e ∙ h)
at_any p (y ∷ ys) x (suc k) l e h = ap (λ b. p y || b) (at_any p ys x k (omega arith) e h) ∙ or_true (p y)
  where
    or_true : (b : Bool) → (b || true) ≡ true
    or_true true = refl
    or_true false = refl

contains_any : {A : Type 0} (p : A → Bool) (xs : List A) (x : A) → Contains xs x → p x ≡ true → list_any p xs ≡ true
contains_any p xs x c h = at_any p xs x c.0 c.1 c.2 h

none_passes : {A : Type 0} (p : A → Bool) (xs : List A) → list_any p xs ≡ false → (x : A) → Contains xs x → p x ≡ true → ⊥
none_passes p xs h x c e = cc (sym (contains_any p xs x c e) ∙ h)

passes_none : {A : Type 0} (p : A → Bool) (xs : List A) → ((x : A) → Contains xs x → p x ≡ true → ⊥) → list_any p xs ≡ false
passes_none {A} p xs none = on (list_any p xs) refl
  where
    on : (b : Bool) → list_any p xs ≡ b → b ≡ false
    on true e = let t : (x : A) × Contains xs x × (p x ≡ true) = any_contains p xs e in absurd (none t.0 t.1 t.2)
    on false e = refl

-- ---- cells of a package

and_both : (a b : Bool) → (a && b) ≡ true → (a ≡ true) × (b ≡ true)
and_both true true h = (refl, refl)
and_both true false h = absurd (cc h)
and_both false b h = absurd (cc h)

one_entry : (e q : Entry) → is_entry e q ≡ true → e ≡ q
one_entry e q h =
    let front = and_both (is_same e.table q.table) (is_eq (nat_cmp e.column q.column) && is_eq (cell_cmp e.cell q.cell)) h in
    let rest = and_both (is_eq (nat_cmp e.column q.column)) (is_eq (cell_cmp e.cell q.cell)) front.1 in
    let table : e.table ≡ q.table = exact_bytes e.table q.table (is_equal _ front.0) in
    let column : e.column ≡ q.column = exact_unsigned e.column q.column (is_equal _ rest.0) in
    let cell : e.cell ≡ q.cell = compared_equal e.cell q.cell (is_equal _ rest.1) in
    λ i. record { table = table i; column = column i; cell = cell i }

entry_itself : (q : Entry) → is_entry q q ≡ true
entry_itself q =
    ap₂ (λ a b. a && b) (ap is_eq (tied_itself nat_list_cmp_total q.table))
    (ap₂ (λ a b. a && b) (ap is_eq (tied_itself nat_cmp_total q.column)) (ap is_eq (equal_itself q.cell)))

stands_out : (es : List Entry) (table : List ℕ) (n : ℕ) (d : CellContent) → stands es table n d ≡ true → Contains es (record { table = table; column = n; cell = d })
stands_out es table n d h = on (any_contains (λ e. is_entry e (record { table = table; column = n; cell = d })) es h)
  where
    on : (e : Entry) × Contains es e × (is_entry e (record { table = table; column = n; cell = d }) ≡ true) → Contains es (record { table = table; column = n; cell = d })
    on t = subst (λ (e : Entry). Contains es e) (one_entry t.0 (record { table = table; column = n; cell = d }) t.2) t.1

stands_in : (es : List Entry) (table : List ℕ) (n : ℕ) (d : CellContent) → Contains es (record { table = table; column = n; cell = d }) → stands es table n d ≡ true
stands_in es table n d c =
    contains_any (λ e. is_entry e (record { table = table; column = n; cell = d })) es (record { table = table; column = n; cell = d }) c (entry_itself (record { table = table; column = n; cell = d }))

-- ---- cells that lead nowhere

not_null : (d : CellContent) → not (is_null d) ≡ true → d ≡ null → ⊥
not_null null h e = cc h
not_null (number z) h e = cc e
not_null (text t) h e = cc e
not_null bytes h e = cc e

holds_more : (d : CellContent) → (d ≡ null → ⊥) → not (is_null d) ≡ true
holds_more null h = absurd (h refl)
holds_more (number z) h = refl
holds_more (text t) h = refl
holds_more bytes h = refl

found_some : {A : Type 0} (p : A → Bool) (o : Option A) → option_map_or p o false ≡ true → (x : A) × (o ≡ Some x) × (p x ≡ true)
found_some p None h = absurd (cc h)
found_some p (Some x) h = (x, refl, h)

some_there : {A : Type 0} (o : Option A) → is_some o ≡ true → (x : A) × (o ≡ Some x)
some_there None h = absurd (cc h)
some_there (Some x) h = (x, refl)

not_so : (b : Bool) → not b ≡ true → b ≡ false
not_so true h = absurd (cc h)
not_so false h = refl

module _ (L : ListingContent) (at : Place) where
  nowhere_out : (it : Found) → StandsAt L at it → option_map_or (λ v. is_some (tables_in v)) (said_of L it.table.name it.column.name) false ≡ true
      → (not (is_null it.cell) && option_map_or (λ v. not (leads (entries L) v it.cell)) (said_of L it.table.name it.column.name) false) ≡ true → LeadsNowhere L at
  nowhere_out it stand said fail = on (found_some (λ v. not (leads (entries L) v it.cell)) (said_of L it.table.name it.column.name) (and_both _ _ fail).1)
    where
      on : (v : List CellContent) × (said_of L it.table.name it.column.name ≡ Some v) × (not (leads (entries L) v it.cell) ≡ true) → LeadsNowhere L at
      on r = by (some_there (tables_in r.0) (sym (ap (λ o. option_map_or (λ v. is_some (tables_in v)) o false) r.1) ∙ said))
        where
          by : (tables : List ℕ) × (tables_in r.0 ≡ Some tables) → LeadsNowhere L at
          by t = record {
            it = it;
            stand = stand;
            row = r.0;
            tables = t.0;
            said = r.1;
            named = t.1;
            holds = not_null it.cell (and_both _ _ fail).0;
            lost = λ name among there.
                none_passes (λ table. stands (entries L) table (column_in r.0) it.cell) (slice_split (λ b. b == 59) t.0)
                (sym (ap (λ o. option_map_or (λ tables. list_any (λ table. stands (entries L) table (column_in r.0) it.cell) (slice_split (λ b. b == 59) tables)) o true) t.1)
                ∙ not_so (leads (entries L) r.0 it.cell) r.2) name among (stands_in (entries L) name (column_in r.0) it.cell there);
          }

  pub foreign_told : Contains (foreign_found L) at ↔ LeadsNowhere L at
  foreign_told = (
    λ h.
        let f = cells_out (λ t c. option_map_or (λ v. is_some (tables_in v)) (said_of L t.name c.name) false)
        (λ t c row d. not (is_null d) && option_map_or (λ v. not (leads (entries L) v d)) (said_of L t.name c.name) false) L at h in
        nowhere_out f.0 f.1 f.2 f.3,
    λ s.
        let lost : leads (entries L) s.row s.it.cell ≡ false =
        ap (λ o. option_map_or (λ tables. list_any (λ table. stands (entries L) table (column_in s.row) s.it.cell) (slice_split (λ b. b == 59) tables)) o true) s.named
        ∙ passes_none (λ table. stands (entries L) table (column_in s.row) s.it.cell) (slice_split (λ b. b == 59) s.tables)
        (λ name among h. s.lost name among (stands_out (entries L) name (column_in s.row) s.it.cell h)) in
        cells_in (λ t c. option_map_or (λ v. is_some (tables_in v)) (said_of L t.name c.name) false)
        (λ t c row d. not (is_null d) && option_map_or (λ v. not (leads (entries L) v d)) (said_of L t.name c.name) false) L at (
          s.it,
          s.stand,
          ap (λ o. option_map_or (λ v. is_some (tables_in v)) o false) s.said ∙ ap is_some s.named,
          ap₂ (λ a b. a && b) (holds_more s.it.cell s.holds) (ap (λ o. option_map_or (λ v. not (leads (entries L) v s.it.cell)) o false) s.said ∙ ap not lost),
        ),
  )
