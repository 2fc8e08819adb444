-- Rows of `_Validation` that are put under the columns of which they speak, one after the other.
use Rattle.std.proofs.Common.{◌≡◌, ◌∙◌, Bool, true, false, cond, List, [], ◌∷◌, ◌++◌, Option, Some, None, refl, sym, ap, ap₂}
use Rattle.std.specs.Prelude.{◌&&◌, find, is_some, option_map}
use Rattle.std.specs.Borrow.{Bor}
use Rattle.std.specs.BTreeMap.{get, is_at}
use Rattle.std.specs.Cmp.Lexicographic.{slice_cmp}
use Rattle.std.specs.Option.{option_map_or}
use Rattle.std.specs.Ordering.{is_eq, nat_cmp, ordering_then}
use Rattle.std.specs.declared.cmp.Ordering.{Ordering}
use Rattle.std.specs.declared.cmp.Ordering.TheVariants.{Less, Equal, Greater}
use Rattle.std.proofs.lemmas.Map.Lookups.{exact_bytes}
use Rattle.msi_listing.specs.Content.{CellContent}
use Rattle.package_rules.specs.Firsts.{AreFirsts, Said}
use Rattle.package_rules.specs.Said.{is_same, names_in, speaks_of}
use Rattle.package_rules.specs.declared.names.ColumnName.{ColumnName}
use Rattle.package_rules.specs.contracts.names.ColumnNameOrd.TheImpl.{ghosts as names}

pub eq_then : (a b : Ordering) → is_eq (ordering_then a b) ≡ (is_eq a && is_eq b)
eq_then Less b = refl
eq_then Equal b = refl
eq_then Greater b = refl

abbrev or_else : {A : Type 0} → Option A → Option A → Option A
or_else (Some x) o = Some x
or_else None o = o

find_behind : {A : Type 0} (p : A → Bool) (xs : List A) (x : A) → find p (xs ++ x ∷ []) ≡ or_else (find p xs) (cond (p x) (Some x) None)
find_behind p [] x = refl
find_behind p (y ∷ ys) x = on (p y) (find_behind p ys x)
  where
    on : (b : Bool) → find p (ys ++ x ∷ []) ≡ or_else (find p ys) (cond (p x) (Some x) None) → cond b (Some y) (find p (ys ++ x ∷ [])) ≡ or_else (cond b (Some y) (find p ys)) (cond (p x) (Some x) None)
    on true h = refl
    on false h = h

or_none : {A : Type 0} (o : Option A) → or_else o None ≡ o
or_none None = refl
or_none (Some x) = refl

pub is_equal : (o : Ordering) → is_eq o ≡ true → o ≡ Equal
is_equal Less h = absurd (cc h)
is_equal Equal h = refl
is_equal Greater h = absurd (cc h)

pub both : (a b : Bool) → (a && b) ≡ true → (a ≡ true) × (b ≡ true)
both true true h = (refl, refl)
both true false h = absurd (cc h)
both false b h = absurd (cc h)

-- keys that are one key name the same column
one_column : (key q : ColumnName) → is_at (names.cmp key) q ≡ true → (key.table.now ≡ q.table.now) × (key.column.now ≡ q.column.now)
one_column key q h =
    let parts = both (is_same key.table.now q.table.now) (is_same key.column.now q.column.now)
    (sym (eq_then (slice_cmp nat_cmp key.table.now q.table.now) (slice_cmp nat_cmp key.column.now q.column.now)) ∙ h) in
    (exact_bytes key.table.now q.table.now (is_equal _ parts.0), exact_bytes key.column.now q.column.now (is_equal _ parts.1))

pub some_of : {A : Type 0} (o : Option A) → is_some o ≡ true → (x : A) × (o ≡ Some x)
some_of None h = absurd (cc h)
some_of (Some x) h = (x, refl)

pub none_of : {A : Type 0} (o : Option A) → is_some o ≡ false → o ≡ None
none_of None h = refl
none_of (Some x) h = absurd (cc h)

module _ (rows : List (List CellContent)) (old : Said) (told : AreFirsts rows old) (row : Bor (List CellContent)) where
  -- a row that names no column
  pub pass_row : names_in row.now ≡ None → AreFirsts (rows ++ row.now ∷ []) old
  pass_row none q =
      let out : speaks_of q.table.now q.column.now row.now ≡ false = ap (λ n. option_map_or (λ p. is_same p.0 q.table.now && is_same p.1 q.column.now) n false) none in
      told q ∙ sym (find_behind (speaks_of q.table.now q.column.now) rows row.now
      ∙ ap (λ b. or_else (find (speaks_of q.table.now q.column.now) rows) (cond b (Some row.now) None)) out
      ∙ or_none (find (speaks_of q.table.now q.column.now) rows))

  module _ (key : ColumnName) (named : names_in row.now ≡ Some (key.table.now, key.column.now)) where
    spoken : (q : ColumnName) → is_at (names.cmp key) q ≡ speaks_of q.table.now q.column.now row.now
    spoken q =
        eq_then (slice_cmp nat_cmp key.table.now q.table.now) (slice_cmp nat_cmp key.column.now q.column.now)
        ∙ sym (ap (λ n. option_map_or (λ p. is_same p.0 q.table.now && is_same p.1 q.column.now) n false) named)

    -- what is found under a key is found under each that is the same
    alike : (q : ColumnName) → is_at (names.cmp key) q ≡ true → find (speaks_of q.table.now q.column.now) rows ≡ find (speaks_of key.table.now key.column.now) rows
    alike q h = let same = one_column key q h in ap₂ (λ t c. find (speaks_of t c) rows) (sym same.0) (sym same.1)

    -- a row behind one that speaks of its column
    pub keep_first : (x : Bor (List CellContent)) → get names.cmp old key ≡ Some x → AreFirsts (rows ++ row.now ∷ []) old
    keep_first x there q = on (is_at (names.cmp key) q) refl
      where
        found : find (speaks_of key.table.now key.column.now) rows ≡ Some x.now
        found = sym (told key) ∙ ap (option_map (λ (r : Bor (List CellContent)). r.now)) there

        p : List CellContent → Bool
        p = speaks_of q.table.now q.column.now

        on : (b : Bool) → is_at (names.cmp key) q ≡ b → option_map (λ r. r.now) (get names.cmp old q) ≡ find (speaks_of q.table.now q.column.now) (rows ++ row.now ∷ [])
        on true h =
            told q ∙ alike q h ∙ found
            ∙ sym (find_behind (speaks_of q.table.now q.column.now) rows row.now
            ∙ ap (λ o. or_else o (cond (speaks_of q.table.now q.column.now row.now) (Some row.now) None)) (alike q h ∙ found))
        on false h =
            told q ∙ sym (find_behind (speaks_of q.table.now q.column.now) rows row.now
            ∙ ap (λ b. or_else (find (speaks_of q.table.now q.column.now) rows) (cond b (Some row.now) None)) (sym (spoken q) ∙ h)
            ∙ or_none (find (speaks_of q.table.now q.column.now) rows))

    -- the first row that speaks of a column
    pub put_first : get names.cmp old key ≡ None → (new : Said) → ((q : ColumnName) → get names.cmp new q ≡ cond (is_at (names.cmp key) q) (Some row) (get names.cmp old q)) → AreFirsts (rows ++ row.now ∷ []) new
    put_first absent new put q = on (is_at (names.cmp key) q) refl
      where
        nothing : find (speaks_of key.table.now key.column.now) rows ≡ None
        nothing = sym (told key) ∙ ap (option_map (λ (r : Bor (List CellContent)). r.now)) absent

        on : (b : Bool) → is_at (names.cmp key) q ≡ b → option_map (λ r. r.now) (get names.cmp new q) ≡ find (speaks_of q.table.now q.column.now) (rows ++ row.now ∷ [])
        on true h =
            ap (option_map (λ (r : Bor (List CellContent)). r.now)) (put q ∙ ap (λ b. cond b (Some row) (get names.cmp old q)) h)
            ∙ sym (find_behind (speaks_of q.table.now q.column.now) rows row.now
            ∙ ap (λ o. or_else o (cond (speaks_of q.table.now q.column.now row.now) (Some row.now) None)) (alike q h ∙ nothing)
            ∙ ap (λ b. cond b (Some row.now) None) (sym (spoken q) ∙ h))
        on false h =
            ap (option_map (λ (r : Bor (List CellContent)). r.now)) (put q ∙ ap (λ b. cond b (Some row) (get names.cmp old q)) h)
            ∙ told q
            ∙ sym (find_behind (speaks_of q.table.now q.column.now) rows row.now
            ∙ ap (λ b. or_else (find (speaks_of q.table.now q.column.now) rows) (cond b (Some row.now) None)) (sym (spoken q) ∙ h)
            ∙ or_none (find (speaks_of q.table.now q.column.now) rows))
