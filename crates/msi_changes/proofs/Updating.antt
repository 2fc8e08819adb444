-- Columns that an update sets.
use Rattle.std.proofs.Common.{◌≡◌, ◌∙◌, ℕ, zero, suc, ◌≤◌, arith, Bool, true, false, cond, List, [], ◌∷◌, length, refl, sym, ap, Option, Some, None}
use Rattle.std.specs.Prelude.{◌&&◌, option_map, option_to_list, slice_set, bytes_eq, find}
use Rattle.std.specs.List.{list_any, position}
use Rattle.std.proofs.Math.Bool.{or-false}
use Rattle.msi_values.specs.Borrowed.{borrowed_data, borrowed_datum}
use Rattle.msi_values.specs.declared.borrowed.BorrowedValue.{BorrowedValue}
use Rattle.msi_values.specs.Datum.{Datum, datum_of}
use Rattle.msi_values.specs.declared.value.Value.{Value}
use Rattle.cfb_medium.specs.declared.error.Error.TheVariants.{AlreadyExists, InvalidInput}
use Rattle.std.proofs.Common.{◌+◌, ◌<◌, add-one, drop, drop-cons, get_or, String, Err}
use Rattle.std.proofs.lemmas.List.Folds.{list_all-map}
use Rattle.std.specs.List.{list_all}
use Rattle.std.specs.Prelude.{string_bytes, unwrap_or}
use Rattle.std.specs.declared.alloc.Global.{Global}
use Rattle.msi_expr.specs.Formula.{Formula}
use Rattle.msi_pool.specs.Pool.{Pool}
use Rattle.msi_columns.specs.Column.{Column, column_place, is_valid}
use Rattle.msi_tables.specs.Held.{heading_of}
use Rattle.msi_tables.specs.Table.{Table, are_distinct}
use Rattle.msi_tables.specs.declared.table.Table.{Table as HeldTable}
use Rattle.msi_columns.proofs.Choices.{list_any_map}
use Rattle.msi_tables.proofs.Searches.{position_cons}
use Rattle.msi_changes.specs.Changes.{is_valid_set, keys_after, option_first, sets_key, updated, values_set}
use Rattle.msi_expr.specs.Conditions.{knows_condition}
use Rattle.msi_changes.specs.Said.{set_of, sets_of}

-- the first column that passes, by its place and by itself
later : (c : Column) (cs : List Column) (place : Option ℕ) → option_first (option_map (λ i. suc i) place) (c ∷ cs) ≡ option_first place cs
later c cs None = refl
later c cs (Some i) = refl

first_is : (p : Column → Bool) (cs : List Column) → option_first (position p cs) cs ≡ option_to_list (find p cs)
first_is p [] = refl
first_is p (c ∷ cs) = ap (λ place. option_first place (c ∷ cs)) (position_cons p c cs) ∙ on (p c) (later c cs (position p cs) ∙ first_is p cs)
  where
    on : (b : Bool) → option_first (option_map (λ i. suc i) (position p cs)) (c ∷ cs) ≡ option_to_list (find p cs)
        → option_first (cond b (Some 0) (option_map (λ i. suc i) (position p cs))) (c ∷ cs) ≡ option_to_list (cond b (Some c) (find p cs))
    on true deeper = refl
    on false deeper = deeper

-- what is found passes
found_passes : (p : Column → Bool) (cs : List Column) (c : Column) → find p cs ≡ Some c → p c ≡ true
found_passes p [] c is = absurd (cc is)
found_passes p (x ∷ xs) c is = on (p x) refl is (found_passes p xs c)
  where
    on : (b : Bool) → p x ≡ b → cond b (Some x) (find p xs) ≡ Some c → (find p xs ≡ Some c → p c ≡ true) → p c ≡ true
    on true passes found deeper = (let same : x ≡ c = cc found in ap p (sym same) ∙ passes)
    on false fails found deeper = deeper found

-- a test of the first column of a name
pub key_found : (cs : List Column) (name : List ℕ) (c : Column) → find (λ c. bytes_eq c.name name) cs ≡ Some c → list_any (λ c. c.key) (option_first (column_place cs name) cs) ≡ c.key
key_found cs name c is = ap (list_any (λ c. c.key)) (first_is (λ c. bytes_eq c.name name) cs ∙ ap option_to_list is) ∙ or-false c.key

pub key_missed : (cs : List Column) (name : List ℕ) → find (λ c. bytes_eq c.name name) cs ≡ None → list_any (λ c. c.key) (option_first (column_place cs name) cs) ≡ false
key_missed cs name is = ap (list_any (λ c. c.key)) (first_is (λ c. bytes_eq c.name name) cs ∙ ap option_to_list is)

pub valid_found : (cs : List Column) (name : List ℕ) (d : Datum) (c : Column) → find (λ c. bytes_eq c.name name) cs ≡ Some c → is_valid_set cs (name, d) ≡ is_valid c d
valid_found cs name d c is =
    ap (list_any (λ c. bytes_eq c.name name && is_valid c d)) (first_is (λ c. bytes_eq c.name name) cs ∙ ap option_to_list is)
    ∙ or-false (bytes_eq c.name name && is_valid c d) ∙ ap (λ b. b && is_valid c d) (found_passes (λ c. bytes_eq c.name name) cs c is)

pub valid_missed : (cs : List Column) (name : List ℕ) (d : Datum) → find (λ c. bytes_eq c.name name) cs ≡ None → is_valid_set cs (name, d) ≡ false
valid_missed cs name d is = ap (list_any (λ c. bytes_eq c.name name && is_valid c d)) (first_is (λ c. bytes_eq c.name name) cs ∙ ap option_to_list is)

-- nothing is set past the end
pub set_past : {X : Type 0} (xs : List X) (i : ℕ) (x : X) → length xs ≤ i → slice_set xs i x ≡ xs
set_past [] i x past = refl
set_past (y ∷ ys) zero x past = absurd (omega (arith, past))
set_past (y ∷ ys) (suc i) x past = ap (λ zs. y ∷ zs) (set_past ys i x (omega (arith, past)))

-- values set in a list as it is kept
pub set_said : (vs : List BorrowedValue) (i : ℕ) (v : BorrowedValue) → borrowed_data (slice_set vs i v) ≡ slice_set (borrowed_data vs) i (borrowed_datum v)
set_said [] i v = refl
set_said (x ∷ xs) zero v = refl
set_said (x ∷ xs) (suc i) v = ap (λ ds. borrowed_datum x ∷ ds) (set_said xs i v)

-- one value more
pub values_step : (columns : List Column) (sets : List (String Global × Value)) (i : ℕ) (set : String Global × Value) (vs new : List BorrowedValue) (name : List ℕ) (found : Option ℕ) (place : ℕ) (v : BorrowedValue)
    → i < length sets → set ≡ get_or sets i set → name ≡ string_bytes set.0 → found ≡ column_place columns name → place ≡ unwrap_or found 0 → borrowed_datum v ≡ datum_of set.1 → new ≡ slice_set vs place v
    → values_set columns (borrowed_data vs) (sets_of (drop i sets)) ≡ values_set columns (borrowed_data new) (sets_of (drop (i + 1) sets))
values_step columns sets i set vs new name found place v within is named at first same after =
    let front : drop i sets ≡ set ∷ drop (i + 1) sets = rw add-one (drop-cons sets i set within ∙ ap (λ y. y ∷ drop (suc i) sets) (sym is)) in
    let where_it_is : place ≡ unwrap_or (column_place columns (string_bytes set.0)) 0 = first ∙ ap (λ o. unwrap_or o 0) (at ∙ ap (column_place columns) named) in
    let now : borrowed_data new ≡ slice_set (borrowed_data vs) (unwrap_or (column_place columns (string_bytes set.0)) 0) (datum_of set.1) =
    ap borrowed_data after ∙ set_said vs place v ∙ ap (slice_set (borrowed_data vs) place) same ∙ ap (λ p. slice_set (borrowed_data vs) p (datum_of set.1)) where_it_is in
    rw (front, now) refl

module _ (pool : Pool) (t : Table) (sets : List (List ℕ × Datum)) (condition : Option Formula) where
  pub unset : list_all (is_valid_set t.columns) sets ≡ false → updated true pool t sets condition ≡ Err InvalidInput
  unset v = rw v refl

  pub repeated : list_all (is_valid_set t.columns) sets ≡ true → knows_condition t.columns condition ≡ true → sets_key t.columns sets ≡ true
      → are_distinct (keys_after pool t sets condition) ≡ false → updated true pool t sets condition ≡ Err AlreadyExists
  repeated v k s d = rw (v, k, s, d) refl

-- the tests, made on what is kept
pub sets_valid : (held said : HeldTable) (sets : List (String Global × Value)) (b : Bool) → held ≡ said → b ≡ list_all (λ set. is_valid_set (heading_of held).columns (set_of set)) sets
    → list_all (is_valid_set (heading_of said).columns) (sets_of sets) ≡ b
sets_valid held said sets b same is = list_all-map (is_valid_set (heading_of said).columns) set_of sets ∙ sym (rw same at is)

pub condition_known : (held said : HeldTable) (condition : Option Formula) (b : Bool) → held ≡ said → b ≡ knows_condition (heading_of held).columns condition → knows_condition (heading_of said).columns condition ≡ b
condition_known held said condition b same is = sym (rw same at is)

pub key_set : (held said : HeldTable) (sets : List (String Global × Value)) (b : Bool) → held ≡ said
    → b ≡ list_any (λ set. list_any (λ column. column.key) (option_first (column_place (heading_of held).columns (string_bytes set.0)) (heading_of held).columns)) sets
    → sets_key (heading_of said).columns (sets_of sets) ≡ b
key_set held said sets b same is =
    list_any_map (λ s. list_any (λ c. c.key) (option_first (column_place (heading_of said).columns s.0) (heading_of said).columns)) set_of sets ∙ sym (rw same at is)
