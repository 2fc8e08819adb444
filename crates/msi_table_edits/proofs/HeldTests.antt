-- What is tested of columns in memory is tested of what they say.
use Rattle.std.proofs.Common.{◌≡◌, ◌∙◌, ◌+◌, arith, ℕ, Bool, true, false, cond, List, [], ◌∷◌, map, length, nat_lt, refl, sym, ap, ap₂, Some, None, not, position}
use Rattle.std.specs.Prelude.{◌&&◌, ◌||◌, ◌==◌, ◌≤◌, bytes_eq, nat_le}
use Rattle.std.specs.List.{list_all, list_any, position_or_len, prefix_len}
use Rattle.std.proofs.lemmas.Bool.{or_parts}
use Rattle.std.proofs.lemmas.Bool.Decides.{nat_tests}
use Rattle.std.proofs.lemmas.List.{length-map}
use Rattle.std.proofs.lemmas.List.Folds.{list_all-map}
use Rattle.msi_columns.specs.Column.{listed}
use Rattle.msi_columns.specs.Held.{column_of, columns_of}
use Rattle.msi_columns.specs.declared.column.Column.{Column as HeldColumn}
use Rattle.msi_columns.proofs.Choices.{list_any_map}
use Rattle.msi_spec.specs.Calls.{is_kept, names_distinct}
use Rattle.msi_spec.specs.Package.{data_name, pool_name}
use Rattle.msi_tables.specs.Table.{is_valid_table_name}
use Rattle.msi_texts.specs.Category.{is_identifier}
use Rattle.msi_table_edits.specs.Testing.{can_be_kept, may_have_columns}

-- texts that a column takes
pub listed_so : {X : Type 0} (p : List ℕ → Bool) (f : X → List ℕ) (texts : List X) (choices : List (List ℕ)) → Some (map f texts) ≡ listed choices → list_any (λ x. p (f x)) texts ≡ list_any p choices
listed_so p f texts [] e = absurd (cc)
listed_so p f texts (c ∷ cs) e =
    let same : map f texts ≡ c ∷ cs = cc in
    sym (list_any_map p f texts) ∙ ap (list_any p) same

pub none_listed : (p : List ℕ → Bool) (choices : List (List ℕ)) → None ≡ listed choices → false ≡ list_any p choices
none_listed p [] e = refl
none_listed p (c ∷ cs) e = absurd (cc)

-- the place that a search gives, and the length where it gives none
pub place_is : {X : Type 0} (p : X → Bool) (xs : List X) (k : ℕ) → Some k ≡ position p xs → k ≡ position_or_len p xs
place_is p xs k e = by (nat_lt (position_or_len p xs) (length xs)) e
  where
    by : (b : Bool) → Some k ≡ cond b (Some (position_or_len p xs)) None → k ≡ position_or_len p xs
    by true e = cc
    by false e = absurd (cc)

within : {X : Type 0} (p : X → Bool) (xs : List X) → prefix_len p xs ≤ length xs
within p [] = omega arith
within p (x ∷ xs) = by (p x) (within p xs)
  where
    by : (b : Bool) → prefix_len p xs ≤ length xs → cond b (1 + prefix_len p xs) 0 ≤ length (x ∷ xs)
    by true rest = omega (arith, rest)
    by false rest = omega arith

pub no_place : {X : Type 0} (p : X → Bool) (xs : List X) → None ≡ position p xs → length xs ≡ position_or_len p xs
no_place p xs e = by (nat_lt (position_or_len p xs) (length xs)) refl e
  where
    by : (b : Bool) → nat_lt (position_or_len p xs) (length xs) ≡ b → None ≡ cond b (Some (position_or_len p xs)) None → length xs ≡ position_or_len p xs
    by true is e = absurd (cc)
    by false is e =
        let most = within (λ x. not (p x)) xs in
        let least : length xs ≤ position_or_len p xs = grind (arith, nat_tests, is) in
        omega (arith, most, least)

-- one of the columns has the name
pub named_so : (cs : List HeldColumn) (name : List ℕ) → list_any (λ c. bytes_eq (column_of c).name name) cs ≡ list_any (λ c. bytes_eq c.name name) (columns_of cs)
named_so cs name = sym (list_any_map (λ c. bytes_eq c.name name) column_of cs)

pub may_have_so : (name : List ℕ) (cs : List HeldColumn)
    → (is_valid_table_name name && not (length cs == 0) && nat_le (length cs) 32 && list_any (λ c. (column_of c).key) cs && list_all (λ c. is_identifier (column_of c).name) cs && names_distinct (columns_of cs))
    ≡ may_have_columns name (columns_of cs)
may_have_so name cs =
    let long : length (columns_of cs) ≡ length cs = length-map cs column_of in
    sym (
    ap (λ n. is_valid_table_name name && not (n == 0) && nat_le n 32 && list_any (λ c. c.key) (columns_of cs) && list_all (λ c. is_identifier c.name) (columns_of cs) && names_distinct (columns_of cs)) long
    ∙ ap₂ (λ a b. is_valid_table_name name && not (length cs == 0) && nat_le (length cs) 32 && a && b && names_distinct (columns_of cs)) (list_any_map (λ c. c.key) column_of cs) (list_all-map (λ c. is_identifier c.name) column_of cs))

pub can_be_kept_so : (name : List ℕ) (cs : List HeldColumn) (b : Bool) → (bytes_eq name pool_name || bytes_eq name data_name) ≡ false → b ≡ list_all (λ c. is_kept (column_of c)) cs → b ≡ can_be_kept name (columns_of cs)
can_be_kept_so name cs b other is =
    let parts = or_parts (bytes_eq name pool_name) (bytes_eq name data_name) other in
    is ∙ sym (list_all-map is_kept column_of cs) ∙ sym (ap₂ (λ x y. not x && not y && list_all is_kept (columns_of cs)) parts.0 parts.1)
