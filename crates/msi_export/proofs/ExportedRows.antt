-- Rows of exported tables, value by value.
use Rattle.std.proofs.Common.{◌≡◌, ◌∙◌, ◌+◌, ◌<◌, ◌≤◌, get_or, arith, zero, suc, drop, map, ℕ, List, [], ◌∷◌, ◌++◌, length, sym, ap, refl, slice_get, Bool, true, false, Some}
use Rattle.std.proofs.lemmas.List.{append_assoc}
use Rattle.std.specs.Prelude.{if◌then◌else◌}
use Rattle.msi_values.specs.Datum.{Datum}
use Rattle.msi_columns.specs.Column.{Column}
use Rattle.msi_columns.specs.Held.{column_of, columns_of}
use Rattle.msi_columns.specs.declared.column.Column.{Column as HeldColumn}
use Rattle.msi_tables.specs.Table.{key_values}
use Rattle.msi_export.specs.Cells.{is_key_at, key_part, keys_text}

-- a list from a place on begins with what stands there
pub taken_at : {A : Type 0} (xs : List A) (i : ℕ) (x : A) → slice_get xs i ≡ Some x → drop i xs ≡ x ∷ drop (i + 1) xs
taken_at [] i x is = absurd (cc)
taken_at (y ∷ ys) zero x is = cc
taken_at (y ∷ ys) (suc i) x is =
    let after : suc i + 1 ≡ suc (i + 1) = omega arith in
    taken_at ys i x is ∙ ap (λ n. x ∷ drop n (y ∷ ys)) (sym after)

-- one more is made, and one less is left
pub next_made : {A B : Type 0} (f : A → B) (xs : List A) (i : ℕ) (x : A) (made new all : List B) → slice_get xs i ≡ Some x → made ++ map f (drop i xs) ≡ all
    → new ≡ made ++ f x ∷ [] → new ++ map f (drop (i + 1) xs) ≡ all
next_made f xs i x made new all is before more =
    ap (λ n. n ++ map f (drop (i + 1) xs)) more ∙ append_assoc made (f x ∷ []) (map f (drop (i + 1) xs)) ∙ ap (λ r. made ++ map f r) (sym (taken_at xs i x is)) ∙ before

-- what a list with one more behind it says
said_behind : {A B : Type 0} (see : A → B) (old : List A) (a : A) (b : B) → see a ≡ b → map see (old ++ a ∷ []) ≡ map see old ++ b ∷ []
said_behind see [] a b is = ap (λ x. x ∷ []) is
said_behind see (o ∷ os) a b is = ap (λ xs. see o ∷ xs) (said_behind see os a b is)

pub said_more : {A B : Type 0} (see : A → B) (old new : List A) (a : A) (b : B) → new ≡ old ++ a ∷ [] → see a ≡ b → map see new ≡ map see old ++ b ∷ []
said_more see old new a b more is = ap (λ xs. map see xs) more ∙ said_behind see old a b is

-- whether the column at a place of a list belongs to the key
pub key_got : (cs : List HeldColumn) (i : ℕ) (c : HeldColumn) → i < length cs → c ≡ get_or cs i c → (column_of c).key ≡ is_key_at (columns_of cs) i
key_got [] i c below is = absurd (omega (arith, below))
key_got (b ∷ cs) zero c below is = ap (λ it. (column_of it).key) is
key_got (b ∷ cs) (suc i) c below is = key_got cs i c (omega (arith, below)) is

pub none_got : (cs : List HeldColumn) (i : ℕ) → length cs ≤ i → false ≡ is_key_at (columns_of cs) i
none_got [] i past = refl
none_got (b ∷ cs) zero past = absurd (omega (arith, past))
none_got (b ∷ cs) (suc i) past = none_got cs i (omega (arith, past))

-- the keys from a place on begin with the value there, if that belongs to the key
keys_split : (is_key : Bool) (d : Datum) (rest : List Datum) → keys_text (if is_key then d ∷ rest else rest) ≡ key_part is_key d ++ keys_text rest
keys_split true d rest = refl
keys_split false d rest = refl

keys_at : (cs : List Column) (ds : List Datum) (i : ℕ) (d : Datum) → length ds ≡ length cs → slice_get ds i ≡ Some d
    → keys_text (key_values (drop i cs) (drop i ds)) ≡ key_part (is_key_at cs i) d ++ keys_text (key_values (drop (i + 1) cs) (drop (i + 1) ds))
keys_at cs [] i d same is = absurd (cc)
keys_at [] (e ∷ ds) i d same is = absurd (cc)
keys_at (c ∷ cs) (e ∷ ds) zero d same is =
    let first : e ≡ d = cc in
    keys_split c.key e (key_values cs ds) ∙ ap (λ it. key_part c.key it ++ keys_text (key_values cs ds)) first
keys_at (c ∷ cs) (e ∷ ds) (suc i) d same is =
    let after : suc i + 1 ≡ suc (i + 1) = omega arith in
    let fewer : length ds ≡ length cs = cc in
    keys_at cs ds i d fewer is ∙ ap (λ n. key_part (is_key_at cs i) d ++ keys_text (key_values (drop n (c ∷ cs)) (drop n (e ∷ ds)))) (sym after)

pub next_key : (cs : List Column) (ds : List Datum) (i : ℕ) (d : Datum) (old new all : List ℕ) → length ds ≡ length cs → slice_get ds i ≡ Some d
    → old ++ keys_text (key_values (drop i cs) (drop i ds)) ≡ all → new ≡ old ++ key_part (is_key_at cs i) d
    → new ++ keys_text (key_values (drop (i + 1) cs) (drop (i + 1) ds)) ≡ all
next_key cs ds i d old new all same is before more =
    ap (λ n. n ++ keys_text (key_values (drop (i + 1) cs) (drop (i + 1) ds))) more ∙ append_assoc old (key_part (is_key_at cs i) d) (keys_text (key_values (drop (i + 1) cs) (drop (i + 1) ds)))
    ∙ ap (λ r. old ++ r) (sym (keys_at cs ds i d same is)) ∙ before
