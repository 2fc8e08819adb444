-- The columns that an expression names are those of its names.
use Rattle.std.proofs.Common.{◌≡◌, ◌∙◌, sym, ap, ℕ, List, [], ◌∷◌, ◌++◌, refl, Bool, true, false, cond, map, Bor}
use Rattle.std.specs.Prelude.{◌&&◌, ◌||◌, bytes_eq}
use Rattle.std.specs.List.{list_all, list_any}
use Rattle.std.proofs.lemmas.List.Folds.{list_all-append, list_all-map}
use Rattle.std.proofs.lemmas.Slice.Eq.{bytes_eq-Decides}
use Rattle.msi_columns.specs.Column.{Column, has_column}
use Rattle.msi_expr.specs.Formula.{Formula, literal, column, unary, two, both, either, names_after, noted}
use Rattle.msi_expr.specs.Conditions.{has_named_columns}

and_assoc : (a b c : Bool) → ((a && b) && c) ≡ (a && (b && c))
and_assoc true b c = refl
and_assoc false b c = refl

and_true : (a : Bool) → (a && true) ≡ a
and_true true = refl
and_true false = refl

twice : (a b : Bool) → (a && b) ≡ ((a && b) && a)
twice true b = sym (and_true b)
twice false b = refl

-- a name that is among others adds no test
among : (p : List ℕ → Bool) (names : List (List ℕ)) (name : List ℕ) → list_any (bytes_eq name) names ≡ true → list_all p names ≡ (list_all p names && p name)
among p [] name known = absurd (cc known)
among p (n ∷ ns) name known = go (among p ns name) (bytes_eq name n) refl known
  where
    go : (list_any (bytes_eq name) ns ≡ true → list_all p ns ≡ (list_all p ns && p name)) → (b : Bool) → bytes_eq name n ≡ b → (b || list_any (bytes_eq name) ns) ≡ true → (p n && list_all p ns) ≡ ((p n && list_all p ns) && p name)
    go ih true same known = let e : name ≡ n = (bytes_eq-Decides name n).0 same in rw e (twice (p n) (list_all p ns))
    go ih false differ known = ap (λ x. p n && x) (ih known) ∙ sym (and_assoc (p n) (list_all p ns) (p name))

all_noted : (p : List ℕ → Bool) (names : List (List ℕ)) (name : List ℕ) → list_all p (noted names name) ≡ (list_all p names && p name)
all_noted p names name = go (list_any (bytes_eq name) names) refl
  where
    go : (b : Bool) → list_any (bytes_eq name) names ≡ b → list_all p (cond b names (names ++ name ∷ [])) ≡ (list_all p names && p name)
    go true known = among p names name known
    go false new = list_all-append p names (name ∷ []) ∙ ap (λ x. list_all p names && x) (and_true (p name))

joined : (p : List (List ℕ) → Bool) (after : List (List ℕ) → List (List ℕ)) (names : List (List ℕ)) (first more : Bool) →
    p (after names) ≡ (p names && first) → (all : Bool) → all ≡ (p (after names) && more) → all ≡ (p names && (first && more))
joined p after names first more one all is = is ∙ ap (λ x. x && more) one ∙ and_assoc (p names) first more

names_after_known : (columns : List Column) (names : List (List ℕ)) (f : Formula) → list_all (has_column columns) (names_after names f) ≡ (list_all (has_column columns) names && has_named_columns columns f)
names_after_known columns names (literal d) = sym (and_true (list_all (has_column columns) names))
names_after_known columns names (column name) = all_noted (has_column columns) names name
names_after_known columns names (unary o a) = names_after_known columns names a
names_after_known columns names (two o a b) =
    joined (list_all (has_column columns)) (λ ns. names_after ns a) names (has_named_columns columns a) (has_named_columns columns b) (names_after_known columns names a) _ (names_after_known columns (names_after names a) b)
names_after_known columns names (both a b) =
    joined (list_all (has_column columns)) (λ ns. names_after ns a) names (has_named_columns columns a) (has_named_columns columns b) (names_after_known columns names a) _ (names_after_known columns (names_after names a) b)
names_after_known columns names (either a b) =
    joined (list_all (has_column columns)) (λ ns. names_after ns a) names (has_named_columns columns a) (has_named_columns columns b) (names_after_known columns names a) _ (names_after_known columns (names_after names a) b)

pub names_known : (columns : List Column) (names : List (Bor (List ℕ))) (f : Formula) → map (λ n. n.now) names ≡ names_after [] f →
    list_all (λ n. has_column columns n.now) names ≡ has_named_columns columns f
names_known columns names f are = sym (list_all-map (has_column columns) (λ n. n.now) names) ∙ ap (list_all (has_column columns)) are ∙ names_after_known columns [] f
