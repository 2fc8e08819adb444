-- Parts with tabs between them.
use Rattle.msi_columns.specs.Column.{Column}
use Rattle.msi_columns.specs.Held.{column_of, columns_of}
use Rattle.msi_columns.specs.declared.column.Column.{Column as HeldColumn}
use Rattle.std.proofs.Common.{◌≡◌, ◌∙◌, ◌<◌, ◌+◌, arith, suc, length, get_or, drop, drop-cons, map, ℕ, Bool, true, false, List, [], ◌∷◌, ◌++◌, refl, sym, ap}
use Rattle.std.specs.Prelude.{if◌then◌else◌}
use Rattle.std.proofs.lemmas.List.{append_assoc, append-nil}
use Rattle.std.specs.List.{join_with_byte}

-- the parts that stand behind another, each with a tab before it
abbrev pub behind_tabs : List (List ℕ) → List ℕ
behind_tabs [] = []
behind_tabs (x ∷ xs) = (9 ∷ x) ++ behind_tabs xs

pub join_behind : (x : List ℕ) (xs : List (List ℕ)) → x ++ behind_tabs xs ≡ join_with_byte 9 (x ∷ xs)
join_behind x [] = append-nil x
join_behind x (y ∷ ys) = ap (λ rest. x ++ 9 ∷ rest) (join_behind y ys)

-- the parts that are left, behind others or from the first on
abbrev pub left : Bool → List (List ℕ) → List ℕ
left is_first parts = if is_first then join_with_byte 9 parts else behind_tabs parts

pub one_part : (is_first : Bool) (old part : List ℕ) (rest : List (List ℕ)) (all : List ℕ) → old ++ left is_first (part ∷ rest) ≡ all
    → (old ++ (if is_first then part else 9 ∷ part)) ++ left false rest ≡ all
one_part true old part rest all e = append_assoc old part (behind_tabs rest) ∙ ap (λ x. old ++ x) (join_behind part rest) ∙ e
one_part false old part rest all e = append_assoc old (9 ∷ part) (behind_tabs rest) ∙ e

pub no_part : (is_first : Bool) (line all : List ℕ) → line ++ left is_first [] ≡ all → line ≡ all
no_part true line all e = sym (append-nil line) ∙ e
no_part false line all e = sym (append-nil line) ∙ e

pub next_part : (is_first : Bool) (old new part : List ℕ) (parts rest : List (List ℕ)) (all : List ℕ) → old ++ left is_first parts ≡ all
    → parts ≡ part ∷ rest → new ≡ old ++ (if is_first then part else 9 ∷ part) → new ++ left false rest ≡ all
next_part is_first old new part parts rest all e is made =
    ap (λ x. x ++ left false rest) made ∙ one_part is_first old part rest all (ap (λ x. old ++ left is_first x) (sym is) ∙ e)

-- the parts that are left begin with that of the next column
pub next_column : (part_of : Column → List ℕ) (cs : List HeldColumn) (i : ℕ) (c : HeldColumn) → i < length cs → c ≡ get_or cs i c
    → map part_of (columns_of (drop i cs)) ≡ part_of (column_of c) ∷ map part_of (columns_of (drop (i + 1) cs))
next_column part_of cs i c below is =
    let after : suc i ≡ i + 1 = omega arith in
    ap (λ xs. map part_of (columns_of xs)) (drop-cons cs i c below ∙ ap (λ x. x ∷ drop (suc i) cs) (sym is) ∙ ap (λ n. c ∷ drop n cs) after)
