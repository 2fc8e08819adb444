-- Widths that are made wider, row by row and cell by cell.
use Rattle.std.proofs.Common.{◌≡◌, ◌∙◌, ℕ, zero, suc, ◌+◌, ◌<◌, ◌≤◌, List, [], ◌∷◌, ◌++◌, get_or, length, map, max, min, set, take, refl, sym, ap, ap₂, arith}
use Rattle.std.proofs.lemmas.List.{length-map, length-take-le, map-append, take_more}
use Rattle.text_columns.specs.Columns.{wider, widths, cell_widths, width_of}
use Rattle.text_columns.specs.Raised.{raised}
use Rattle.text_columns.specs.declared.cell.Cell.{Cell}

pub wider-nil : (us : List ℕ) → wider us [] ≡ us
wider-nil [] = refl
wider-nil (u ∷ us) = refl

max_assoc : (a b c : ℕ) → max (max a b) c ≡ max a (max b c)
max_assoc a b c = omega arith

pub wider_assoc : (us vs ws : List ℕ) → wider (wider us vs) ws ≡ wider us (wider vs ws)
wider_assoc [] vs ws = refl
wider_assoc (u ∷ us) [] ws = refl
wider_assoc (u ∷ us) (v ∷ vs) [] = refl
wider_assoc (u ∷ us) (v ∷ vs) (w ∷ ws) = ap₂ (λ m ms. m ∷ ms) (max_assoc u v w) (wider_assoc us vs ws)

-- a column that is there, and the next
pub raised_there : (ws : List ℕ) (k w : ℕ) → k < length ws → set ws k (max (get_or ws k 0) w) ≡ raised ws k w
raised_there [] k w below = absurd (omega (arith, below))
raised_there (v ∷ ws) zero w below = refl
raised_there (v ∷ ws) (suc k) w below = ap (λ l. v ∷ l) (raised_there ws k w (omega (arith, below)))

pub raised_next : (ws : List ℕ) (k w : ℕ) → length ws ≤ k → ws ++ w ∷ [] ≡ raised ws k w
raised_next [] k w past = refl
raised_next (v ∷ ws) zero w past = absurd (omega (arith, past))
raised_next (v ∷ ws) (suc k) w past = ap (λ l. v ∷ l) (raised_next ws k w (omega (arith, past)))

-- one cell more
pub wider_more : (us vs : List ℕ) (k w : ℕ) → length vs ≡ k → raised (wider us vs) k w ≡ wider us (vs ++ w ∷ [])
wider_more [] vs k w is = sym (raised_next vs k w (omega (arith, is)))
wider_more (u ∷ us) [] zero w is = ap (λ l. max u w ∷ l) (sym (wider-nil us))
wider_more (u ∷ us) [] (suc k) w is = absurd (omega (arith, is))
wider_more (u ∷ us) (v ∷ vs) zero w is = absurd (omega (arith, is))
wider_more (u ∷ us) (v ∷ vs) (suc k) w is = ap (λ l. max u v ∷ l) (wider_more us vs k w (omega (arith, is)))

pub one_cell_more : (limit : ℕ) (us old new : List ℕ) (row : List Cell) (k : ℕ) (cell : Cell) (w : ℕ) → k < length row → cell ≡ get_or row k cell → w ≡ min (width_of cell) limit
    → old ≡ wider us (cell_widths limit (take k row)) → new ≡ raised old k w → new ≡ wider us (cell_widths limit (take (k + 1) row))
one_cell_more limit us old new row k cell w below is width so_far one =
    let widths_of_one : Cell → ℕ = λ c. min (width_of c) limit in
    let widths_of : List Cell → List ℕ = map widths_of_one in
    let more : take (k + 1) row ≡ take k row ++ cell ∷ [] = take_more row k cell below ∙ ap (λ (c : Cell). take k row ++ c ∷ []) (sym is) in
    let cells : widths_of (take k row) ++ w ∷ [] ≡ widths_of (take (k + 1) row) =
    ap (λ n. widths_of (take k row) ++ n ∷ []) width ∙ sym (map-append widths_of_one (take k row) (cell ∷ [])) ∙ ap widths_of (sym more) in
    let long : length (widths_of (take k row)) ≡ k = length-map (take k row) widths_of_one ∙ length-take-le k row (omega (arith, below)) in
    one ∙ ap (λ ws. raised ws k w) so_far ∙ wider_more us (widths_of (take k row)) k w long ∙ ap (wider us) cells

-- one row more
pub one_row_more : (limit : ℕ) (old new all : List ℕ) (before after : List (List Cell)) (row : List Cell) → before ≡ row ∷ after → new ≡ wider old (cell_widths limit row)
    → wider old (widths limit before) ≡ all → wider new (widths limit after) ≡ all
one_row_more limit old new all before after row more one so_far =
    ap (λ l. wider l (widths limit after)) one
    ∙ wider_assoc old (cell_widths limit row) (widths limit after)
    ∙ ap (λ b. wider old (widths limit b)) (sym more)
    ∙ so_far

pub all_rows : (limit : ℕ) (ws all : List ℕ) (before : List (List Cell)) → before ≡ [] → wider ws (widths limit before) ≡ all → ws ≡ all
all_rows limit ws all before none so_far = sym (wider-nil ws) ∙ ap (λ b. wider ws (widths limit b)) (sym none) ∙ so_far
