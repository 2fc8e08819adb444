-- Parts of a list at places, one place after the other; and what a cut table is.
use Rattle.std.proofs.Common.{◌≡◌, ◌∙◌, ap, ℕ, ◌+◌, ◌<◌, ◌≤◌, List, ◌∷◌, length, drop, map, refl, slice_index_or, true, false, Some}
use Rattle.std.specs.Prelude.{option_map, slice_get, Ok, Err, Option, filter}
use Rattle.std.specs.List.{cons_option, list_all}
use Rattle.std.proofs.lemmas.List.{drop_more}
use Rattle.std.proofs.lemmas.Option.{slice_get-map, slice_get_past, slice_get_read}
use Rattle.cfb_medium.specs.declared.error.Error.TheVariants.{InvalidInput}
use Rattle.msi_expr.specs.Formula.{Formula}
use Rattle.msi_pool.specs.Pool.{Pool}
use Rattle.msi_query.specs.Query.{cut, parts_at, projected}
use Rattle.msi_expr.specs.Conditions.{knows_condition, matches}
use Rattle.msi_columns.specs.Column.{has_column}
use Rattle.msi_tables.specs.Rows.{Row}
use Rattle.msi_tables.specs.Table.{Table}

turn : {X : Type 0} (places : List ℕ) (k : ℕ) (xs : List X) → k < length places →
    parts_at (drop k places) xs ≡ cons_option (slice_get xs (slice_index_or places k 0)) (parts_at (drop (k + 1) places) xs)
turn places k xs below = ap (λ ps. parts_at ps xs) (drop_more places k 0 below)

-- the part at the next place
pub parts_next : {X : Type 0} (places : List ℕ) (k : ℕ) (xs : List X) (x : X) → k < length places → slice_index_or places k 0 < length xs →
    x ≡ slice_index_or xs (slice_index_or places k 0) x → parts_at (drop k places) xs ≡ x ∷ parts_at (drop (k + 1) places) xs
parts_next places k xs x below inside is =
    turn places k xs below ∙ ap (λ o. cons_option o (parts_at (drop (k + 1) places) xs)) (slice_get_read xs (length xs) (slice_index_or places k 0) x refl inside is)

-- nothing stands there
pub parts_skip : {X : Type 0} (places : List ℕ) (k : ℕ) (xs : List X) → k < length places → length xs ≤ slice_index_or places k 0 →
    parts_at (drop k places) xs ≡ parts_at (drop (k + 1) places) xs
parts_skip places k xs below past = turn places k xs below ∙ ap (λ o. cons_option o (parts_at (drop (k + 1) places) xs)) (slice_get_past xs (slice_index_or places k 0) past)

-- the same of what parts say
pub parts_next_said : {X Y : Type 0} (f : X → Y) (places : List ℕ) (k : ℕ) (xs : List X) (x : X) → k < length places → slice_index_or places k 0 < length xs →
    x ≡ slice_index_or xs (slice_index_or places k 0) x → parts_at (drop k places) (map f xs) ≡ f x ∷ parts_at (drop (k + 1) places) (map f xs)
parts_next_said f places k xs x below inside is =
    let there : slice_get (map f xs) (slice_index_or places k 0) ≡ Some (f x) =
    slice_get-map f xs (slice_index_or places k 0) ∙ ap (option_map f) (slice_get_read xs (length xs) (slice_index_or places k 0) x refl inside is) in
    turn places k (map f xs) below ∙ ap (λ o. cons_option o (parts_at (drop (k + 1) places) (map f xs))) there

-- a name that no column has
pub cut_unnamed : (pool : Pool) (names : List (List ℕ)) (condition : Option Formula) (t : Table) → list_all (has_column t.columns) names ≡ false →
    cut pool names condition t ≡ Err InvalidInput
cut_unnamed pool names condition t unknown = rw unknown refl

-- and where all are known
pub cut_done : (pool : Pool) (names : List (List ℕ)) (condition : Option Formula) (t : Table) (rows : List Row) → list_all (has_column t.columns) names ≡ true →
    knows_condition t.columns condition ≡ true → rows ≡ filter (matches pool t.columns condition) t.rows →
    cut pool names condition t ≡ Ok (projected names (record { name = t.name; columns = t.columns; rows = rows }))
cut_done pool names condition t rows named known are = rw named (rw known (rw are refl))
