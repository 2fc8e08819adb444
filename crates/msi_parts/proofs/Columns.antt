-- What the columns of a list say, at a place.
use Rattle.std.proofs.Common.{◌≡◌, ◌∙◌, ℕ, List, map, ap, sym, arith, get_or}
use Rattle.std.specs.Prelude.{◌<◌, length}
use Rattle.std.proofs.lemmas.List.{get_or-map, length-map}
use Rattle.msi_columns.specs.Column.{Column}
use Rattle.msi_columns.specs.Held.{column_of, columns_of}
use Rattle.msi_columns.specs.declared.column.Column.{Column as HeldColumn}

-- what one says stands at its place among what all say
pub said_at : {A : Type 0} (f : Column → A) (xs : List HeldColumn) (i : ℕ) (x : HeldColumn) (d : A) →
    i < length xs → x ≡ get_or xs i x → f (column_of x) ≡ get_or (map f (columns_of xs)) i d
said_at f xs i x d within is =
    ap (λ y. f (column_of y)) is
    ∙ sym (get_or-map f (columns_of xs) i (column_of x) d (omega (arith, within, length-map xs column_of))
    ∙ ap f (get_or-map column_of xs i x (column_of x) within))
