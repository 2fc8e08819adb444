-- A test of values where they stand is one of what they say.
use Rattle.std.proofs.Common.{◌≡◌, ◌∙◌, ℕ, List, [], ◌∷◌, Vec, map, take, refl, sym, ap, ap₂}
use Rattle.std.specs.Prelude.{◌&&◌}
use Rattle.std.specs.List.{list_all}
use Rattle.std.specs.declared.alloc.Global.{Global}
use Rattle.std.proofs.lemmas.List.{take-map}
use Rattle.std.proofs.lemmas.List.Folds.{list_all-map}
use Rattle.msi_values.specs.Borrowed.{borrowed_datum}
use Rattle.msi_values.specs.declared.borrowed.BorrowedValue.{BorrowedValue}
use Rattle.msi_tables.specs.Schema.{is_filled}
use Rattle.msi_schema.specs.Index.{rows_said}

pub tested : (width : ℕ) (rows : List (Vec BorrowedValue Global))
    → list_all (λ row. list_all (λ value. is_filled (borrowed_datum value)) (take width row.items)) rows ≡ list_all (list_all is_filled) (map (take width) (rows_said rows))
tested width [] = refl
tested width (row ∷ rows) =
    ap₂ (λ a b. a && b) (sym (ap (list_all is_filled) (take-map borrowed_datum width row.items) ∙ list_all-map is_filled borrowed_datum (take width row.items))) (tested width rows)
