-- Rows that can be stored come back, in the order in which they are stored.
use Rattle.std.proofs.Common.{◌≡◌, ◌∙◌, Bool, List, length, sym, arith}
use Rattle.std.specs.Prelude.{IsTrue}
use Rattle.std.specs.List.{list_all}
use Rattle.std.specs.List.Sorted.{IsPermutation}
use Rattle.std.proofs.lemmas.List.{length-map}
use Rattle.std.proofs.lemmas.List.Sorted.{All-permutation, length_permutation}
use Rattle.msi_columns.specs.Column.{Column}
use Rattle.msi_tables.specs.Rows.{Row, has_place, kinds_of}
use Rattle.msi_tables.proofs.ReadBack.{written_back}
use Rattle.msi_tables.proofs.Writable.{moved_rows_are_writable, writable_rows_have_bytes}
use Rattle.msi_spec.specs.RoundTrips.{CanBeStored, RowsRoundTrip}

pub come_back : (long : Bool) (columns : List Column) (rows stored : List Row) → IsPermutation rows stored → CanBeStored long columns rows → RowsRoundTrip long columns stored
come_back long columns rows stored moved h =
    let writable = moved_rows_are_writable long columns rows stored moved h.writable in
    let bytes = writable_rows_have_bytes long columns stored writable in
    let wide : length (kinds_of columns) ≡ length columns = length-map columns (λ c. c.kind) in
    let same : length stored ≡ length rows = length_permutation rows stored moved in
    record {
      bytes = bytes.0;
      written = bytes.1;
      read = written_back long (kinds_of columns) stored bytes.0
          (record {
            columns = omega (arith, wide, h.columns_there);
            count = omega (arith, same, h.few);
            cells = λ k d inside. writable.cells k d inside ∙ sym wide;
            places = All-permutation (λ row. IsTrue (list_all has_place row)) rows stored moved h.places;
          })
          bytes.1;
    }
