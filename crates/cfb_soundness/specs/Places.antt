-- Where the bytes of a stream stand in a file.
use Rattle.std.specs.Prelude.{ℕ, ◌*◌, ◌<◌, ◌≤◌, List, length, take}
use Rattle.std.specs.List.{flat_map, range_with_len, AllByRecursion}

-- the places of pieces of so many bytes, which begin at these places
abbrev pub places_of : ℕ → List ℕ → List ℕ
places_of piece starts = flat_map (λ start. range_with_len start piece) starts

-- of so many bytes in these pieces, those for which there is room stand in a file of so many ([MS-CFB] 2.1)
abbrev pub StandInFile : ℕ → List ℕ → ℕ → ℕ → Type 0
StandInFile piece starts size file_len = AllByRecursion (λ place. place < file_len) (take size (places_of piece starts))

-- the pieces have room for so many bytes, and these stand in a file of so many ([MS-CFB] 2.1)
pub record HoldBytes (piece : ℕ) (starts : List ℕ) (size file_len : ℕ) : Type 0 where
  pub enough : size ≤ length starts * piece
  pub there : StandInFile piece starts size file_len
