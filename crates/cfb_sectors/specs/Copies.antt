-- Directory entries in no use, one after the other.
use Rattle.std.specs.Prelude.{ℕ, List, ◌++◌, replicate}
use Rattle.std.specs.List.{flat_map}

-- the 128 bytes of a directory entry that is not in use: zeros, but no siblings and no child ([MS-CFB] 2.6.3)
abbrev pub unused_entry : List ℕ
unused_entry = replicate 68 0 ++ replicate 12 0xFF ++ replicate 48 0

-- so many copies of a piece
abbrev pub copies : ℕ → List ℕ → List ℕ
copies count piece = flat_map {X = ℕ} (λ _. piece) (replicate count 0)
