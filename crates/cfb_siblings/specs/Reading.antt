-- Which bytes the streams of a directory have.
use Rattle.std.specs.Prelude.{ℕ, Bool, List, IsTrue}
use Rattle.cfb_tree.specs.Directory.{Entry}

-- a stream's bytes are told by where it begins and how many they are ([MS-CFB] 2.6.3)
abbrev pub ReadBy : (ℕ → ℕ → List ℕ → Bool) → Entry → List ℕ → Type 0
ReadBy reads e bytes = IsTrue (reads e.start e.size bytes)
