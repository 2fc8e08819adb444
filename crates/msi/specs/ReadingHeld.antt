-- A stream in memory that is read, as what it says.
use Rattle.std.specs.Prelude.{◌≤◌, length}
use Rattle.msi.specs.Reading.{Reading}
use Rattle.msi.specs.declared.reader.StreamReader.TheInside.{Inside}

-- its bytes, and the position
abbrev pub reading_of : Inside → Reading
reading_of it = record { bytes = it.bytes.items; position = it.position }

-- the position is in the stream or at its end
abbrev pub is_inside : Inside → Type 0
is_inside it = it.position ≤ length it.bytes.items
