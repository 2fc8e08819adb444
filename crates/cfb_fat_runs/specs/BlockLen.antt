-- How many runs a block of a list of runs has.
use Rattle.std.specs.Prelude.{ℕ}

-- at most so many, but while they are moved on
abbrev pub most_runs : ℕ
most_runs = 2048
