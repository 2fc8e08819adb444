use Rattle.std.proofs.Common.{◌≡◌, ◌++◌, drop}
use Rattle.std.specs.String.{string_bytes}
use Rattle.text_columns.specs.Columns.{in_columns}
use Rattle.text_columns.proofs.lines.in_columns.Given as goal

-- the cells so far, and those that are left
abbrev pub invariant-loop-place : goal.invariant-loop-place
invariant-loop-place l = string_bytes l.text ++ in_columns l.widths l.place (drop l.place l.row) ≡ in_columns l.widths 0 l.row
