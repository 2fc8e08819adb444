use Rattle.std.proofs.Common.{◌≡◌, take}
use Rattle.text_columns.specs.Columns.{cell_widths, wider}
use Rattle.text_columns.proofs.widths.widen.Given as goal

-- the cells so far
abbrev pub invariant-loop-place : goal.invariant-loop-place
invariant-loop-place l =
    l.widths.items ≡ wider l.fn.widths.items (cell_widths l.limit (take l.place l.row))
