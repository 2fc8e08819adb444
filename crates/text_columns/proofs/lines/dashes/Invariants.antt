use Rattle.std.proofs.Common.{◌≡◌, ◌++◌, drop}
use Rattle.std.specs.String.{string_bytes}
use Rattle.text_columns.specs.Columns.{dashes}
use Rattle.text_columns.proofs.lines.dashes.Given as goal

-- the columns so far, and those that are left
abbrev pub invariant-loop-width : goal.invariant-loop-width
invariant-loop-width l = string_bytes l.text ++ dashes (drop l.width-index l.widths) ≡ dashes l.widths
