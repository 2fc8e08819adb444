use Rattle.std.proofs.Common.{◌≡◌, ◌++◌, drop, flat_map, length}
use Rattle.std.specs.Str.{chars}
use Rattle.std.specs.String.{string_bytes}
use Rattle.text_columns.specs.Escapes.{escape}
use Rattle.text_columns.proofs.escapes.escaped.Given as goal

-- what stands for the characters so far, and for those that are left
abbrev pub invariant-loop-ch : goal.invariant-loop-ch
invariant-loop-ch l =
    string_bytes l.line ++ flat_map escape (drop (length l.yielded) (chars l.text)) ≡ flat_map escape (chars l.text)
