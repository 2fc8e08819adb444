use Rattle.std.specs.Prelude.{encode_utf8_all}
use Rattle.std.specs.Fmt.{IsFlush, HasWrittenStyled}
use Rattle.msi_values.proofs.quoted.write_first.Given as goal

-- the characters so far are written
abbrev pub invariant-loop-ch : goal.invariant-loop-ch
invariant-loop-ch g l = IsFlush l.fn.f → HasWrittenStyled g.W.Write.write_str_gives l.fn.f (encode_utf8_all l.yielded) l.f
