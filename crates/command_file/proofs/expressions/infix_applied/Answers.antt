use Rattle.std.proofs.Common.{codes, inr, refl}
use Rattle.command_file.proofs.Named.{unlike}
use Rattle.command_file.proofs.expressions.infix_applied.Goals as goal

pub returns-in_default : goal.returns-in_default
returns-in_default c =
    inr (refl, rw (unlike (codes "eq") _ c.in_default.not-eq, unlike (codes "ne") _ c.in_default.not-ne, unlike (codes "lt") _ c.in_default.not-lt, unlike (codes "le") _ c.in_default.not-le, unlike (codes "gt") _ c.in_default.not-gt, unlike (codes "ge") _ c.in_default.not-ge, unlike (codes "and") _ c.in_default.not-and, unlike (codes "or") _ c.in_default.not-or, unlike (codes "add") _ c.in_default.not-add, unlike (codes "sub") _ c.in_default.not-sub, unlike (codes "mul") _ c.in_default.not-mul, unlike (codes "div") _ c.in_default.not-div, unlike (codes "bitand") _ c.in_default.not-bitand, unlike (codes "bitor") _ c.in_default.not-bitor, unlike (codes "bitxor") _ c.in_default.not-bitxor, unlike (codes "shl") _ c.in_default.not-shl, unlike (codes "shr") _ c.in_default.not-shr) refl)
