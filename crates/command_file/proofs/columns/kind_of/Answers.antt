use Rattle.std.proofs.Common.{codes, inr, refl}
use Rattle.command_file.proofs.Named.{unlike}
use Rattle.command_file.proofs.columns.kind_of.Goals as goal

pub returns-in_default : goal.returns-in_default
returns-in_default c =
    inr (refl, rw (c.in_ok-text_at.ensures, unlike (codes "int16") _ c.in_default.not-int16, unlike (codes "int32") _ c.in_default.not-int32, unlike (codes "binary") _ c.in_default.not-binary, unlike (codes "string") _ c.in_default.not-string) refl)
