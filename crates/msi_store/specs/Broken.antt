-- What isn't a fault, told as broken data.
use Rattle.std.specs.Prelude.{◌≡◌, ◌⊎◌}
use Rattle.cfb_medium.specs.Calls.{IsFaultOrInvalidInputIf}
use Rattle.cfb_medium.specs.declared.error.Error.{Error}
use Rattle.cfb_medium.specs.declared.error.Error.TheVariants.{InvalidData}

-- a fault stays, and any other error is InvalidData
abbrev pub IsAsBroken : Error → Error → Type 0
IsAsBroken e r = (IsFaultOrInvalidInputIf ⊥ e × (r ≡ e)) ⊎ ((IsFaultOrInvalidInputIf ⊥ e → ⊥) × (r ≡ InvalidData))
