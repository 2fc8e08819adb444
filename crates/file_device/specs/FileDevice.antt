-- Why files can't be opened.
use Rattle.std.specs.Prelude.{◌≡◌, ◌⊎◌}
use Rattle.cfb_medium.specs.declared.error.Error.{Error}
use Rattle.cfb_medium.specs.declared.error.Error.TheVariants.{NotFound, Device}

abbrev pub IsDeviceOpenError : Error → Type 0
IsDeviceOpenError e = (e ≡ NotFound) ⊎ (e ≡ Device)
