-- A package whose summary was lent.
use Rattle.std.specs.Prelude.{false}
use Rattle.cfb_medium.specs.declared.medium.ReadMedium.{Ghosts}
use Rattle.msi_spec.specs.Package.{PackageContent}
use Rattle.msi_props.specs.Held.{SetState}
use Rattle.msi_props.specs.Props.{Props}
use Rattle.msi.specs.declared.package.Package.{Package}

-- the package with this summary, which isn't that of its stream
abbrev pub with_summary : {F : Type 0} {g : Ghosts F} → Package F g → SetState → Package F g
with_summary it s = record it { summary = s; is_summary_written = false }

-- the same of what it holds
abbrev pub summed_up : Props → PackageContent → PackageContent
summed_up s P = record P { summary = s }
