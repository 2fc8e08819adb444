use Rattle.msi_props.specs.Held.{pair_in}
use Rattle.msi_listing.proofs.AlikeLists.{mapped_alike}
use Rattle.msi_building.proofs.same.are_same_properties.Goals as goal

pub returns : goal.returns
returns c h = mapped_alike pair_in c.args.one.now c.args.other.now (c.are_alike.ensures h)
