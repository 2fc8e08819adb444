use Rattle.std.specs.Prelude.{string_bytes}
use Rattle.msi_listing.proofs.AlikeLists.{mapped_alike}
use Rattle.msi_building.proofs.same.are_same_names.Goals as goal

pub returns : goal.returns
returns c h = mapped_alike string_bytes c.args.one.now c.args.other.now (c.are_alike.ensures h)
