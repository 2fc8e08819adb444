use Rattle.msi_listing.proofs.AlikeLists.{mapped_alike}
use Rattle.msi_values.specs.Datum.{data_of}
use Rattle.msi_building.proofs.same.are_same_rows.Goals as goal

pub returns : goal.returns
returns c h = mapped_alike (λ row. data_of row.items) c.args.one.now c.args.other.now (c.are_alike.ensures h)
