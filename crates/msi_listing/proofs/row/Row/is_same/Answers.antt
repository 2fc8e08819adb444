use Rattle.msi_listing.specs.HeldCell.{cell_of}
use Rattle.msi_listing.proofs.AlikeLists.{told_by_view}
use Rattle.msi_listing.proofs.row.Row.is_same.Goals as goal

pub returns : goal.returns
returns c = told_by_view cell_of _ _ _ _ c.are_alike.result c.are_alike.ensures c.cells.ensures c.cells-2.ensures
