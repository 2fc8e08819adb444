use Rattle.std.proofs.Common.{◌∙◌, ap, sym}
use Rattle.std.specs.List.{list_any}
use Rattle.msi_listing.specs.HeldCell.{cell_of}
use Rattle.package_rules.specs.Cells.{is_bytes}
use Rattle.package_rules.proofs.StreamNames.{any_mapped}
use Rattle.product_rules.proofs.unused.has_bytes.Goals as goal

pub returns : goal.returns
returns c = c.are_any_bytes.ensures ∙ sym (any_mapped cell_of is_bytes c.cells.result.now) ∙ ap (list_any is_bytes) c.cells.ensures
