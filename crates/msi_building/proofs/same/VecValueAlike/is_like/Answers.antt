use Rattle.std.proofs.Common.{◌∙◌, ap, sym}
use Rattle.msi_listing.proofs.AlikeLists.{mapped_alike}
use Rattle.msi_values.specs.Datum.{data_of, datum_of}
use Rattle.msi_building.proofs.same.VecValueAlike.is_like.Goals as goal

pub returns : goal.returns
returns c h = sym (ap data_of c.as_slice.ensures.value) ∙ mapped_alike datum_of c.as_slice.result.now c.as_slice-2.result.now (c.are_alike.ensures h) ∙ ap data_of c.as_slice-2.ensures.value
