use Rattle.std.proofs.Common.{◌∙◌, sym}
use Rattle.std.proofs.lemmas.Simd.{map-map}
use Rattle.msi_columns.specs.Held.{column_of}
use Rattle.msi_listing.proofs.AlikeLists.{mapped_alike}
use Rattle.msi_building.specs.Saying.{facts_of}
use Rattle.msi_building.proofs.same.are_same_columns.Goals as goal

pub returns : goal.returns
returns c h = map-map facts_of column_of c.args.one.now ∙ mapped_alike (λ column. facts_of (column_of column)) c.args.one.now c.args.other.now (c.are_alike.ensures h) ∙ sym (map-map facts_of column_of c.args.other.now)
