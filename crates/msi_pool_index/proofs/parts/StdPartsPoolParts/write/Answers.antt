use Rattle.std.proofs.lemmas.List.{map-set}
use Rattle.msi_pool_index.specs.Places.{place_of}
use Rattle.msi_pool_index.proofs.parts.StdPartsPoolParts.write.Goals as goal

pub returns-clause-places : goal.returns-clause-places
returns-clause-places c = map-set place_of c.args.self.now.list.items c.args.index (c.args.text, c.args.count)
