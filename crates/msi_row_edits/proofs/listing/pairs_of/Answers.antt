use Rattle.std.proofs.Common.{rules}
use Rattle.std.proofs.lemmas.Iterator.{items_from_collect, YieldsList-from_zip}
use Rattle.std.proofs.lemmas.Iterator.Adapters.{YieldsList-from_vec}
use Rattle.msi_row_edits.proofs.listing.pairs_of.Goals as goal

pub returns : goal.returns
returns c = record {
  ok = items_from_collect _ c.collect.ensures.ran (YieldsList-from_zip (YieldsList-from_vec c.args.values.items (search rules) (search rules)) (YieldsList-from_vec c.args.rows.items (search rules) (search rules)));
}
