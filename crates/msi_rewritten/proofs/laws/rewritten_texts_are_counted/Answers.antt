use Rattle.msi_rewritten.proofs.Counted.{counted_after}
use Rattle.msi_rewritten.proofs.laws.rewritten_texts_are_counted.Goals as goal

pub returns : goal.returns
returns c = counted_after
