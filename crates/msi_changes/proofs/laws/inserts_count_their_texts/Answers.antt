use Rattle.msi_changes.proofs.UsesKept.{used_are_counted}
use Rattle.msi_changes.proofs.laws.inserts_count_their_texts.Goals as goal

pub returns-clause-counted : goal.returns-clause-counted
returns-clause-counted c = λ columns others pool rows uses. used_are_counted columns others pool rows uses
