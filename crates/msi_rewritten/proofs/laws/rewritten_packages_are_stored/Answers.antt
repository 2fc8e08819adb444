use Rattle.msi_rewritten.proofs.Put.{pool_after, summary_after}
use Rattle.msi_rewritten.proofs.Stored.{named_after, stores_after}
use Rattle.msi_rewritten.proofs.laws.rewritten_packages_are_stored.Goals as goal

pub returns-clause-stores : goal.returns-clause-stores
returns-clause-stores c = stores_after

pub returns-clause-named : goal.returns-clause-named
returns-clause-named c = λ letters old P usable named stores k t stored pool r. named_after letters old old P usable named stores k t stored pool r

pub returns-clause-pool : goal.returns-clause-pool
returns-clause-pool c = λ letters old new P usable named k t at bytes put held has. pool_after letters P usable named k t at old new bytes put held has

pub returns-clause-summary : goal.returns-clause-summary
returns-clause-summary c = λ letters old new P usable named k t at bytes put summary has. summary_after letters P usable named k t at old new bytes put summary has
