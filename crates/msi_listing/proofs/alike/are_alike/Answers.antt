use Rattle.msi_listing.proofs.AlikeLists.{as_long}
use Rattle.msi_listing.proofs.alike.are_alike.Goals as goal

pub returns-then-one-other : goal.returns-then-one-other
returns-then-one-other g c = (λ h. absurd (cc h), λ all. absurd (c.if-one-other.true (as_long g.T.Alike.same c.args.one.now c.args.other.now all)))
