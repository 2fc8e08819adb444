use Rattle.std.proofs.Common.{refl}
use Rattle.cfb_tree.specs.EntryViews.{entry_in}
use Rattle.cfb_siblings.specs.Rotations.{raises_left}
use Rattle.cfb_siblings.proofs.Entries.{found_in}
use Rattle.cfb_siblings.proofs.rotation.raise_left.Goals as goal

pub returns : goal.returns
returns c =
    let at = c.in-Some.ensures.lookup in
    let below = c.in-Some-get.ensures.lookup in
    raises_left (entry_in c.in-Some.upper.now) (entry_in c.in-Some-get.lower.now)
    (found_in c.args.entries.now c.args.id c.in-Some.upper.now at.3.0 at.1) c.if-child.false
    (found_in c.args.entries.now _ c.in-Some-get.lower.now below.3.0 below.1) refl
