use Rattle.std.proofs.Common.{map, ◌++◌, arith, length-append, subst, sym}
use Rattle.cfb_siblings.proofs.Entries.{found_in, lost_in}
use Rattle.cfb_tree.specs.EntryViews.{entry_in}
use Rattle.cfb_entries.proofs.Sides.{Down, down_room, down_there, down_more}
use Rattle.cfb_entries.proofs.siblings.descend.Goals as goal

pub returns-then-len-entries-clause-answer : goal.returns-then-len-entries-clause-answer
returns-then-len-entries-clause-answer c = λ here rest siblings kept fits.
    absurd (omega (
      arith,
      down_room (map entry_in c.args.entries.now) c.down.above.items c.down.at (here ++ rest) c.down-test.true (c.down.invariant here rest siblings kept),
      c.if-len-entries.true,
      c.len.ensures,
      c.down.above.ok.0,
      fits,
      length-append here rest,
    ))

pub returns-in_default-clause-answer : goal.returns-in_default-clause-answer
returns-in_default-clause-answer c = λ here rest siblings kept fits.
    absurd (down_there (map entry_in c.args.entries.now) c.down.above.items c.down.at (here ++ rest) c.down-test.true
    (lost_in c.args.entries.now c.down.at c.in_default.ensures.lookup.3) (c.down.invariant here rest siblings kept))

pub down-preserved : goal.down-preserved
down-preserved c = λ here rest siblings kept.
    let directory = map entry_in c.args.entries.now in
    let at = c.in-Some.ensures.lookup in
    let e = c.in-Some.entry.now in
    subst (λ xs. Down directory xs e.left_sibling (here ++ rest)) (sym c.in_ok-push.ensures.items)
    (down_more directory c.down.above.items c.down.at (entry_in e) (here ++ rest) c.down-test.true
    (found_in c.args.entries.now c.down.at e at.3.0 at.1) (c.down.invariant here rest siblings kept))
