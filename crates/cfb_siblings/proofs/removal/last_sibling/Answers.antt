use Rattle.std.specs.Prelude.{map}
use Rattle.std.proofs.lemmas.List.{length-map}
use Rattle.cfb_tree.specs.EntryViews.{entry_in}
use Rattle.cfb_siblings.proofs.Entries.{found_in, lost_in}
use Rattle.cfb_siblings.proofs.LastOnLeft.{went_first, went_there, went_on, came_last, never_past}
use Rattle.cfb_siblings.proofs.removal.last_sibling.Goals as goal

pub loop-step-init : goal.loop-step-init
loop-step-init c = λ ids h once some_entry. went_first (map entry_in c.args.entries.now) c.args.first ids h some_entry

pub returns-in_default : goal.returns-in_default
returns-in_default c = λ ids h once some_entry.
    went_there (map entry_in c.args.entries.now) c.args.first ids c.loop-step.last c.loop-step._step (c.loop-step.invariant ids h once some_entry)
    (lost_in c.args.entries.now c.loop-step.last c.in_default.ensures.lookup.3)

pub returns-then-sibling : goal.returns-then-sibling
returns-then-sibling c = λ ids h once some_entry.
    let at = c.in-Some.ensures.lookup in
    came_last (map entry_in c.args.entries.now) c.args.first ids c.loop-step.last c.loop-step._step (c.loop-step.invariant ids h once some_entry)
    (entry_in c.in-Some.sibling.now) (found_in c.args.entries.now c.loop-step.last c.in-Some.sibling.now at.3.0 at.1) c.if-sibling.true

pub loop-step-preserved : goal.loop-step-preserved
loop-step-preserved c = λ ids h once some_entry.
    let at = c.in-Some.ensures.lookup in
    went_on (map entry_in c.args.entries.now) c.args.first ids c.loop-step.last c.loop-step._step (c.loop-step.invariant ids h once some_entry)
    (entry_in c.in-Some.sibling.now) (found_in c.args.entries.now c.loop-step.last c.in-Some.sibling.now at.3.0 at.1) c.if-sibling.false

pub returns : goal.returns
returns c = λ ids h once some_entry.
    never_past (map entry_in c.args.entries.now) c.args.first ids c.loop-step.last c.loop-step._step (c.loop-step.invariant ids h once some_entry)
    h once (simp length-map c.loop-step-test.false)
