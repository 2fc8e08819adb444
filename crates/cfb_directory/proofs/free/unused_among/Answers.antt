use Rattle.std.proofs.Common.{◌-◌, arith, subst, sym, IsTrue}
use Rattle.std.proofs.lemmas.List.{length-map}
use Rattle.std.proofs.lemmas.Option.{slice_get_within}
use Rattle.cfb_tree.specs.EntryViews.{entry_in}
use Rattle.cfb_directory.specs.Entries.{entries_in, IsOneOf}
use Rattle.cfb_directory.proofs.Noted.{next_noted, next_used}
use Rattle.cfb_directory.proofs.free.unused_among.Goals as goal

pub loop-id-init : goal.loop-id-init
loop-id-init c = λ k from unused.
    let es = c.args.entries.now in
    let below = slice_get_within (entries_in es) k unused.entry unused.found in
    let size = length-map es entry_in in
    let few = unused.fits in
    absurd (omega (arith, below, size, few, from))

pub loop-id-preserved-in-Continue-1 : goal.loop-id-preserved-in-Continue-1
loop-id-preserved-in-Continue-1 c = λ k from unused.
    let some = c.loop-id-test.true in
    subst (λ ns. IsOneOf ns k) (sym c.in_ok-push.ensures.items)
    (next_noted c.loop-id.found.items (c.loop-id.id - 1) (entries_in c.args.entries.now) (λ id above. c.loop-id.invariant id (omega (arith, above, some))) k from unused)

pub loop-id-preserved : goal.loop-id-preserved
loop-id-preserved c = λ k from unused.
    let some = c.loop-id-test.true in
    next_used c.loop-id.found.items (c.loop-id.id - 1) (entries_in c.args.entries.now)
    (λ is. let told : IsTrue c.is_unused.result = c.is_unused.ensures.1 is in let used = c.if-is_unused.false in absurd (cc))
    (λ id above. c.loop-id.invariant id (omega (arith, above, some))) k from unused
