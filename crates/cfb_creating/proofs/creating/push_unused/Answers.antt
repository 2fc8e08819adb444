use Rattle.std.proofs.Common.{ap, ◌∙◌, ◌++◌}
use Rattle.cfb_creating.proofs.NewEntries.{copies_more}
use Rattle.cfb_creating.proofs.creating.push_unused.Goals as goal
use Rattle.cfb_sectors.specs.Copies.{unused_entry}

pub loop-i-preserved : goal.loop-i-preserved
loop-i-preserved c =
    let before = c.loop-i.out.items in
    copies_more c.loop-i._i c.args.out.now.items before c.write_to.new.writer.items unused_entry c.loop-i.invariant
    (c.in_ok-write_to.ensures.ok ∙ ap (λ xs. before ++ xs) c.unallocated.ensures.bytes)
