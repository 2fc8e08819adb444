use Rattle.std.proofs.Common.{◌≡◌, ap, sym, length, ◌∙◌, arith}
use Rattle.cfb_fat_runs.specs.RunLists.{all_runs, room_for_runs}
use Rattle.cfb_fat_runs.proofs.Blocked.{joined_long}
use Rattle.cfb_fat_runs.proofs.run_list.RunList.reserve.Goals as goal

pub returns-then-count-len-clause-ok : goal.returns-then-count-len-clause-ok
unfolding all_runs room_for_runs
returns-then-count-len-clause-ok c =
    let it = c.args.self.now in
    let long = joined_long it.len it.blocks.items it.filled it.inside in
    omega (arith, long, c.len.ensures, c.if-count-len.true, it.inside, it.blocks.ok.0)

pub returns-then-wanted-ge-TOO_MANY_BLOCKS-clause-enough : goal.returns-then-wanted-ge-TOO_MANY_BLOCKS-clause-enough
unfolding all_runs room_for_runs
returns-then-wanted-ge-TOO_MANY_BLOCKS-clause-enough c = λ enough.
    let it = c.args.self.now in
    let long = joined_long it.len it.blocks.items it.filled it.inside in
    absurd (omega (arith, enough, long, c.len.ensures, c.if-count-len.false, it.inside, it.blocks.ok.0))

pub returns-in_err-add_block-clause-enough : goal.returns-in_err-add_block-clause-enough
unfolding all_runs room_for_runs
returns-in_err-add_block-clause-enough c = λ enough.
    let it = c.args.self.now in
    let long = joined_long it.len it.blocks.items it.filled it.inside in
    absurd (omega (arith, enough, long, c.len.ensures, c.if-count-len.false, it.inside, it.blocks.ok.0))

pub returns-clause-ok : goal.returns-clause-ok
unfolding all_runs room_for_runs
returns-clause-ok c =
    let it = c.args.self.now in
    let now = c.loop-self.self in
    let long = joined_long it.len it.blocks.items it.filled it.inside in
    let same = ap length c.loop-self.invariant.runs in
    let wanted = c.div_ceil-wanted.ensures in
    omega (arith, long, same, wanted, c.in-Some.ensures, c.loop-self-test.false, c.len-in-loop-self.ensures, now.blocks.ok.0)
