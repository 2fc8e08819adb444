use Rattle.std.proofs.Common.{◌+◌, drop, take, get_or, sym, subst}
use Rattle.std.proofs.lemmas.List.{take_more}
use Rattle.cfb_soundness.specs.Uses.{EntriesHave}
use Rattle.cfb_soundness.specs.Views.{tables_in}
use Rattle.cfb_soundness.proofs.Having.{none_fits, none_gone, one_gone, Gone}
use Rattle.cfb_soundness.proofs.Taking.{parted}
use Rattle.cfb_soundness.proofs.streams.Taken.take_entries.Goals as goal

pub loop-id-init : goal.loop-id-init
loop-id-init g c = none_gone (tables_in c.args.file.now c.args.file_len) c.args.self.now

pub loop-id-preserved : goal.loop-id-preserved
loop-id-preserved g c =
    let t = tables_in c.args.file.now c.args.file_len in
    let ids = c.args.ids.now in
    let i = c.loop-id.id-index in
    let (own, minis, has, takes) = c.in_ok-take_entry.ensures.took c.if-not-branch.false in
    subst (λ xs. Gone t xs c.args.self.now c.take_entry.new.self) (sym (take_more ids i 0 c.loop-id-test.true))
    (one_gone t (take i ids) (get_or ids i 0) c.args.self.now c.loop-id.self c.take_entry.new.self own minis c.loop-id.invariant has takes)

pub returns-then-not-branch-clause-refused_only_if : goal.returns-then-not-branch-clause-refused_only_if
returns-then-not-branch-clause-refused_only_if g c = λ no sectors minis have can.
    let t = tables_in c.args.file.now c.args.file_len in
    let ids = c.args.ids.now in
    let i = c.loop-id.id-index in
    none_fits t (take i ids) (drop (i + 1) ids) (get_or ids i 0) c.args.self.now c.loop-id.self c.loop-id.invariant
    (c.in_ok-take_entry.ensures.refused_only_if c.if-not-branch.true) sectors minis
    (subst (λ xs. EntriesHave t xs sectors minis) (parted ids i c.loop-id-test.true) have) can
