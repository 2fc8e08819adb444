use Rattle.std.proofs.Common.{sym, subst, ◌∙◌, arith}
use Rattle.cfb_fat_runs.specs.RunLists.{all_runs}
use Rattle.cfb_fat_runs.specs.Runs.{entry_at, AreTiled}
use Rattle.cfb_fat_runs.specs.Tables.{entries_of}
use Rattle.cfb_fat_runs.proofs.Edited.{relabel_made, set_entries, stop_least, EditsRuns}
use Rattle.cfb_fat_runs.proofs.table.Table.relabel.Goals as goal

pub invariant_of-self : goal.invariant_of-self
invariant_of-self c =
    let it = c.args.self.now in
    let m = c.get-run.result in
    let did = relabel_made it.len c.args.position c.args.at c.args.entry (all_runs it.runs) m c.kind_of.result it.tiled c.requires.inside c.get-run.ensures (c.requires.first m) c.requires.one c.kind_of.ensures.right c.kind_of.ensures.entry in
    record { tiled = subst (AreTiled 0 it.len) (sym c.set.ensures.runs) did.tiled; few = it.few }

pub returns-clause-entries : goal.returns-clause-entries
unfolding entries_of
returns-clause-entries c =
    let it = c.args.self.now in
    let m = c.get-run.result in
    let did = relabel_made it.len c.args.position c.args.at c.args.entry (all_runs it.runs) m c.kind_of.result it.tiled c.requires.inside c.get-run.ensures (c.requires.first m) c.requires.one c.kind_of.ensures.right c.kind_of.ensures.entry in
    let now : EditsRuns it.len c.args.at c.args.entry (all_runs it.runs) (all_runs c.set.new.self) = subst (EditsRuns it.len c.args.at c.args.entry (all_runs it.runs)) (sym c.set.ensures.runs) did in
    let stop = c.requires.one in
    let least = stop_least it.len c.args.position (all_runs it.runs) m it.tiled c.requires.inside c.get-run.ensures in
    c.join_before.ensures.entries ∙ c.join.ensures.entries ∙ sym (set_entries it.len c.args.at c.args.entry (entry_at it.len (all_runs it.runs)) (entry_at it.len (all_runs c.set.new.self)) (omega (arith, stop, least)) now.here now.others)
