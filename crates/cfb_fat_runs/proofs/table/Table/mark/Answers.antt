use Rattle.std.proofs.Common.{◌+◌, drop, ap, sym, subst, ◌∙◌, arith}
use Rattle.std.proofs.lemmas.List.{drop-set-lt}
use Rattle.cfb_fat_runs.specs.RunLists.{all_runs}
use Rattle.cfb_fat_runs.specs.Runs.{start_of, AreTiled}
use Rattle.cfb_fat_runs.specs.Tables.{entries_of}
use Rattle.cfb_fat_runs.specs.declared.runs.Run.{Run}
use Rattle.cfb_fat_runs.proofs.Marking.{freed_entries, mark_made, FreesRun}
use Rattle.cfb_fat_runs.proofs.table.Table.mark.Goals as goal

pub invariant_of-self : goal.invariant_of-self
invariant_of-self c =
    let it = c.args.self.now in
    let m = c.get-run.result in
    let did = mark_made it.len c.args.position c.args.at (all_runs it.runs) m it.tiled c.requires.inside c.get-run.ensures (ap (λ (x : Run). x.first) c.get-run.ensures ∙ c.requires.first m) in
    record { tiled = subst (AreTiled 0 it.len) (sym c.set.ensures.runs) did.tiled; few = it.few }

pub returns-clause-frees : goal.returns-clause-frees
unfolding entries_of
returns-clause-frees c =
    let it = c.args.self.now in
    let m = c.get-run.result in
    let stop = start_of it.len (drop (c.args.position + 1) (all_runs it.runs)) in
    let did = mark_made it.len c.args.position c.args.at (all_runs it.runs) m it.tiled c.requires.inside c.get-run.ensures (ap (λ (x : Run). x.first) c.get-run.ensures ∙ c.requires.first m) in
    freed_entries it.len c.args.at stop (all_runs it.runs) (all_runs c.set.new.self) (subst (FreesRun it.len c.args.at stop (all_runs it.runs)) (sym c.set.ensures.runs) did)

pub returns-clause-after : goal.returns-clause-after
returns-clause-after c =
    let it = c.args.self.now in
    let m = c.get-run.result in
    (mark_made it.len c.args.position c.args.at (all_runs it.runs) m it.tiled c.requires.inside c.get-run.ensures (ap (λ (x : Run). x.first) c.get-run.ensures ∙ c.requires.first m)).after

pub returns-clause-stop : goal.returns-clause-stop
returns-clause-stop c =
    let it = c.args.self.now in
    ap (λ l. start_of it.len (drop (c.args.position + 1) l)) c.set.ensures.runs ∙ ap (start_of it.len) (drop-set-lt (c.args.position + 1) (all_runs it.runs) c.args.position _ (omega arith))
