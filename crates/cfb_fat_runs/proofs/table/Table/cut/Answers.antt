use Rattle.std.proofs.Common.{◌+◌, sym, ap, ◌∙◌, arith}
use Rattle.std.specs.List.{insert}
use Rattle.cfb_fat_runs.specs.RunLists.{all_runs}
use Rattle.cfb_fat_runs.specs.Runs.{entry_at, tail_of}
use Rattle.cfb_fat_runs.specs.Tables.{entries_of, run_capacity, run_count}
use Rattle.cfb_fat_runs.proofs.Edited.{cut_made, runs_few, same_entries, SameRuns}
use Rattle.cfb_fat_runs.proofs.table.Table.cut.Goals as goal

pub invariant_of-self : goal.invariant_of-self
invariant_of-self c =
    let it = c.args.self.now in
    let r = c.get-run.result in
    let made = c.insert.ensures.runs ∙ ap (λ l. insert l (c.args.position + 1) (tail_of r c.args.at)) c.set.ensures.runs in
    let same : SameRuns it.len (all_runs it.runs) (all_runs c.insert.new.self) = cut_made it.len c.args.at c.args.position (all_runs it.runs) (all_runs c.insert.new.self) r r c.leading.result it.tiled it.few c.requires.inside c.get-run.ensures c.get-run.ensures c.leading.ensures
    (c.requires.from r) c.requires.to made in
    record { tiled = same.tiled; few = it.few }

pub returns-clause-entries : goal.returns-clause-entries
unfolding entries_of run_capacity run_count
returns-clause-entries c =
    let it = c.args.self.now in
    let r = c.get-run.result in
    let made = c.insert.ensures.runs ∙ ap (λ l. insert l (c.args.position + 1) (tail_of r c.args.at)) c.set.ensures.runs in
    let same : SameRuns it.len (all_runs it.runs) (all_runs c.insert.new.self) = cut_made it.len c.args.at c.args.position (all_runs it.runs) (all_runs c.insert.new.self) r r c.leading.result it.tiled it.few c.requires.inside c.get-run.ensures c.get-run.ensures c.leading.ensures
    (c.requires.from r) c.requires.to made in
    same_entries it.len (entry_at it.len (all_runs c.insert.new.self)) (entry_at it.len (all_runs it.runs)) (λ k less. sym (same.entries k less))

pub overflow_add-position : goal.overflow_add-position
overflow_add-position c = let it = c.args.self.now in let few = runs_few 0 it.len (all_runs it.runs) it.tiled in omega (arith, c.requires.inside, few, it.few)
