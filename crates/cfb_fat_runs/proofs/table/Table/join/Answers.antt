use Rattle.std.proofs.Common.{◌+◌, ◌++◌, ◌<◌, drop, length, take, ap, sym, ◌∙◌, arith}
use Rattle.cfb_fat_runs.specs.RunLists.{all_runs}
use Rattle.cfb_fat_runs.specs.Runs.{entry_at}
use Rattle.cfb_fat_runs.specs.Tables.{entries_of}
use Rattle.cfb_fat_runs.proofs.Edited.{join_made, same_entries, SameRuns}
use Rattle.cfb_fat_runs.proofs.table.Table.join.Goals as goal

pub invariant_of-self : goal.invariant_of-self
invariant_of-self c =
    let it = c.args.self.now in
    let xs = all_runs it.runs in
    let ys = all_runs c.remove.new.self in
    let p = c.args.position in
    let inside : p + 1 < length xs = omega (arith, c.if-position-len-2.false, c.len-2.ensures) in
    let made = c.remove.ensures.runs ∙ ap (λ l. take (p + 1) l ++ drop (p + 1 + 1) l) c.set.ensures.runs in
    let same : SameRuns it.len xs ys = join_made it.len p xs ys c.get-run.result c.get-then.result c.get-run.result it.tiled inside c.get-run.ensures c.get-then.ensures c.get-run.ensures
    (c.leads_on.ensures.0 c.if-leads_on.true) made in
    record { tiled = same.tiled; few = it.few }

pub returns-then-leads_on-clause-entries : goal.returns-then-leads_on-clause-entries
unfolding entries_of
returns-then-leads_on-clause-entries c =
    let it = c.args.self.now in
    let xs = all_runs it.runs in
    let ys = all_runs c.remove.new.self in
    let p = c.args.position in
    let inside : p + 1 < length xs = omega (arith, c.if-position-len-2.false, c.len-2.ensures) in
    let made = c.remove.ensures.runs ∙ ap (λ l. take (p + 1) l ++ drop (p + 1 + 1) l) c.set.ensures.runs in
    let same : SameRuns it.len xs ys = join_made it.len p xs ys c.get-run.result c.get-then.result c.get-run.result it.tiled inside c.get-run.ensures c.get-then.ensures c.get-run.ensures
    (c.leads_on.ensures.0 c.if-leads_on.true) made in
    same_entries it.len (entry_at it.len ys) (entry_at it.len xs) (λ k less. sym (same.entries k less))
