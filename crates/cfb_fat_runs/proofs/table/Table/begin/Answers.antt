use Rattle.std.proofs.Common.{◌+◌, ◌<◌, drop, ap, sym, subst, ◌∙◌, arith}
use Rattle.cfb_fat_runs.specs.RunLists.{all_runs}
use Rattle.cfb_fat_runs.specs.Runs.{head_of, start_of, tail_of}
use Rattle.cfb_fat_runs.proofs.Edited.{drop_two, runs_few}
use Rattle.cfb_fat_runs.proofs.table.Table.begin.Goals as goal

pub returns-clause-to : goal.returns-clause-to
returns-clause-to c =
    let it = c.args.self.now in
    let xs = (all_runs it.runs) in
    let p = c.args.position in
    let r = c.get.result in
    let new = c.cut.new.self in
    let rest = ap (drop (p + 1 + 1)) (c.cut.ensures.parts r c.get.ensures) ∙ drop_two xs (drop (p + 1) xs) p (head_of r c.args.at) (tail_of r c.args.at) c.requires.inside in
    subst (λ n. c.args.at < start_of n (drop (p + 1 + 1) (all_runs new.runs))) (sym c.cut.ensures.len) (subst (λ l. c.args.at < start_of it.len l) (sym rest) c.requires.to)

pub overflow_add-result : goal.overflow_add-result
overflow_add-result c = let it = c.args.self.now in let few = runs_few 0 it.len (all_runs it.runs) it.tiled in omega (arith, c.requires.inside, few, it.few)
