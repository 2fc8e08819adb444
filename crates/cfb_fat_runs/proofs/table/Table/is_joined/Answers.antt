use Rattle.std.proofs.Common.{◌≡◌, ◌+◌, ◌-◌, ◌<◌, length, get_or, sym, ap, subst, ◌∙◌, arith}
use Rattle.cfb_fat_runs.specs.RunLists.{all_runs}
use Rattle.cfb_fat_runs.specs.Longest.{begins_run}
use Rattle.cfb_fat_runs.specs.Tables.{entries_of}
use Rattle.cfb_fat_runs.proofs.RunStarts.{begins_behind}
use Rattle.cfb_fat_runs.proofs.Walked.{begins_with}
use Rattle.cfb_fat_runs.proofs.table.Table.is_joined.Goals as goal

pub returns-clause-begins : goal.returns-clause-begins
returns-clause-begins c =
    let it = c.args.self.now in
    let p = c.args.position in
    let a = c.get-front.result in
    let b = c.get-run.result in
    let e : p - 1 + 1 ≡ p = omega (arith, c.if-position-eq0.false) in
    let is_b : b ≡ get_or (all_runs it.runs) (p - 1 + 1) b = c.get-run.ensures ∙ ap (λ n. get_or (all_runs it.runs) n b) (sym e) in
    ap (begins_run (entries_of it)) (begins_with it p b c.requires c.get-run.ensures)
    ∙ begins_behind it (p - 1) a b c.leads_on.result (subst (λ n. n < length (all_runs it.runs)) (sym e) c.requires) c.get-front.ensures is_b c.leads_on.ensures.0 c.leads_on.ensures.1
