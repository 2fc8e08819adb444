use Rattle.std.proofs.Common.{◌≡◌, ◌+◌, ◌<◌, length, get_or, sym, subst, arith, ⊎_elim}
use Rattle.std.proofs.lemmas.Bool.{cases_lt}
use Rattle.cfb_fat_runs.specs.RunLists.{all_runs}
use Rattle.cfb_fat_runs.specs.declared.runs.Kind.TheVariants.{Linked}
use Rattle.cfb_fat_runs.specs.declared.runs.Run.{Run}
use Rattle.cfb_fat_runs.proofs.Edited.{begins_at, some_runs, start_none, start_some}
use Rattle.cfb_fat_runs.proofs.table.Table.find.Goals as goal

pub loop-high-init : goal.loop-high-init
loop-high-init c =
    let it = c.args.self.now in
    let some = some_runs 0 it.len (all_runs it.runs) (omega (arith, c.requires)) it.tiled in
    record {
      below = omega (arith, some, c.len-high.ensures);
      most = omega (arith, c.len-high.ensures);
      from = λ d. let e = begins_at 0 it.len (all_runs it.runs) d it.tiled some in omega (arith, e);
      to = λ d more. absurd (omega (arith, more, c.len-high.ensures));
    }

pub returns-clause-to : goal.returns-clause-to
returns-clause-to c =
    let it = c.args.self.now in
    let inv = c.loop-high.invariant in
    let xs = (all_runs it.runs) in
    let low = c.loop-high.low in
    let d : Run = record { first = 0; kind = Linked 0 } in
    let below = inv.below in
    let next : c.loop-high.high ≡ low + 1 = omega (arith, below, c.loop-high-test.false) in
    ⊎_elim
    (λ more. let at = start_some it.len (low + 1) xs d more in
    let less = inv.to d (omega (arith, next, more)) in
    subst (λ n. c.args.index < n) (sym at) (subst (λ n. c.args.index < (get_or xs n d).first) next less))
    (λ none. let at = start_none it.len (low + 1) xs none in omega (arith, at, c.requires))
    (cases_lt (low + 1) (length xs))
