use Rattle.std.proofs.Common.{◌≡◌, ◌+◌, ◌<◌, ◌∷◌, sym, ap, length, ◌∙◌, arith}
use Rattle.std.proofs.lemmas.List.{get_or-set_other, get_or_default}
use Rattle.cfb_fat_runs.specs.Blocks.{runs_in}
use Rattle.cfb_fat_runs.proofs.Blocked.{moved_on}
use Rattle.cfb_fat_runs.proofs.run_list.move_on.Goals as goal

pub returns-clause-runs : goal.returns-clause-runs
returns-clause-runs c =
    let bs = c.args.blocks.now.items in
    let at = c.args.at in
    let run = c.take_last-run.result in
    let x = c.take_last-run.new.self in
    let first = c.index_mut.result.now in
    let next = c.index_mut-2.result.now in
    let off : at + 1 ≡ at → ⊥ = λ e. absurd (omega (arith, e)) in
    let there : at + 1 < length bs = c.requires.inside in
    moved_on at bs first x c.put_first.new.self run there
    (ap runs_in (sym c.index_mut.ensures.value) ∙ c.take_last-run.ensures)
    (c.put_first.ensures ∙ ap (λ b. run ∷ runs_in b) (c.index_mut-2.ensures.value ∙ get_or-set_other bs at (at + 1) x next off ∙ get_or_default bs (at + 1) next first there))
