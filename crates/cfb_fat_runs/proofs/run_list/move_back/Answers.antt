use Rattle.std.proofs.Common.{◌≡◌, ◌+◌, ◌<◌, [], ◌∷◌, ◌++◌, sym, ap, length, ◌∙◌, arith}
use Rattle.std.proofs.lemmas.List.{get_or-set_other, get_or_default}
use Rattle.cfb_fat_runs.specs.Blocks.{runs_in}
use Rattle.cfb_fat_runs.proofs.Blocked.{moved_back}
use Rattle.cfb_fat_runs.proofs.run_list.move_back.Goals as goal

pub returns-clause-runs : goal.returns-clause-runs
returns-clause-runs c =
    let bs = c.args.blocks.now.items in
    let at = c.args.at in
    let run = c.take_first-run.result in
    let y = c.take_first-run.new.self in
    let first = c.index_mut.result.now in
    let before = c.index_mut-2.result.now in
    let off : at ≡ at + 1 → ⊥ = λ e. absurd (omega (arith, e)) in
    let there : at + 1 < length bs = c.requires.inside in
    let here : at < length bs = omega (arith, there) in
    moved_back at bs first c.put_last.new.self y run there
    (ap runs_in (sym c.index_mut.ensures.value) ∙ c.take_first-run.ensures)
    (c.put_last.ensures ∙ ap (λ b. runs_in b ++ run ∷ []) (c.index_mut-2.ensures.value ∙ get_or-set_other bs (at + 1) at y before off ∙ get_or_default bs at before first here))
