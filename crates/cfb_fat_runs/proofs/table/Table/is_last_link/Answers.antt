use Rattle.std.proofs.Common.{arith, sym, subst, ◌∙◌}
use Rattle.std.proofs.lemmas.Bool.{false≢true}
use Rattle.std.proofs.lemmas.List.{get_or_read}
use Rattle.cfb_fat_runs.specs.RunLists.{all_runs}
use Rattle.cfb_fat_runs.specs.Runs.{IsLink}
use Rattle.cfb_fat_runs.specs.declared.runs.Run.{Run}
use Rattle.cfb_fat_runs.proofs.Edited.{not_end, right_at, special_not_end}
use Rattle.cfb_fat_runs.proofs.table.Table.is_last_link.Goals as goal

pub returns-then-at-end-clause-other : goal.returns-then-at-end-clause-other
returns-then-at-end-clause-other c = λ no d sector.
    let it = c.args.self.now in
    not_end _ _ c.args.at (right_at 0 it.len c.args.position (all_runs it.runs) d it.tiled c.requires.inside) (omega (arith, c.requires.few, it.few)) (λ same. c.if-at-end.true (same ∙ sym c.end.ensures))

pub returns-clause-other : goal.returns-clause-other
returns-clause-other c = λ no d sector.
    let it = c.args.self.now in
    let here = get_or_read (all_runs it.runs) c.args.position c.get.result c.requires.inside c.get.ensures d in
    special_not_end _ _ c.args.at (right_at 0 it.len c.args.position (all_runs it.runs) d it.tiled c.requires.inside)
    (λ link. false≢true (sym no ∙ c.is_link.ensures.1 (subst (λ (x : Run). IsLink x.kind) (sym here) link)))
