use Rattle.std.proofs.Common.{◌≡◌, ◌-◌, ◌<◌, arith}
use Rattle.std.proofs.lemmas.List.{get_or_past}
use Rattle.msi_spec.specs.Uses.{left_at}
use Rattle.msi_spec.proofs.Down.{short_at}
use Rattle.msi_spec.proofs.uses.take_cell.Goals as goal

pub returns-then-index-left : goal.returns-then-index-left
returns-then-index-left c =
    let above : 0 < c.in-Str.place = omega arith in
    let none : left_at c.args.left.now (c.in-Str.place - 1) ≡ 0 = get_or_past c.args.left.now (c.in-Str.place - 1) 0 (omega (arith, c.if-index-left.true, c.number.ensures.value)) in
    short_at c.args.left.now c.args.cell c.in-Str.place c.in-Str.is above none
