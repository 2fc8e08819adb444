use Rattle.std.proofs.Common.{◌≡◌, sym, ◌∙◌, arith, length, take}
use Rattle.std.specs.Char.Utf16.{utf16_chars}
use Rattle.cfb_tree.proofs.UnitSteps.{tail_none, none_left}
use Rattle.cfb_tree.proofs.comparing.decoded_units.Goals as goal

pub returns : goal.returns
returns c =
    let i = c.units.invariant in
    let empty : length c.units.rest.now ≡ 0 = grind (arith, c.units-test.ensures) in
    (none_left c.args.units.now c.units.rest.now (take c.units.len c.units.found) i.so_far empty, omega (arith, i.few, c.requires), i.long, i.scalars)

pub returns-in_default : goal.returns-in_default
returns-in_default c = λ name e.
    tail_none (take c.units.len c.units.found) (utf16_chars c.units.rest.now) c.in_default.ensures name (sym c.units.invariant.so_far ∙ e)
