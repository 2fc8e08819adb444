use Rattle.std.proofs.Common.{◌≡◌, refl, ◌<◌, ◌≤◌, ◌⊎◌, get_or, drop, inl, inr, ap, subst, sym, ◌∙◌, arith, ◌∷◌}
use Rattle.std.specs.Prelude.{Some}
use Rattle.std.specs.Char.{IsScalar}
use Rattle.std.specs.Char.Utf16.{utf16_chars}
use Rattle.cfb_tree.proofs.UnitSteps.{lone_first, unpaired_first, pair_first}
use Rattle.cfb_tree.proofs.comparing.first_char.Goals as goal

pub returns-in-Some : goal.returns-in-Some
returns-in-Some c =
    let units = c.args.units.now in
    let is : c.in-Some.ch ≡ get_or units 0 0 = c.in-Some.ensures.value.1 ∙ c.from-high.ensures in
    let apart : (get_or units 0 0 < 0xD800) ⊎ (0xE000 ≤ get_or units 0 0) = grind (arith, c.in-Some.ensures.cases, c.from-high.ensures) in
    (lone_first units c.requires apart ∙ ap (λ ch. Some ch ∷ utf16_chars (drop 1 units)) (sym is), omega arith, c.requires, subst IsScalar (sym c.in-Some.ensures.value.1) c.in-Some.ensures.value.0)

pub returns-then-high-ge56320 : goal.returns-then-high-ge56320
returns-then-high-ge56320 c = λ name.
    let units = c.args.units.now in
    let in_range = c.in_default.ensures.cases in
    let small = c.type_inv.units 0 in
    let from : 0xD800 ≤ get_or units 0 0 = grind (arith, in_range, c.from-high.ensures, small) in
    let below : get_or units 0 0 < 0xE000 = grind (arith, in_range, c.from-high.ensures, small) in
    unpaired_first units name c.requires from below (inl (omega (arith, c.if-high-ge56320.true, c.from-high.ensures)))

pub returns-then-units-lt2 : goal.returns-then-units-lt2
returns-then-units-lt2 c = λ name.
    let units = c.args.units.now in
    let in_range = c.in_default.ensures.cases in
    let small = c.type_inv.units 0 in
    let from : 0xD800 ≤ get_or units 0 0 = grind (arith, in_range, c.from-high.ensures, small) in
    let below : get_or units 0 0 < 0xE000 = omega (arith, c.if-high-ge56320.false, c.from-high.ensures) in
    unpaired_first units name c.requires from below (inr (inl c.if-units-lt2.true))

pub returns-then-low-lt56320 : goal.returns-then-low-lt56320
returns-then-low-lt56320 c = λ name.
    let units = c.args.units.now in
    let in_range = c.in_default.ensures.cases in
    let small = c.type_inv.units 0 in
    let from : 0xD800 ≤ get_or units 0 0 = grind (arith, in_range, c.from-high.ensures, small) in
    let below : get_or units 0 0 < 0xE000 = omega (arith, c.if-high-ge56320.false, c.from-high.ensures) in
    unpaired_first units name c.requires from below (inr (inr (inl (omega (arith, c.if-low-lt56320.true, c.from-low.ensures)))))

pub returns-then-low-ge57344 : goal.returns-then-low-ge57344
returns-then-low-ge57344 c = λ name.
    let units = c.args.units.now in
    let in_range = c.in_default.ensures.cases in
    let small = c.type_inv.units 0 in
    let from : 0xD800 ≤ get_or units 0 0 = grind (arith, in_range, c.from-high.ensures, small) in
    let below : get_or units 0 0 < 0xE000 = omega (arith, c.if-high-ge56320.false, c.from-high.ensures) in
    unpaired_first units name c.requires from below (inr (inr (inr (omega (arith, c.if-low-ge57344.true, c.from-low.ensures)))))

pub returns-in-Some-from_u32 : goal.returns-in-Some-from_u32
returns-in-Some-from_u32 c =
    let units = c.args.units.now in
    let in_range = c.in_default.ensures.cases in
    let small = c.type_inv.units 0 in
    let from : 0xD800 ≤ get_or units 0 0 = grind (arith, in_range, c.from-high.ensures, small) in
    let below : get_or units 0 0 < 0xDC00 = omega (arith, c.if-high-ge56320.false, c.from-high.ensures) in
    let low_from : 0xDC00 ≤ get_or units 1 0 = omega (arith, c.if-low-lt56320.false, c.from-low.ensures) in
    let low_below : get_or units 1 0 < 0xE000 = omega (arith, c.if-low-ge57344.false, c.from-low.ensures) in
    let two_there = c.if-units-lt2.false in (
      pair_first units (omega (arith, two_there)) from below low_from low_below
          ∙ ap (λ ch. Some ch ∷ utf16_chars (drop 2 units)) (sym (c.in-Some-from_u32.ensures.value.1 ∙ rw (c.from-high.ensures, c.from-low.ensures) refl)),
      omega arith,
      omega (arith, two_there),
      subst IsScalar (sym c.in-Some-from_u32.ensures.value.1) c.in-Some-from_u32.ensures.value.0,
    )
