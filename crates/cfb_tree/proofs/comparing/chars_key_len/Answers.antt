use Rattle.std.proofs.Common.{◌≤◌, ◌∙◌, ap, arith, flat_map, length}
use Rattle.std.proofs.lemmas.List.{take_all}
use Rattle.std.specs.Char.Escape.{encode_utf16}
use Rattle.cfb_tree.specs.Names.{letter, name_key}
use Rattle.cfb_tree.proofs.comparing.chars_key_len.Goals as goal

pub overflow_add-units : goal.overflow_add-units
overflow_add-units c =
    let two : c.len_utf16-units.result ≤ 2 = grind (arith, c.len_utf16-units.ensures.bmp, c.len_utf16-units.ensures.surrogate_pair) in
    omega (arith, two, c.loop-ch.invariant.few, c.loop-ch-test.true, c.requires)

pub returns : goal.returns
unfolding name_key
returns c =
    c.loop-ch.invariant.so_far
    ∙ ap (λ cs. length (flat_map (λ d. encode_utf16 (letter c.args.letters.now.letters.entries d)) cs)) (take_all c.loop-ch.ch-index c.args.chars.now c.loop-ch-test.false)
