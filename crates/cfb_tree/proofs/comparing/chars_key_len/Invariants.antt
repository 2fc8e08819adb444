use Rattle.std.proofs.Common.{◌≡◌, ◌*◌, ◌≤◌, flat_map, length, take}
use Rattle.std.specs.Char.Escape.{encode_utf16}
use Rattle.cfb_tree.specs.Names.{letter}
use Rattle.cfb_tree.proofs.comparing.chars_key_len.Given as goal

abbrev pub invariant-loop-ch : goal.invariant-loop-ch
invariant-loop-ch l = record {
  so_far : l.units ≡ length (flat_map (λ c. encode_utf16 (letter l.letters.letters.entries c)) (take l.ch-index l.chars));
  few : l.units ≤ 2 * l.ch-index;
}
