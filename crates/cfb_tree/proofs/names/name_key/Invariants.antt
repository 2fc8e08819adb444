use Rattle.std.proofs.Common.{◌≡◌, ◌++◌, flat_map, length, drop}
use Rattle.std.specs.Char.Escape.{encode_utf16}
use Rattle.std.specs.Str.{chars}
use Rattle.cfb_tree.specs.Names.{letter}
use Rattle.cfb_tree.proofs.names.name_key.Given as goal

-- the units so far, and those of what is left of the name
abbrev pub invariant-loop-ch : goal.invariant-loop-ch
invariant-loop-ch l =
    l.key.items ++ flat_map (λ c. encode_utf16 (letter l.letters.letters.entries c)) (drop (length l.yielded) (chars l.name)) ≡ flat_map (λ c. encode_utf16 (letter l.letters.letters.entries c)) (chars l.name)
