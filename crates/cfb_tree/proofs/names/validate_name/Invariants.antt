use Rattle.std.proofs.Common.{◌≡◌, ◌+◌, ◌≤◌, flat_map, length, drop, not}
use Rattle.std.specs.Char.Escape.{encode_utf16}
use Rattle.std.specs.List.{list_all}
use Rattle.std.specs.Str.{chars}
use Rattle.cfb_tree.specs.Names.{is_forbidden}
use Rattle.cfb_tree.proofs.names.validate_name.Given as goal

-- the units so far and those of what is left of the name; and what is left decides
abbrev pub invariant-loop-ch : goal.invariant-loop-ch
invariant-loop-ch l = record {
  few : l.units ≤ 31;
  all : l.units + length (flat_map (λ c. encode_utf16 c) (drop (length l.yielded) (chars l.name))) ≡ length (flat_map (λ c. encode_utf16 c) (chars l.name));
  allowed : list_all (λ c. not (is_forbidden c)) (drop (length l.yielded) (chars l.name)) ≡ list_all (λ c. not (is_forbidden c)) (chars l.name);
}
