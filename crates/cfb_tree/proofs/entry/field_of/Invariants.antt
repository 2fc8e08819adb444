use Rattle.std.proofs.Common.{◌≡◌, ◌++◌, ◌-◌, ◌+◌, flat_map, length, take, drop, replicate}
use Rattle.std.specs.Char.Escape.{encode_utf16}
use Rattle.std.specs.Str.{chars}
use Rattle.cfb_tree.proofs.entry.field_of.Given as goal

-- the units so far stand in front, behind them zeros; and they are followed by those of what is left of the name
abbrev pub invariant-loop-ch : goal.invariant-loop-ch
invariant-loop-ch l = record {
  whole : length l.field ≡ 32;
  zeros : drop l.len l.field ≡ replicate (32 - l.len) 0;
  units : take l.len l.field ++ flat_map (λ c. encode_utf16 c) (drop (length l.yielded) (chars l.name)) ≡ flat_map (λ c. encode_utf16 c) (chars l.name);
  count : l.len + length (flat_map (λ c. encode_utf16 c) (drop (length l.yielded) (chars l.name))) ≡ length (flat_map (λ c. encode_utf16 c) (chars l.name));
}
