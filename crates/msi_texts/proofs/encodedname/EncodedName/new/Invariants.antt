use Rattle.std.proofs.Common.{◌≡◌, ◌≤◌, ◌++◌, length, take, drop, encode_utf8_all}
use Rattle.std.specs.Str.{chars}
use Rattle.msi_texts.specs.StreamName.{spelled_after, spelled_name}
use Rattle.msi_texts.proofs.encodedname.EncodedName.new.Given as goal

-- what is written so far, and what is still to come, spell the whole name
abbrev pub invariant-loop-ch : goal.invariant-loop-ch
invariant-loop-ch l = record {
  text : take l.at l.bytes ++ encode_utf8_all (spelled_after l.pending (drop (length l.yielded) (chars l.name))) ≡ encode_utf8_all (spelled_name l.is_table (chars l.name));
  within : l.at ≤ length l.bytes;
  room : length l.bytes ≡ 93;
}
