use Rattle.std.proofs.Common.{◌≡◌, ◌++◌, length, drop, map, unwrap_or}
use Rattle.std.specs.Str.{chars}
use Rattle.msi_texts.specs.Page.{byte_of}
use Rattle.msi_texts.proofs.codepage.CodePage.encode_chars.Given as goal

-- the bytes so far and those to come are the text's
abbrev pub invariant-loop-ch : goal.invariant-loop-ch
invariant-loop-ch l = l.bytes.items ++ map (λ c. unwrap_or (byte_of l.self c) 63) (drop (length l.yielded) (chars l.text)) ≡ map (λ c. unwrap_or (byte_of l.self c) 63) (chars l.text)
