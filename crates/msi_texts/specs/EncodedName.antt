-- What an encoded name holds.
use Rattle.std.specs.Prelude.{ℕ, List, take}
use Rattle.msi_texts.specs.declared.encodedname.EncodedName.{EncodedName}

-- its bytes in UTF-8
abbrev pub encoded_text : EncodedName → List ℕ
encoded_text name = take name.len name.bytes
