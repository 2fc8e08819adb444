use Rattle.std.proofs.Common.{◌≡◌, ◌∙◌, ℕ, List, ap, refl, true, chars}
use Rattle.std.specs.Prelude.{encode_utf8_all, IsUtf8}
use Rattle.std.proofs.lemmas.Str.{chars-encodes, scalars-chars}
use Rattle.msi_spec.specs.Package.{data_name, pool_name, stream_name}
use Rattle.msi_texts.specs.StreamName.{spelled_name}
use Rattle.msi_texts.proofs.SpelledNames.{scalars-spelled_name}
use Rattle.msi_store.proofs.placing.table_streams.Goals as goal

said : (name : List ℕ) → IsUtf8 name → chars (encode_utf8_all (spelled_name true (chars name))) ≡ stream_name name
said name text = chars-encodes (spelled_name true (chars name)) (scalars-spelled_name true (chars name) (scalars-chars name text))

pub returns-clause-ok : goal.returns-clause-ok
unfolding lib.Utf8.encode
returns-clause-ok c = record {
  keys = c.in_ok-keys.ensures.ok;
  pool = ap chars c.in_ok-pool.ensures.text ∙ said pool_name (pool_name, (refl, refl));
  data_stream = ap chars c.in_ok-data.ensures.text ∙ said data_name (data_name, (refl, refl));
}
