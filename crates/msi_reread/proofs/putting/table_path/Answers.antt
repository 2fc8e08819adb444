use Rattle.std.proofs.Common.{◌≡◌, ◌∙◌, [], ◌∷◌, ap, true, encode_utf8_all, Some}
use Rattle.std.specs.Prelude.{chars, string_bytes}
use Rattle.std.proofs.lemmas.Result.{IfOk-weaker}
use Rattle.cfb_entries.specs.Rules.{names_in}
use Rattle.msi_spec.specs.Package.{stream_name}
use Rattle.msi_stored.proofs.Children.{table_path}
use Rattle.msi_texts.specs.StreamName.{spelled_name}
use Rattle.msi_reread.proofs.putting.table_path.Goals as goal

pub returns-clause-path : goal.returns-clause-path
returns-clause-path c =
    IfOk-weaker c.encode.result (λ text. string_bytes text ≡ encode_utf8_all (spelled_name true (chars c.args.name.now))) (λ text. names_in (string_bytes text) ≡ Some (stream_name c.args.name.now ∷ []))
    (λ text is. ap names_in is ∙ table_path c.args.name.now c.utf8.name c.requires) c.encode.ensures.text
