-- Names that calls take or refuse.
use Rattle.std.proofs.Common.{◌≡◌, ◌∙◌, ℕ, Bool, false, List, ap, refl, encode_utf8_all}
use Rattle.std.specs.Prelude.{◌&&◌, not, IsUtf8}
use Rattle.std.specs.List.{list_any}
use Rattle.std.specs.Str.{chars}
use Rattle.std.proofs.lemmas.Str.{chars-encodes, scalars-chars}
use Rattle.cfb_medium.specs.declared.error.Error.TheVariants.{InvalidInput}
use Rattle.cfb_tree.specs.Names.{CaseTable}
use Rattle.msi_spec.specs.Package.{summary_name}
use Rattle.msi_spec.specs.Streams.{document_summary_name, is_separator, is_special, may_name, plain_stream_name, signature_ex_name, signature_name}
use Rattle.msi_texts.specs.Results.{unless_not}
use Rattle.msi_texts.specs.StreamName.{is_valid_name, spelled_name}
use Rattle.msi_texts.proofs.SpelledNames.{scalars-spelled_name}

-- the characters of an encoded name
pub plain_chars : (name : List ℕ) → IsUtf8 name → chars (encode_utf8_all (plain_stream_name name)) ≡ plain_stream_name name
plain_chars name text = chars-encodes (spelled_name false (chars name)) (scalars-spelled_name false (chars name) (scalars-chars name text))

-- what the three tests tell
pub may_by : (letters : CaseTable) (name : List ℕ) (valid separated special : Bool) → is_valid_name false (chars name) ≡ valid → list_any is_separator name ≡ separated → is_special letters (plain_stream_name name) ≡ special
    → may_name letters name ≡ unless_not (valid && not separated && not special) InvalidInput
may_by letters name valid separated special v s x =
    ap (λ b. unless_not (b && not (list_any is_separator name) && not (is_special letters (plain_stream_name name))) InvalidInput) v
    ∙ ap (λ b. unless_not (valid && not b && not (is_special letters (plain_stream_name name))) InvalidInput) s
    ∙ ap (λ b. unless_not (valid && not separated && not b) InvalidInput) x

-- the special names are of ASCII
pub document_chars : chars document_summary_name ≡ document_summary_name
unfolding chars
document_chars = refl

pub summary_chars : chars summary_name ≡ summary_name
unfolding chars
summary_chars = refl

pub signature_chars : chars signature_name ≡ signature_name
unfolding chars
signature_chars = refl

pub signature_ex_chars : chars signature_ex_name ≡ signature_ex_name
unfolding chars
signature_ex_chars = refl
