use Rattle.std.proofs.Common.{◌≡◌, ◌∙◌, ap, sym, true, false, chars}
use Rattle.cfb_tree.specs.CaseTableViews.{case_table_of}
use Rattle.msi_spec.specs.Streams.{is_special, plain_stream_name}
use Rattle.msi_streams.proofs.Naming.{may_by, plain_chars}
use Rattle.msi_streams.proofs.names.encoded_stream_name.Goals as goal

pub returns-then-is_special-clause-answer : goal.returns-then-is_special-clause-answer
returns-then-is_special-clause-answer c =
    let letters = case_table_of c.args.letters.now in
    let name = c.args.name.now in
    let special : is_special letters (plain_stream_name name) ≡ true =
    sym (c.is_special.ensures ∙ ap (is_special letters) (ap chars (c.as_str.ensures ∙ c.in-Some.ensures.text) ∙ plain_chars name c.utf8.name)) ∙ c.if-is_special.true in
    may_by letters name true false true (sym c.in-Some.ensures.valid) (sym c.has_separator.ensures ∙ c.if-has_separator.false) special

pub returns-clause-answer : goal.returns-clause-answer
returns-clause-answer c =
    let letters = case_table_of c.args.letters.now in
    let name = c.args.name.now in
    let special : is_special letters (plain_stream_name name) ≡ false =
    sym (c.is_special.ensures ∙ ap (is_special letters) (ap chars (c.as_str.ensures ∙ c.in-Some.ensures.text) ∙ plain_chars name c.utf8.name)) ∙ c.if-is_special.false in
    (may_by letters name true false false (sym c.in-Some.ensures.valid) (sym c.has_separator.ensures ∙ c.if-has_separator.false) special, c.in-Some.ensures.text)
