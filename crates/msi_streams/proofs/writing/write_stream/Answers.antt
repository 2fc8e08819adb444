use Rattle.std.proofs.Common.{◌≡◌, ◌∙◌, ◌<◌, ◌≤◌, [], ◌∷◌, ap, arith, inl, inr, length, subst, sym, true, false, Some}
use Rattle.std.specs.Prelude.{encode_utf8_all, Ok, Err}
use Rattle.cfb.specs.Putting.{putting, IsFullAt}
use Rattle.cfb.specs.Views.{file_case_table, said_at}
use Rattle.cfb.proofs.PutStreams.{means_shown}
use Rattle.cfb_entries.specs.Rules.{names_in}
use Rattle.cfb_spec.specs.TreeRules.{is_storage, yes}
use Rattle.cfb_medium.specs.Versions.{stream_len_mask}
use Rattle.cfb_medium.specs.declared.error.Error.TheVariants.{AlreadyExists, Failed, Full, InvalidData, InvalidInput}
use Rattle.msi_spec.specs.Streams.{may_name, plain_stream_name}
use Rattle.msi_streams.specs.Writing.{most_bytes, written_within, AppliesPackageRule}
use Rattle.msi_streams.proofs.Exits.{first_refused, rule_done, rule_refused}
use Rattle.msi_streams.proofs.Streams.{Err_same, free, long_refused, makes_refused, name_refused, said_storage, storage_refused, write_accepts, write_full}
use Rattle.msi_streams.proofs.Taken.{taken_path}
use Rattle.msi_streams.proofs.writing.write_stream.Goals as goal

pub returns-in-Err-clause-changes : goal.returns-in-Err-clause-changes
returns-in-Err-clause-changes g c =
    let old = c.args.file.now in
    first_refused (AppliesPackageRule (written_within (file_case_table old) (most_bytes old) c.args.name.now c.args.bytes.now)) old c.in-Err.error c.in-Err.ensures.refused_only_if

pub returns-in-Err-encoded_stream_name-clause-changes : goal.returns-in-Err-encoded_stream_name-clause-changes
returns-in-Err-encoded_stream_name-clause-changes g c =
    let old = c.args.file.now in
    let letters = file_case_table old in
    let name = c.args.name.now in
    let made = written_within letters (most_bytes old) name c.args.bytes.now in
    let e = c.in-Err-encoded_stream_name.error in
    let bad : may_name letters name ≡ Err e = ap (λ l. may_name l name) (sym c.letters.ensures) ∙ c.in-Err-encoded_stream_name.ensures.answer in
    rule_refused (AppliesPackageRule made) old c.in_default.ensures.open e (λ tree P m s. makes_refused made P e (name_refused letters name (most_bytes old) c.args.bytes.now P e bad))

pub returns-then-is_storage-clause-changes : goal.returns-then-is_storage-clause-changes
returns-then-is_storage-clause-changes g c =
    let old = c.args.file.now in
    let letters = file_case_table old in
    let name = c.args.name.now in
    let plain = plain_stream_name name in
    let made = written_within letters (most_bytes old) name c.args.bytes.now in
    let taken : may_name letters name ≡ Ok tt = ap (λ l. may_name l name) (sym c.letters.ensures) ∙ c.in-Ok.ensures.answer.0 in
    let path : names_in c.as_str.result.now ≡ Some (plain ∷ []) = ap names_in (c.as_str.ensures ∙ c.in-Ok.ensures.answer.1) ∙ taken_path letters name taken c.utf8.name in
    rule_refused (AppliesPackageRule made) old c.in_default.ensures.open AlreadyExists (λ tree P m s.
    let told : yes true ≡ said_at letters tree is_storage (Some (plain ∷ [])) =
    ap (λ b. yes b) (sym c.if-is_storage.true) ∙ c.is_storage.ensures tree (means_shown old tree m) ∙ ap (said_at letters tree is_storage) path in
    makes_refused made P AlreadyExists (storage_refused letters name tree P s taken (most_bytes old) c.args.bytes.now (said_storage letters tree plain true told)))

pub returns-then-bytes-stream_len_mask-clause-changes : goal.returns-then-bytes-stream_len_mask-clause-changes
returns-then-bytes-stream_len_mask-clause-changes g c =
    let old = c.args.file.now in
    let letters = file_case_table old in
    let name = c.args.name.now in
    let plain = plain_stream_name name in
    let made = written_within letters (most_bytes old) name c.args.bytes.now in
    let taken : may_name letters name ≡ Ok tt = ap (λ l. may_name l name) (sym c.letters.ensures) ∙ c.in-Ok.ensures.answer.0 in
    let path : names_in c.as_str.result.now ≡ Some (plain ∷ []) = ap names_in (c.as_str.ensures ∙ c.in-Ok.ensures.answer.1) ∙ taken_path letters name taken c.utf8.name in
    let mask : c.stream_len_mask.result ≡ most_bytes old = c.stream_len_mask.ensures ∙ ap stream_len_mask c.version.ensures in
    let long : most_bytes old < length c.args.bytes.now = omega (arith, mask) in
    rule_refused (AppliesPackageRule made) old c.in_default.ensures.open InvalidInput (λ tree P m s.
    let shows = means_shown old tree m in
    let told : yes false ≡ said_at letters tree is_storage (Some (plain ∷ [])) =
    ap (λ b. yes b) (sym c.if-is_storage.false) ∙ c.is_storage.ensures tree shows ∙ ap (said_at letters tree is_storage) path in
    makes_refused made P InvalidInput (long_refused letters name tree P s taken shows.ordered.0 (said_storage letters tree plain false told) (most_bytes old) c.args.bytes.now long))

pub returns-clause-changes : goal.returns-clause-changes
returns-clause-changes g c =
    let old = c.args.file.now in
    let letters = file_case_table old in
    let name = c.args.name.now in
    let plain = plain_stream_name name in
    let made = written_within letters (most_bytes old) name c.args.bytes.now in
    let taken : may_name letters name ≡ Ok tt = ap (λ l. may_name l name) (sym c.letters.ensures) ∙ c.in-Ok.ensures.answer.0 in
    let path : names_in c.as_str-2.result.now ≡ Some (plain ∷ []) = ap names_in (c.as_str-2.ensures ∙ c.in-Ok.ensures.answer.1) ∙ taken_path letters name taken c.utf8.name in
    let asked : names_in c.as_str.result.now ≡ Some (plain ∷ []) = ap names_in (c.as_str.ensures ∙ c.in-Ok.ensures.answer.1) ∙ taken_path letters name taken c.utf8.name in
    let mask : c.stream_len_mask.result ≡ most_bytes old = c.stream_len_mask.ensures ∙ ap stream_len_mask c.version.ensures in
    let short : length c.args.bytes.now ≤ most_bytes old = omega (arith, mask) in
    rule_done (AppliesPackageRule made) old (putting c.args.bytes.now) (names_in c.as_str-2.result.now) (plain ∷ []) path c.put_stream.new.self c.put_stream.result c.put_stream.ensures.puts (λ tree P m s.
    let shows = means_shown old tree m in
    let told : yes false ≡ said_at letters tree is_storage (Some (plain ∷ [])) =
    ap (λ b. yes b) (sym c.if-is_storage.false) ∙ c.is_storage.ensures tree shows ∙ ap (said_at letters tree is_storage) asked in
    write_accepts letters name tree P s taken shows.ordered.0 (said_storage letters tree plain false told) (most_bytes old) c.args.bytes.now c.utf8.name short)

pub returns-in-Err-clause-full_only_if : goal.returns-in-Err-clause-full_only_if
returns-in-Err-clause-full_only_if g c = λ is live tree P m s. elim c.in-Err.ensures.refused_only_if [
  | inl failed ↦ let never : Failed ≡ Full = sym failed.0 ∙ Err_same is in absurd (cc)
  | inr unsound ↦ let never : InvalidData ≡ Full = sym unsound.0 ∙ Err_same is in absurd (cc)
]

pub returns-in-Err-encoded_stream_name-clause-full_only_if : goal.returns-in-Err-encoded_stream_name-clause-full_only_if
returns-in-Err-encoded_stream_name-clause-full_only_if g c = λ is live tree P m s.
    let never : InvalidInput ≡ Full = sym c.in-Err-encoded_stream_name.ensures.errors ∙ Err_same is in absurd (cc)

pub returns-clause-full_only_if : goal.returns-clause-full_only_if
returns-clause-full_only_if g c = λ is live tree P m s.
    let old = c.args.file.now in
    let letters = file_case_table old in
    let name = c.args.name.now in
    let plain = plain_stream_name name in
    let taken : may_name letters name ≡ Ok tt = ap (λ l. may_name l name) (sym c.letters.ensures) ∙ c.in-Ok.ensures.answer.0 in
    let asked : names_in c.as_str.result.now ≡ Some (plain ∷ []) = ap names_in (c.as_str.ensures ∙ c.in-Ok.ensures.answer.1) ∙ taken_path letters name taken c.utf8.name in
    let text : c.as_str-2.result.now ≡ encode_utf8_all plain = c.as_str-2.ensures ∙ c.in-Ok.ensures.answer.1 in
    let mask : c.stream_len_mask.result ≡ most_bytes old = c.stream_len_mask.ensures ∙ ap stream_len_mask c.version.ensures in
    let short : length c.args.bytes.now ≤ most_bytes old = omega (arith, mask) in
    let shows = means_shown old tree m in
    let told : yes false ≡ said_at letters tree is_storage (Some (plain ∷ [])) =
    ap (λ b. yes b) (sym c.if-is_storage.false) ∙ c.is_storage.ensures tree shows ∙ ap (said_at letters tree is_storage) asked in
    write_full old name tree P s taken (free letters name tree P s taken shows.ordered.0 (said_storage letters tree plain false told) (most_bytes old) c.args.bytes.now) (most_bytes old) c.args.bytes.now short
    (elim (c.put_stream.ensures.full_only_if is live) [
      | inl none ↦ inr (inl none)
      | inr at ↦ inr (inr (subst (λ t. IsFullAt old (names_in t) (length c.args.bytes.now)) text at))
    ])
