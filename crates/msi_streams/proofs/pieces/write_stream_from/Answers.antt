use Rattle.std.proofs.Common.{◌≡◌, ◌∙◌, ◌<◌, ◌≤◌, [], ◌∷◌, ap, arith, inl, inr, length, refl, subst, sym, true, false, Some}
use Rattle.std.specs.Prelude.{encode_utf8_all, Err, Ok}
use Rattle.cfb.specs.Pieces.{OnlyReadsSource}
use Rattle.cfb.specs.Putting.{putting, IsFullAt, IsPutStreamError}
use Rattle.cfb.specs.Views.{file_case_table, mini_of, said_at}
use Rattle.cfb.proofs.Filling.{reads_refl, reads_then}
use Rattle.cfb.proofs.PutStreams.{means_shown}
use Rattle.cfb_chain_io.proofs.GoingOn.{rests_go_on}
use Rattle.cfb_entries.specs.Rules.{names_in}
use Rattle.cfb_fat.specs.Keeping.{own_cause}
use Rattle.cfb_fat.specs.OnlyReads.{all_rest_refl}
use Rattle.cfb_mini.specs.Views.{allocator_of}
use Rattle.cfb_spec.specs.TreeRules.{is_storage, yes}
use Rattle.cfb_medium.specs.Calls.{IsFaultOrInvalidInputIf}
use Rattle.cfb_medium.specs.Versions.{stream_len_mask}
use Rattle.cfb_medium.specs.declared.error.Error.TheVariants.{AlreadyExists, Failed, Full, InvalidData, InvalidInput}
use Rattle.msi_spec.specs.Streams.{may_name, plain_stream_name}
use Rattle.msi_streams.specs.Writing.{most_bytes, written_within, AppliesPackageRule}
use Rattle.msi_streams.proofs.Exits.{first_refused, rule_done, rule_refused}
use Rattle.msi_streams.proofs.Sources.{all_come, fault_rests, none_read, none_told, not_fills, source_told, told_bytes}
use Rattle.msi_streams.proofs.Streams.{free, long_refused, makes_refused, name_refused, said_storage, storage_refused, write_accepts, write_full}
use Rattle.msi_streams.proofs.Taken.{taken_path}
use Rattle.msi_streams.proofs.pieces.write_stream_from.Goals as goal

-- ---- a refusal before all else

pub returns-in-Err-clause-changes : goal.returns-in-Err-clause-changes
returns-in-Err-clause-changes g c =
    let old = c.args.file.now in
    let bytes = g.S.ReadMedium.bytes c.args.source.now in
    let e = c.in-Err.error in
    let rule = AppliesPackageRule (written_within (file_case_table old) (most_bytes old) c.args.name.now bytes) in
    record {
      content = bytes;
      whole = λ honest. refl;
      changes = first_refused rule old e c.in-Err.ensures.refused_only_if;
      full = not_fills rule old e (λ is. elim c.in-Err.ensures.refused_only_if [
        | inl failed ↦ let never : Failed ≡ Full = sym failed.0 ∙ is in absurd (cc)
        | inr unsound ↦ let never : InvalidData ≡ Full = sym unsound.0 ∙ is in absurd (cc)
      ]);
    }

pub returns-in-Err-clause-only_reads : goal.returns-in-Err-clause-only_reads
returns-in-Err-clause-only_reads g c = reads_refl g.S.ReadMedium c.args.source.now

pub returns-in-Err-clause-invariants : goal.returns-in-Err-clause-invariants
returns-in-Err-clause-invariants g c = let a = allocator_of (mini_of c.args.file.now) in rests_go_on a a (all_rest_refl a)

pub returns-in-Err-clause-error_contract : goal.returns-in-Err-clause-error_contract
returns-in-Err-clause-error_contract g c =
    let e = c.in-Err.error in
    let why = c.in-Err.ensures.refused_only_if in
    none_read g.S.ReadMedium IsPutStreamError _ e (allocator_of (mini_of c.args.file.now)) c.args.source.now
    (λ failed. elim why [ inl is ↦ is.0 | inr unsound ↦ let live = unsound.1 in absurd (cc) ])
    (λ device. elim why [ inl is ↦ let kind = is.0 in (cc) | inr unsound ↦ let kind = unsound.0 in (cc) ])
    (λ earlier. elim why [ inl is ↦ is.1 | inr unsound ↦ let kind = unsound.0 in absurd (cc) ])
    (elim why [ inl is ↦ inl (subst (λ x. IsFaultOrInvalidInputIf ⊥ x) (sym is.0) tt) | inr unsound ↦ inr (inl (inl (inl unsound.0))) ])

-- ---- a name that no stream can have

pub returns-in-Err-encoded_stream_name-clause-changes : goal.returns-in-Err-encoded_stream_name-clause-changes
returns-in-Err-encoded_stream_name-clause-changes g c =
    let old = c.args.file.now in
    let letters = file_case_table old in
    let name = c.args.name.now in
    let bytes = g.S.ReadMedium.bytes c.args.source.now in
    let made = written_within letters (most_bytes old) name bytes in
    let e = c.in-Err-encoded_stream_name.error in
    let bad : may_name letters name ≡ Err e = ap (λ l. may_name l name) (sym c.letters.ensures) ∙ c.in-Err-encoded_stream_name.ensures.answer in
    record {
      content = bytes;
      whole = λ honest. refl;
      changes = rule_refused (AppliesPackageRule made) old c.in_default.ensures.open e (λ tree P m s. makes_refused made P e (name_refused letters name (most_bytes old) bytes P e bad));
      full = not_fills (AppliesPackageRule made) old e (λ is. let never : InvalidInput ≡ Full = sym c.in-Err-encoded_stream_name.ensures.errors ∙ is in (cc));
    }

pub returns-in-Err-encoded_stream_name-clause-only_reads : goal.returns-in-Err-encoded_stream_name-clause-only_reads
returns-in-Err-encoded_stream_name-clause-only_reads g c = reads_refl g.S.ReadMedium c.args.source.now

pub returns-in-Err-encoded_stream_name-clause-invariants : goal.returns-in-Err-encoded_stream_name-clause-invariants
returns-in-Err-encoded_stream_name-clause-invariants g c = let a = allocator_of (mini_of c.args.file.now) in rests_go_on a a (all_rest_refl a)

pub returns-in-Err-encoded_stream_name-clause-error_contract : goal.returns-in-Err-encoded_stream_name-clause-error_contract
returns-in-Err-encoded_stream_name-clause-error_contract g c =
    let is = c.in-Err-encoded_stream_name.ensures.errors in
    let live = c.in_default.ensures.open.0 in
    none_read g.S.ReadMedium IsPutStreamError _ c.in-Err-encoded_stream_name.error (allocator_of (mini_of c.args.file.now)) c.args.source.now
    (λ failed. absurd (cc)) (λ device. (cc)) (λ earlier. absurd (cc)) (inr (inl (inl (inr (inl is)))))

-- ---- a storage has it

pub returns-then-is_storage-clause-changes : goal.returns-then-is_storage-clause-changes
returns-then-is_storage-clause-changes g c =
    let old = c.args.file.now in
    let letters = file_case_table old in
    let name = c.args.name.now in
    let plain = plain_stream_name name in
    let bytes = g.S.ReadMedium.bytes c.args.source.now in
    let made = written_within letters (most_bytes old) name bytes in
    let taken : may_name letters name ≡ Ok tt = ap (λ l. may_name l name) (sym c.letters.ensures) ∙ c.in-Ok.ensures.answer.0 in
    let path : names_in c.as_str.result.now ≡ Some (plain ∷ []) = ap names_in (c.as_str.ensures ∙ c.in-Ok.ensures.answer.1) ∙ taken_path letters name taken c.utf8.name in
    record {
      content = bytes;
      whole = λ honest. refl;
      changes = rule_refused (AppliesPackageRule made) old c.in_default.ensures.open AlreadyExists (λ tree P m s.
          let told : yes true ≡ said_at letters tree is_storage (Some (plain ∷ [])) =
          ap (λ b. yes b) (sym c.if-is_storage.true) ∙ c.is_storage.ensures tree (means_shown old tree m) ∙ ap (said_at letters tree is_storage) path in
          makes_refused made P AlreadyExists (storage_refused letters name tree P s taken (most_bytes old) bytes (said_storage letters tree plain true told)));
      full = not_fills (AppliesPackageRule made) old AlreadyExists (λ is. (cc));
    }

pub returns-then-is_storage-clause-only_reads : goal.returns-then-is_storage-clause-only_reads
returns-then-is_storage-clause-only_reads g c = reads_refl g.S.ReadMedium c.args.source.now

pub returns-then-is_storage-clause-invariants : goal.returns-then-is_storage-clause-invariants
returns-then-is_storage-clause-invariants g c = let a = allocator_of (mini_of c.args.file.now) in rests_go_on a a (all_rest_refl a)

pub returns-then-is_storage-clause-error_contract : goal.returns-then-is_storage-clause-error_contract
returns-then-is_storage-clause-error_contract g c =
    let live = c.in_default.ensures.open.0 in
    none_read g.S.ReadMedium IsPutStreamError _ AlreadyExists (allocator_of (mini_of c.args.file.now)) c.args.source.now
    (λ failed. absurd (cc)) (λ device. (cc)) (λ earlier. absurd (cc)) (inr (inr refl))

-- ---- the source doesn't tell how many bytes it has

pub returns-in-Err-len-clause-changes : goal.returns-in-Err-len-clause-changes
returns-in-Err-len-clause-changes g c =
    let old = c.args.file.now in
    let bytes = g.S.ReadMedium.bytes c.args.source.now in
    let e = c.in-Err-len.error in
    let rule = AppliesPackageRule (written_within (file_case_table old) (most_bytes old) c.args.name.now bytes) in
    record {
      content = bytes;
      whole = λ honest. refl;
      changes = fault_rests rule old e c.in_default.ensures.open c.in-Err-len.ensures.errors;
      full = not_fills rule old e (λ is. subst (λ x. IsFaultOrInvalidInputIf ⊥ x) is c.in-Err-len.ensures.errors);
    }

pub returns-in-Err-len-clause-only_reads : goal.returns-in-Err-len-clause-only_reads
returns-in-Err-len-clause-only_reads g c = record { as_honest = c.len.ensures.honest; same = c.len.ensures.bytes; extends = c.len.ensures.continues }

pub returns-in-Err-len-clause-invariants : goal.returns-in-Err-len-clause-invariants
returns-in-Err-len-clause-invariants g c = let a = allocator_of (mini_of c.args.file.now) in rests_go_on a a (all_rest_refl a)

pub returns-in-Err-len-clause-error_contract : goal.returns-in-Err-len-clause-error_contract
returns-in-Err-len-clause-error_contract g c =
    none_told g.S.ReadMedium IsPutStreamError _ c.in-Err-len.error (allocator_of (mini_of c.args.file.now)) c.args.source.now c.len.new.self c.in_default.ensures.open.0 (inl c.in-Err-len.ensures.cause) c.in-Err-len.ensures.errors

-- ---- it has more than a stream can have

pub returns-then-len-stream_len_mask-clause-changes : goal.returns-then-len-stream_len_mask-clause-changes
returns-then-len-stream_len_mask-clause-changes g c =
    let old = c.args.file.now in
    let letters = file_case_table old in
    let name = c.args.name.now in
    let plain = plain_stream_name name in
    let (bytes, whole, size) = told_bytes g.S.ReadMedium c.args.source.now c.in-Ok-len.len c.in-Ok-len.ensures.length in
    let made = written_within letters (most_bytes old) name bytes in
    let taken : may_name letters name ≡ Ok tt = ap (λ l. may_name l name) (sym c.letters.ensures) ∙ c.in-Ok.ensures.answer.0 in
    let path : names_in c.as_str.result.now ≡ Some (plain ∷ []) = ap names_in (c.as_str.ensures ∙ c.in-Ok.ensures.answer.1) ∙ taken_path letters name taken c.utf8.name in
    let mask : c.stream_len_mask.result ≡ most_bytes old = c.stream_len_mask.ensures ∙ ap stream_len_mask c.version.ensures in
    let long : most_bytes old < length bytes = omega (arith, mask, size) in
    record {
      content = bytes;
      whole = whole;
      changes = rule_refused (AppliesPackageRule made) old c.in_default.ensures.open InvalidInput (λ tree P m s.
          let shows = means_shown old tree m in
          let told : yes false ≡ said_at letters tree is_storage (Some (plain ∷ [])) =
          ap (λ b. yes b) (sym c.if-is_storage.false) ∙ c.is_storage.ensures tree shows ∙ ap (said_at letters tree is_storage) path in
          makes_refused made P InvalidInput (long_refused letters name tree P s taken shows.ordered.0 (said_storage letters tree plain false told) (most_bytes old) bytes long));
      full = not_fills (AppliesPackageRule made) old InvalidInput (λ is. (cc));
    }

pub returns-then-len-stream_len_mask-clause-only_reads : goal.returns-then-len-stream_len_mask-clause-only_reads
returns-then-len-stream_len_mask-clause-only_reads g c = record { as_honest = c.len.ensures.honest; same = c.len.ensures.bytes; extends = c.len.ensures.continues }

pub returns-then-len-stream_len_mask-clause-invariants : goal.returns-then-len-stream_len_mask-clause-invariants
returns-then-len-stream_len_mask-clause-invariants g c = let a = allocator_of (mini_of c.args.file.now) in rests_go_on a a (all_rest_refl a)

pub returns-then-len-stream_len_mask-clause-error_contract : goal.returns-then-len-stream_len_mask-clause-error_contract
returns-then-len-stream_len_mask-clause-error_contract g c =
    let live = c.in_default.ensures.open.0 in
    let told = none_read g.S.ReadMedium IsPutStreamError (length (g.S.ReadMedium.bytes c.args.source.now)) InvalidInput (allocator_of (mini_of c.args.file.now)) c.args.source.now
    (λ failed. absurd (cc)) (λ device. (cc)) (λ earlier. absurd (cc)) (inr (inl (inl (inr (inl refl))))) in
    record { live = tt; failed = told.failed; after = told.after; cause = inl (own_cause (allocator_of (mini_of c.args.file.now)) (allocator_of (mini_of c.args.file.now)) InvalidInput (λ device. (cc)) (λ earlier. absurd (cc))); fault = told.fault }

-- ---- it is put

pub put_stream_from-requires : goal.put_stream_from-requires
put_stream_from-requires g c =
    let mask : c.stream_len_mask.result ≡ most_bytes c.args.file.now = c.stream_len_mask.ensures ∙ ap stream_len_mask c.version.ensures in
    omega (arith, mask)

pub returns-clause-changes : goal.returns-clause-changes
returns-clause-changes g c =
    let old = c.args.file.now in
    let letters = file_case_table old in
    let name = c.args.name.now in
    let plain = plain_stream_name name in
    let put = c.put_stream_from.ensures.puts in
    let bytes = put.content in
    let source = c.args.source.now in
    let read : OnlyReadsSource g.S.ReadMedium source c.len.new.self = record { as_honest = c.len.ensures.honest; same = c.len.ensures.bytes; extends = c.len.ensures.continues } in
    let made = written_within letters (most_bytes old) name bytes in
    let taken : may_name letters name ≡ Ok tt = ap (λ l. may_name l name) (sym c.letters.ensures) ∙ c.in-Ok.ensures.answer.0 in
    let path : names_in c.as_str-2.result.now ≡ Some (plain ∷ []) = ap names_in (c.as_str-2.ensures ∙ c.in-Ok.ensures.answer.1) ∙ taken_path letters name taken c.utf8.name in
    let asked : names_in c.as_str.result.now ≡ Some (plain ∷ []) = ap names_in (c.as_str.ensures ∙ c.in-Ok.ensures.answer.1) ∙ taken_path letters name taken c.utf8.name in
    let mask : c.stream_len_mask.result ≡ most_bytes old = c.stream_len_mask.ensures ∙ ap stream_len_mask c.version.ensures in
    let size = put.comes.long in
    let short : length bytes ≤ most_bytes old = omega (arith, mask, size) in
    let text : c.as_str-2.result.now ≡ encode_utf8_all plain = c.as_str-2.ensures ∙ c.in-Ok.ensures.answer.1 in
    record {
      content = bytes;
      whole = all_come g.S.ReadMedium source c.in-Ok-len.len c.in-Ok-len.ensures.length c.len.new.self bytes read put.comes;
      changes = rule_done (AppliesPackageRule made) old (putting bytes) (names_in c.as_str-2.result.now) (plain ∷ []) path c.put_stream_from.new.self c.put_stream_from.result put.puts (λ tree P m s.
          let shows = means_shown old tree m in
          let told : yes false ≡ said_at letters tree is_storage (Some (plain ∷ [])) =
          ap (λ b. yes b) (sym c.if-is_storage.false) ∙ c.is_storage.ensures tree shows ∙ ap (said_at letters tree is_storage) asked in
          write_accepts letters name tree P s taken shows.ordered.0 (said_storage letters tree plain false told) (most_bytes old) bytes c.utf8.name short);
      full = λ is live tree P m s.
          let shows = means_shown old tree m in
          let told : yes false ≡ said_at letters tree is_storage (Some (plain ∷ [])) =
          ap (λ b. yes b) (sym c.if-is_storage.false) ∙ c.is_storage.ensures tree shows ∙ ap (said_at letters tree is_storage) asked in
          write_full old name tree P s taken (free letters name tree P s taken shows.ordered.0 (said_storage letters tree plain false told) (most_bytes old) bytes) (most_bytes old) bytes short
          (elim (c.put_stream_from.ensures.full_only_if is live) [
            | inl none ↦ inr (inl none)
            | inr at ↦ inr (inr (subst (λ n. IsFullAt old (names_in (encode_utf8_all plain)) n) (sym size) (subst (λ t. IsFullAt old (names_in t) c.in-Ok-len.len) text at)))
          ]);
    }

pub returns-clause-only_reads : goal.returns-clause-only_reads
returns-clause-only_reads g c =
    reads_then g.S.ReadMedium c.args.source.now c.len.new.self c.put_stream_from.new.source (record { as_honest = c.len.ensures.honest; same = c.len.ensures.bytes; extends = c.len.ensures.continues }) c.put_stream_from.ensures.only_reads

pub returns-clause-error_contract : goal.returns-clause-error_contract
returns-clause-error_contract g c =
    source_told g.S.ReadMedium IsPutStreamError c.args.source.now c.len.new.self c.put_stream_from.new.source c.in-Ok-len.len c.in-Ok-len.ensures.length
    (record { as_honest = c.len.ensures.honest; same = c.len.ensures.bytes; extends = c.len.ensures.continues }) c.put_stream_from.result
    (allocator_of (mini_of c.args.file.now)) (allocator_of (mini_of c.put_stream_from.new.self)) c.put_stream_from.ensures.error_contract
