use Rattle.std.proofs.Common.{◌≡◌, ◌∙◌, ◌<◌, ap, arith, inl, inr, length, refl, subst, sym}
use Rattle.std.specs.Prelude.{encode_utf8_all}
use Rattle.cfb.specs.Putting.{IsFullAt}
use Rattle.cfb.specs.Views.{mini_of}
use Rattle.cfb_entries.specs.Rules.{names_in}
use Rattle.cfb_fat.specs.Tables.{version_of}
use Rattle.cfb_medium.specs.Versions.{stream_len_mask}
use Rattle.cfb_mini.specs.Views.{allocator_of}
use Rattle.cfb_medium.specs.Calls.{IsFaultOrInvalidInputIf}
use Rattle.msi_spec.specs.Package.{stream_name}
use Rattle.msi_row_edits.specs.Edited.{IsEditErrorButFull}
use Rattle.msi_row_edits.proofs.PutTable.{not_put, put_table}
use Rattle.msi_row_edits.proofs.Refusals.{unput_not_full}
use Rattle.msi_row_edits.proofs.system_rows.put_table_bytes.Goals as goal

pub returns-in-Err-clause-puts : goal.returns-in-Err-clause-puts
returns-in-Err-clause-puts g c = not_put _ _ _ c.in-Err.error (inl (subst (IsFaultOrInvalidInputIf ⊥) (sym c.in-Err.ensures.errors) tt))

pub returns-then-bytes-stream_len_mask-clause-puts : goal.returns-then-bytes-stream_len_mask-clause-puts
returns-then-bytes-stream_len_mask-clause-puts g c = not_put _ _ _ _ (inr refl)

pub returns-clause-puts : goal.returns-clause-puts
returns-clause-puts g c =
    let name = c.args.name.now in
    let path : c.as_str.result.now ≡ encode_utf8_all (stream_name name) = c.as_str.ensures.value ∙ c.in-Ok.ensures.text in
    put_table name c.args.bytes.now c.as_str.result.now path c.utf8.name c.args.file.now c.put_stream.new.self c.put_stream.result c.put_stream.ensures.puts

pub returns-in-Err-clause-full_only_if : goal.returns-in-Err-clause-full_only_if
returns-in-Err-clause-full_only_if g c = λ is live. unput_not_full c.in-Err.error (subst IsEditErrorButFull (sym c.in-Err.ensures.errors) tt) is

pub returns-then-bytes-stream_len_mask-clause-full_only_if : goal.returns-then-bytes-stream_len_mask-clause-full_only_if
returns-then-bytes-stream_len_mask-clause-full_only_if g c = λ is live.
    let mask : c.stream_len_mask.result ≡ stream_len_mask (version_of (allocator_of (mini_of c.args.file.now))) = c.stream_len_mask.ensures ∙ ap stream_len_mask c.version.ensures in
    let long : stream_len_mask (version_of (allocator_of (mini_of c.args.file.now))) < length c.args.bytes.now = omega (arith, mask) in
    inl long

pub returns-clause-full_only_if : goal.returns-clause-full_only_if
returns-clause-full_only_if g c = λ is live.
    let path : c.as_str.result.now ≡ encode_utf8_all (stream_name c.args.name.now) = c.as_str.ensures.value ∙ c.in-Ok.ensures.text in
    elim (c.put_stream.ensures.full_only_if is live) [
      | inl none ↦ inr (inl none)
      | inr at ↦ inr (inr (subst (λ text. IsFullAt c.args.file.now (names_in text) (length c.args.bytes.now)) path at))
    ]
