use Rattle.std.proofs.Common.{◌≡◌, [], ◌∷◌, encode_utf8_all, inl, inr, length, refl, Some, subst, sym}
use Rattle.std.proofs.Math.Utf8.{encode}
use Rattle.std.specs.Str.{chars}
use Rattle.cfb.specs.Putting.{IsFullAt, IsPutStreamError}
use Rattle.cfb.specs.Views.{mini_of}
use Rattle.cfb_entries.specs.Rules.{names_in}
use Rattle.cfb_fat.specs.OnlyReads.{all_rest_refl}
use Rattle.cfb_mini.specs.Views.{allocator_of}
use Rattle.cfb_chain_io.proofs.GoingOn.{fails_go_on, goes_then}
use Rattle.msi_spec.specs.Package.{summary_name}
use Rattle.msi_streams.specs.Parts.{PartBytes}
use Rattle.msi_streams.proofs.PutParts.{data_fault, parts_done, parts_failed, parts_unput, pool_fault, summary_fault}
use Rattle.msi_streams.proofs.Unsigned.{both_answer, failed_answers}
use Rattle.msi_streams.proofs.parts.put_parts.Goals as goal

-- the summary's name is a path of one name
summary_path : names_in summary_name ≡ Some (summary_name ∷ [])
unfolding chars
summary_path = refl

-- and its characters are its bytes
summary_text : encode_utf8_all summary_name ≡ summary_name
unfolding encode
summary_text = refl

pub returns-in-Err-clause-full_only_if : goal.returns-in-Err-clause-full_only_if
returns-in-Err-clause-full_only_if g c = λ is live. elim (c.in-Err.ensures.full_only_if is live) [
  | inl none ↦ inr (inl none)
  | inr at ↦ inr (inr (subst (λ t. IsFullAt c.args.file.now (names_in t) (length c.args.summary.now)) (sym summary_text) at))
]

pub returns-in-Err-put_stream-clause-full_only_if : goal.returns-in-Err-put_stream-clause-full_only_if
returns-in-Err-put_stream-clause-full_only_if g c = λ is live. let failed = c.fail.ensures.fails.sectors.failed in absurd (cc)

pub returns-in-Err-put_stream-2-clause-full_only_if : goal.returns-in-Err-put_stream-2-clause-full_only_if
returns-in-Err-put_stream-2-clause-full_only_if g c = λ is live. let failed = c.fail-in-Err-put_stream-2.ensures.fails.sectors.failed in absurd (cc)

pub returns-in-Err-clause-changes : goal.returns-in-Err-clause-changes
returns-in-Err-clause-changes g c =
    let parts : PartBytes = record { summary = c.args.summary.now; pool = c.args.pool.now; pool_data = c.args.pool_data.now } in
    parts_unput parts c.args.file.now (names_in summary_name) c.put_stream.new.self c.in-Err.error c.in-Err.ensures.puts

pub returns-in-Err-put_stream-clause-changes : goal.returns-in-Err-put_stream-clause-changes
returns-in-Err-put_stream-clause-changes g c =
    let parts : PartBytes = record { summary = c.args.summary.now; pool = c.args.pool.now; pool_data = c.args.pool_data.now } in
    parts_failed parts c.args.file.now (names_in summary_name) summary_path c.put_stream.new.self _ c.in_default.ensures.puts c.put_stream-2.new.self c.fail.new.self c.in-Err-put_stream.error
    c.put_stream-2.ensures.puts.seen c.fail.ensures.fails.sectors.failed c.fail.ensures.seen

pub returns-clause-changes : goal.returns-clause-changes
returns-clause-changes g c =
    let parts : PartBytes = record { summary = c.args.summary.now; pool = c.args.pool.now; pool_data = c.args.pool_data.now } in
    parts_done parts c.args.file.now (names_in summary_name) summary_path c.put_stream.new.self _ c.in_default.ensures.puts (names_in c.args.pool_path.now) (names_in c.args.data_path.now) c.requires.pool_at c.requires.data_at
    c.put_stream-2.new.self c.put_stream-3.new.self _ _ c.in_default-put_stream.ensures.puts c.in_default-put_stream-2.ensures.puts

pub returns-in-Err-put_stream-clause-invariants : goal.returns-in-Err-put_stream-clause-invariants
returns-in-Err-put_stream-clause-invariants g c =
    let b = allocator_of (mini_of c.put_stream-2.new.self) in
    fails_go_on 0 [] (allocator_of (mini_of c.args.file.now)) b b (allocator_of (mini_of c.fail.new.self)) (goes_then _ _ _ c.put_stream.ensures.invariants c.put_stream-2.ensures.invariants) (inr (all_rest_refl b)) c.fail.ensures.fails

pub returns-in-Err-put_stream-clause-error_contract : goal.returns-in-Err-put_stream-clause-error_contract
returns-in-Err-put_stream-clause-error_contract g c =
    failed_answers IsPutStreamError (allocator_of (mini_of c.args.file.now)) (allocator_of (mini_of c.put_stream.new.self)) (allocator_of (mini_of c.put_stream-2.new.self)) _ c.in_default.ensures.error_contract
    (allocator_of (mini_of c.fail.new.self)) c.in-Err-put_stream.error c.put_stream.ensures.invariants c.in-Err-put_stream.ensures.error_contract c.fail.ensures.fails

pub returns-clause-invariants : goal.returns-clause-invariants
returns-clause-invariants g c = goes_then _ _ _ c.put_stream.ensures.invariants (goes_then _ _ _ c.put_stream-2.ensures.invariants c.put_stream-3.ensures.invariants)

pub returns-in-Err-put_stream-2-clause-invariants : goal.returns-in-Err-put_stream-2-clause-invariants
returns-in-Err-put_stream-2-clause-invariants g c =
    let b = allocator_of (mini_of c.put_stream-3.new.self) in
    fails_go_on 0 [] (allocator_of (mini_of c.args.file.now)) b b (allocator_of (mini_of c.fail-in-Err-put_stream-2.new.self))
    (goes_then _ _ _ c.put_stream.ensures.invariants (goes_then _ _ _ c.put_stream-2.ensures.invariants c.put_stream-3.ensures.invariants)) (inr (all_rest_refl b)) c.fail-in-Err-put_stream-2.ensures.fails

pub returns-in-Err-put_stream-2-clause-error_contract : goal.returns-in-Err-put_stream-2-clause-error_contract
returns-in-Err-put_stream-2-clause-error_contract g c =
    let a = allocator_of (mini_of c.args.file.now) in
    let m = allocator_of (mini_of c.put_stream.new.self) in
    let n = allocator_of (mini_of c.put_stream-2.new.self) in
    failed_answers IsPutStreamError a n (allocator_of (mini_of c.put_stream-3.new.self)) tt (both_answer IsPutStreamError a m n _ c.in_default.ensures.error_contract _ c.in_default-put_stream.ensures.error_contract)
    (allocator_of (mini_of c.fail-in-Err-put_stream-2.new.self)) c.in-Err-put_stream-2.error (goes_then _ _ _ c.put_stream.ensures.invariants c.put_stream-2.ensures.invariants) c.in-Err-put_stream-2.ensures.error_contract
    c.fail-in-Err-put_stream-2.ensures.fails

pub returns-in-Err-clause-refused_only_if : goal.returns-in-Err-clause-refused_only_if
returns-in-Err-clause-refused_only_if g c =
    let parts : PartBytes = record { summary = c.args.summary.now; pool = c.args.pool.now; pool_data = c.args.pool_data.now } in
    summary_fault parts (names_in summary_name) (names_in c.args.pool_path.now) (names_in c.args.data_path.now) summary_path c.requires.pool_at c.requires.data_at c.args.file.now c.put_stream.new.self c.in-Err.error
    c.in-Err.ensures.puts

pub returns-in-Err-put_stream-clause-refused_only_if : goal.returns-in-Err-put_stream-clause-refused_only_if
returns-in-Err-put_stream-clause-refused_only_if g c =
    let parts : PartBytes = record { summary = c.args.summary.now; pool = c.args.pool.now; pool_data = c.args.pool_data.now } in
    pool_fault parts (names_in summary_name) (names_in c.args.pool_path.now) (names_in c.args.data_path.now) summary_path c.requires.pool_at c.requires.data_at c.args.file.now c.put_stream.new.self _
    c.in_default.ensures.puts c.put_stream-2.new.self c.in-Err-put_stream.error c.in-Err-put_stream.ensures.puts

pub returns-in-Err-put_stream-2-clause-refused_only_if : goal.returns-in-Err-put_stream-2-clause-refused_only_if
returns-in-Err-put_stream-2-clause-refused_only_if g c =
    let parts : PartBytes = record { summary = c.args.summary.now; pool = c.args.pool.now; pool_data = c.args.pool_data.now } in
    data_fault parts (names_in summary_name) (names_in c.args.pool_path.now) (names_in c.args.data_path.now) summary_path c.requires.pool_at c.requires.data_at c.args.file.now c.put_stream.new.self _
    c.in_default.ensures.puts c.put_stream-2.new.self _ c.in_default-put_stream.ensures.puts c.put_stream-3.new.self c.in-Err-put_stream-2.error c.in-Err-put_stream-2.ensures.puts
