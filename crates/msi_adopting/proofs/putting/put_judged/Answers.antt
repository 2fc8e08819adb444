use Rattle.std.proofs.Common.{◌∙◌, ap, inl, inr, refl, ⊎_elim}
use Rattle.cfb.proofs.LiveMeaning.{holds_meant}
use Rattle.cfb.specs.Views.{file_case_table, mini_of}
use Rattle.cfb_mini.specs.Views.{allocator_of}
use Rattle.cfb_chain_io.proofs.GoingOn.{goes_cause, goes_then, rests_go_on}
use Rattle.msi_spec.specs.Opening.{keeps_encoded_names}
use Rattle.msi_recounted.specs.Recounted.{recounted}
use Rattle.msi_adopting.proofs.JudgedCopies.{judged_no, judged_yes, packs_there, some_sound}
use Rattle.msi_adopting.proofs.putting.put_judged.Goals as goal

pub returns-in-Err-clause-answer : goal.returns-in-Err-clause-answer
returns-in-Err-clause-answer g c tree P m gets = ⊎_elim (λ fault. inl fault) (λ long. inr (inr long)) (c.in-Err.ensures.refused_only_if tree P m gets)

pub returns-in-Ok-true-clause-answer : goal.returns-in-Ok-true-clause-answer
returns-in-Ok-true-clause-answer g c tree P m gets =
    let letters = file_case_table c.args.file.now in
    let pool = c.args.pool.now in
    let mid = c.put_pool.new.file in
    let same = c.put_pool.ensures.letters in
    let did = c.in_default.ensures.got tree P m gets in
    let judged = c.in-Ok-true.ensures.answer did.0 (recounted P) (holds_meant mid did.0 did.1) (ap keeps_encoded_names same ∙ gets.usable) (packs_there letters tree P pool gets mid same did.0 did.1 did.2) in
    judged_yes letters tree P pool gets mid same did.0 did.1 did.2 c.in-Ok-true.field-0 judged c.in-Ok-true.field-0-test c.holds_sound.new.file c.holds_sound.ensures.only_reads

pub returns-in-Ok-true-clause-invariants : goal.returns-in-Ok-true-clause-invariants
returns-in-Ok-true-clause-invariants g c =
    let m = allocator_of (mini_of c.put_pool.new.file) in
    let b = allocator_of (mini_of c.holds_sound.new.file) in
    goes_then (allocator_of (mini_of c.args.file.now)) m b c.put_pool.ensures.invariants (rests_go_on m b c.holds_sound.ensures.only_reads.mini.directory.allocator)

pub returns-in-Ok-false-clause-answer : goal.returns-in-Ok-false-clause-answer
returns-in-Ok-false-clause-answer g c tree P m gets =
    let letters = file_case_table c.args.file.now in
    let pool = c.args.pool.now in
    let mid = c.put_pool.new.file in
    let same = c.put_pool.ensures.letters in
    let did = c.in_default.ensures.got tree P m gets in
    let judged = c.in-Ok-false.ensures.answer did.0 (recounted P) (holds_meant mid did.0 did.1) (ap keeps_encoded_names same ∙ gets.usable) (packs_there letters tree P pool gets mid same did.0 did.1 did.2) in
    inr (inl (refl, judged_no letters tree P pool gets mid same did.0 did.1 did.2 c.in-Ok-false.field-0 judged c.in-Ok-false.field-0-test))

pub returns-in-Ok-false-clause-invariants : goal.returns-in-Ok-false-clause-invariants
returns-in-Ok-false-clause-invariants g c =
    let m = allocator_of (mini_of c.put_pool.new.file) in
    let b = allocator_of (mini_of c.holds_sound.new.file) in
    goes_then (allocator_of (mini_of c.args.file.now)) m b c.put_pool.ensures.invariants (rests_go_on m b c.holds_sound.ensures.only_reads.mini.directory.allocator)

pub returns-in-Err-holds_sound-clause-answer : goal.returns-in-Err-holds_sound-clause-answer
returns-in-Err-holds_sound-clause-answer g c tree P m gets =
    let letters = file_case_table c.args.file.now in
    let pool = c.args.pool.now in
    let mid = c.put_pool.new.file in
    let same = c.put_pool.ensures.letters in
    let did = c.in_default.ensures.got tree P m gets in
    inl (inl (c.in-Err-holds_sound.ensures.answer did.0 (recounted P) (holds_meant mid did.0 did.1) (ap keeps_encoded_names same ∙ gets.usable) (packs_there letters tree P pool gets mid same did.0 did.1 did.2)))

pub returns-in-Err-holds_sound-clause-invariants : goal.returns-in-Err-holds_sound-clause-invariants
returns-in-Err-holds_sound-clause-invariants g c =
    let m = allocator_of (mini_of c.put_pool.new.file) in
    let b = allocator_of (mini_of c.holds_sound.new.file) in
    goes_then (allocator_of (mini_of c.args.file.now)) m b c.put_pool.ensures.invariants (rests_go_on m b c.holds_sound.ensures.only_reads.mini.directory.allocator)

pub returns-in-Err-holds_sound-clause-cause : goal.returns-in-Err-holds_sound-clause-cause
returns-in-Err-holds_sound-clause-cause g c =
    goes_cause (allocator_of (mini_of c.args.file.now)) (allocator_of (mini_of c.put_pool.new.file)) (allocator_of (mini_of c.holds_sound.new.file)) c.in-Err-holds_sound.error
    c.put_pool.ensures.invariants c.in_default.ensures.not_failed c.in-Err-holds_sound.ensures.cause

pub returns-in-Ok-true-clause-sound : goal.returns-in-Ok-true-clause-sound
returns-in-Ok-true-clause-sound g c tree m may =
    let mid = c.put_pool.new.file in
    let same = c.put_pool.ensures.letters in
    let did = c.in_default.ensures.means tree m in
    some_sound (file_case_table c.args.file.now) mid c.holds_sound.new.file same may did.0 did.1
    (c.in-Ok-true.ensures.found did.0 (holds_meant mid did.0 did.1) (ap keeps_encoded_names same ∙ may) c.in-Ok-true.field-0-test) c.holds_sound.ensures.only_reads
