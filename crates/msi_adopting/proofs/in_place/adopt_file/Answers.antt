use Rattle.std.proofs.Common.{◌∙◌, ◌⊎◌, inl, sym, true, false, ◌≡◌}
use Rattle.cfb.proofs.LiveMeaning.{holds_meant}
use Rattle.cfb.specs.Views.{file_case_table, mini_of, sound_of}
use Rattle.cfb_chain_io.proofs.GoingOn.{goes_then, rests_go_on}
use Rattle.cfb_fat.specs.Tables.{version_of}
use Rattle.cfb_mini.specs.Views.{allocator_of}
use Rattle.msi_adopting.proofs.InPlace.{put_told, sound_then}
use Rattle.msi_adopting.proofs.Whole.{longer}
use Rattle.msi_adopting.specs.Adopted.{HasLongText, IsPoolTooLong}
use Rattle.msi_soundness.proofs.Steps.{cause_then}
use Rattle.msi_adopting.proofs.in_place.adopt_file.Goals as goal

pub returns-in-Ok-clause-answer : goal.returns-in-Ok-clause-answer
returns-in-Ok-clause-answer g c tree P m may packs =
    let a = c.args.file.now in
    put_told a c.recounted_pool.new.file c.in-Ok.ensures.only_reads tree P c.in-Ok.pool.items c.deref.result.now c.deref.ensures.value m (c.in-Ok.ensures.answer tree P (holds_meant a tree m) may packs) c.put_judged.new.file c.put_judged.result c.put_judged.ensures.answer

pub returns-in-Ok-clause-sound : goal.returns-in-Ok-clause-sound
returns-in-Ok-clause-sound g c = sound_then c.args.file.now c.recounted_pool.new.file c.in-Ok.ensures.only_reads c.put_judged.new.file c.put_judged.result c.put_judged.ensures.sound

pub returns-in-Ok-clause-invariants : goal.returns-in-Ok-clause-invariants
returns-in-Ok-clause-invariants g c =
    let a = allocator_of (mini_of c.args.file.now) in
    let m = allocator_of (mini_of c.recounted_pool.new.file) in
    goes_then a m (allocator_of (mini_of c.put_judged.new.file)) (rests_go_on a m c.in-Ok.ensures.only_reads.mini.directory.allocator) c.put_judged.ensures.invariants

pub returns-in-Ok-clause-cause : goal.returns-in-Ok-clause-cause
returns-in-Ok-clause-cause g c = cause_then c.args.file.now c.recounted_pool.new.file c.put_judged.new.file c.put_judged.result c.in-Ok.ensures.only_reads c.put_judged.ensures.cause

pub returns-in-Err-clause-answer : goal.returns-in-Err-clause-answer
returns-in-Err-clause-answer g c tree P m may packs =
    let a = c.args.file.now in
    longer (file_case_table a) tree P (HasLongText P) (HasLongText P ⊎ IsPoolTooLong (version_of (allocator_of (mini_of a))) P) c.in-Err.error (λ long. inl long) (c.in-Err.ensures.answer tree P (holds_meant a tree m) may packs)

pub returns-in-Err-clause-invariants : goal.returns-in-Err-clause-invariants
returns-in-Err-clause-invariants g c =
    rests_go_on (allocator_of (mini_of c.args.file.now)) (allocator_of (mini_of c.recounted_pool.new.file)) c.in-Err.ensures.only_reads.mini.directory.allocator
