use Rattle.msi_adopting.proofs.Refusals.{found_then, judged_then, part_fault}
use Rattle.msi_soundness.proofs.Steps.{cause_then}
use Rattle.msi_store.proofs.ShownTrees.{shown_of_held}
use Rattle.msi_stored.proofs.StoredLaws.{file_then}
use Rattle.msi_adopting.proofs.judging.holds_sound.Goals as goal

pub returns-in-Ok-clause-answer : goal.returns-in-Ok-clause-answer
returns-in-Ok-clause-answer g c tree P held may packs =
    judged_then c.args.file.now c.read_parts.new.file c.in-Ok.ensures.only_reads tree held may c.in-Ok.parts (c.in-Ok.ensures.shown tree (shown_of_held c.args.file.now tree held) may)
    c.is_sound_package.result c.is_sound_package.ensures.answer c.is_sound_package.ensures.errors

pub returns-in-Ok-clause-only_reads : goal.returns-in-Ok-clause-only_reads
returns-in-Ok-clause-only_reads g c = file_then c.args.file.now c.read_parts.new.file c.is_sound_package.new.file c.in-Ok.ensures.only_reads c.is_sound_package.ensures.only_reads

pub returns-in-Ok-clause-cause : goal.returns-in-Ok-clause-cause
returns-in-Ok-clause-cause g c = cause_then c.args.file.now c.read_parts.new.file c.is_sound_package.new.file c.is_sound_package.result c.in-Ok.ensures.only_reads c.is_sound_package.ensures.cause

pub returns-in-Err-clause-answer : goal.returns-in-Err-clause-answer
returns-in-Err-clause-answer g c tree P held may packs =
    part_fault c.args.file.now tree P c.in-Err.error held may packs (c.in-Err.ensures.shown tree (shown_of_held c.args.file.now tree held) may)

pub returns-in-Ok-clause-found : goal.returns-in-Ok-clause-found
returns-in-Ok-clause-found g c tree held may =
    found_then c.args.file.now c.read_parts.new.file c.in-Ok.ensures.only_reads tree held may c.in-Ok.parts (c.in-Ok.ensures.shown tree (shown_of_held c.args.file.now tree held) may)
    c.is_sound_package.result c.is_sound_package.ensures.answer
