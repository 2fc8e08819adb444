use Rattle.std.proofs.Common.{⊎_elim}
use Rattle.cfb_fat.specs.Keeping.{rests_cause}
use Rattle.cfb_mini.specs.Views.{allocator_of}
use Rattle.cfb_mini.proofs.Longer.{mini_rests_then}
use Rattle.cfb_stream_reads.proofs.serving.read_small.Goals as goal

pub returns-in-Ok-read_part-clause-only_reads : goal.returns-in-Ok-read_part-clause-only_reads
returns-in-Ok-read_part-clause-only_reads g c = mini_rests_then c.args.mini.now c.read_ahead.new.mini c.read_part.new.mini c.read_ahead.ensures.only_reads c.read_part.ensures.only_reads

pub returns-in-Err-read_part-clause-only_reads : goal.returns-in-Err-read_part-clause-only_reads
returns-in-Err-read_part-clause-only_reads g c = mini_rests_then c.args.mini.now c.read_ahead.new.mini c.read_part.new.mini c.read_ahead.ensures.only_reads c.read_part.ensures.only_reads

pub returns-in-Err-read_part-clause-cause : goal.returns-in-Err-read_part-clause-cause
returns-in-Err-read_part-clause-cause g c =
    rests_cause (allocator_of c.args.mini.now) (allocator_of c.read_ahead.new.mini) (allocator_of c.read_part.new.mini) c.in-Err-read_part.error c.read_ahead.ensures.only_reads.directory.allocator c.in-Err-read_part.ensures.cause

pub returns-in-Ok-read_part-clause-part : goal.returns-in-Ok-read_part-clause-part
returns-in-Ok-read_part-clause-part g c = λ content has ahead. c.in-Ok-read_part.ensures.part content (c.read_ahead.ensures.kept content has) (c.read_ahead.ensures.content content has ahead)

pub returns-in-Ok-read_part-clause-kept : goal.returns-in-Ok-read_part-clause-kept
returns-in-Ok-read_part-clause-kept g c = λ content has. c.read_part.ensures.kept content (c.read_ahead.ensures.kept content has)

pub returns-in-Err-clause-part : goal.returns-in-Err-clause-part
returns-in-Err-clause-part g c = λ content has ahead. (tt, ⊎_elim (λ fault. fault) (λ invalid. absurd (invalid.1 content has)) c.in-Err.ensures.errors)

pub returns-in-Err-read_part-clause-part : goal.returns-in-Err-read_part-clause-part
returns-in-Err-read_part-clause-part g c = λ content has ahead. c.in-Err-read_part.ensures.part content (c.read_ahead.ensures.kept content has) (c.read_ahead.ensures.content content has ahead)

pub returns-in-Err-read_part-clause-kept : goal.returns-in-Err-read_part-clause-kept
returns-in-Err-read_part-clause-kept g c = λ content has. c.read_part.ensures.kept content (c.read_ahead.ensures.kept content has)
