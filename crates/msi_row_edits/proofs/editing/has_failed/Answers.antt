use Rattle.cfb.specs.Views.{mini_of}
use Rattle.cfb_fat.specs.Tables.{has_failed_here}
use Rattle.cfb_mini.specs.Views.{allocator_of}
use Rattle.msi_row_edits.proofs.Failing.{failed_told}
use Rattle.msi_row_edits.proofs.editing.has_failed.Goals as goal

pub returns-in-Err : goal.returns-in-Err
returns-in-Err g c = failed_told (has_failed_here (allocator_of (mini_of c.args.file.now))) c.is_failed.result c.in-Err.error c.in-Err.ensures.when_failed c.in-Err.ensures.cause c.is_failed.ensures.answer c.is_failed.ensures.is
