use Rattle.std.proofs.Common.{refl, subst}
use Rattle.cfb.specs.FollowedRules.{FileMeansTree}
use Rattle.cfb.specs.Views.{file_case_table}
use Rattle.msi_spec.specs.Package.{summary_name}
use Rattle.msi_reread.specs.Reread.{with_stream}
use Rattle.msi_reread.proofs.rereading.put_properties.Goals as goal

pub returns-in-Ok-clause-done : goal.returns-in-Ok-clause-done
returns-in-Ok-clause-done g c tree m =
    (subst (λ b. FileMeansTree c.put_summary.new.file (with_stream (file_case_table c.args.file.now) summary_name b tree)) c.deref.ensures.value (c.in-Ok.ensures.done tree m), refl)
