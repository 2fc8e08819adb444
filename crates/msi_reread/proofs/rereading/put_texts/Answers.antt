use Rattle.std.proofs.Common.{◌∙◌, ap, refl, subst}
use Rattle.cfb.specs.FollowedRules.{FileMeansTree}
use Rattle.cfb.specs.Views.{file_case_table}
use Rattle.cfb_entries.specs.Rules.{names_in}
use Rattle.msi_reread.specs.Reread.{with_texts}
use Rattle.msi_reread.proofs.rereading.put_texts.Goals as goal

pub put_pool-requires-clause-pool_at : goal.put_pool-requires-clause-pool_at
put_pool-requires-clause-pool_at g c = ap names_in c.deref.ensures ∙ c.in-Ok.ensures.path

pub put_pool-requires-clause-data_at : goal.put_pool-requires-clause-data_at
put_pool-requires-clause-data_at g c = ap names_in c.deref-2.ensures ∙ c.in-Ok-table_path.ensures.path

pub returns-in-Ok-put_pool-clause-done : goal.returns-in-Ok-put_pool-clause-done
returns-in-Ok-put_pool-clause-done g c tree m =
    let letters = file_case_table c.args.file.now in (
      subst (λ b. FileMeansTree c.put_pool.new.file (with_texts letters b c.args.streams.data.items tree)) c.deref-3.ensures.value
          (subst (λ b. FileMeansTree c.put_pool.new.file (with_texts letters c.deref-3.result.now b tree)) c.deref-4.ensures.value (c.in-Ok-put_pool.ensures.done tree m)),
      refl,
    )
