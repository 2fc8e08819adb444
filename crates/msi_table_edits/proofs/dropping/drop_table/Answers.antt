use Rattle.std.proofs.Common.{subst}
use Rattle.msi_row_edits.specs.Edited.{EditFullOnlyWithoutRoom}
use Rattle.msi_table_edits.specs.Drops.{DropsTable}
use Rattle.msi_spec.specs.Calls.{Drops}
use Rattle.msi_table_edits.proofs.dropping.drop_table.Goals as goal

pub returns-clause-drops : goal.returns-clause-drops
returns-clause-drops g c = subst (λ before. DropsTable c.args.name.now c.drop_with-back.result.1 c.args.store.now c.drop_with-back.new.store before c.drop_with-back.result.0) c.replace.ensures.value c.drop_with-back.ensures.drops

pub returns-clause-full_only_if : goal.returns-clause-full_only_if
returns-clause-full_only_if g c = subst (λ before. EditFullOnlyWithoutRoom (λ P Q answer. Drops P c.args.name.now Q answer) c.drop_with-back.result.1 c.args.store.now c.drop_with-back.new.store before) c.replace.ensures.value c.drop_with-back.ensures.full_only_if
