use Rattle.std.proofs.Common.{subst}
use Rattle.cfb.specs.Views.{file_case_table}
use Rattle.msi_columns.specs.Held.{columns_of}
use Rattle.msi_row_edits.specs.Edited.{EditFullOnlyWithoutRoom}
use Rattle.msi_spec.specs.Calls.{Creates}
use Rattle.msi_store.specs.Stores.{file_in}
use Rattle.msi_table_edits.specs.Making.{ChangesTableSet}
use Rattle.msi_table_edits.proofs.making.create_table.Goals as goal

pub returns-clause-makes : goal.returns-clause-makes
returns-clause-makes g c =
    subst (λ before. ChangesTableSet (λ P Q answer. Creates (file_case_table (file_in c.args.store.now)) P c.args.name.now (columns_of c.args.columns.items) Q answer) c.create_with-back.result.1 c.args.store.now c.create_with-back.new.store before
    c.create_with-back.result.0) c.replace.ensures.value c.create_with-back.ensures.makes

pub returns-clause-full_only_if : goal.returns-clause-full_only_if
returns-clause-full_only_if g c =
    subst (λ before. EditFullOnlyWithoutRoom (λ P Q answer. Creates (file_case_table (file_in c.args.store.now)) P c.args.name.now (columns_of c.args.columns.items) Q answer) c.create_with-back.result.1 c.args.store.now c.create_with-back.new.store before)
    c.replace.ensures.value c.create_with-back.ensures.full_only_if
