use Rattle.std.proofs.Common.{length, subst}
use Rattle.msi_spec.specs.Package.{stream_name}
use Rattle.msi_stored.specs.Room.{IsFullForName}
use Rattle.msi_row_edits.specs.Edited.{PutsTable}
use Rattle.msi_row_edits.proofs.editing.put_bytes.Goals as goal

pub returns-clause-puts : goal.returns-clause-puts
returns-clause-puts g c = subst (λ name. PutsTable name c.args.bytes.now c.put_table_bytes.result c.args.file.now c.put_table_bytes.new.file) c.name.ensures c.put_table_bytes.ensures.puts

pub returns-clause-full_only_if : goal.returns-clause-full_only_if
returns-clause-full_only_if g c = λ is live. subst (λ name. IsFullForName c.args.file.now (stream_name name) (length c.args.bytes.now)) c.name.ensures (c.put_table_bytes.ensures.full_only_if is live)
